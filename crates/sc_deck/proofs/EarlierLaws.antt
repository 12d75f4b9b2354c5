-- Values that are made from those of callees, at each module of a deck.
use Rattle.std.proofs.Common.{◌≡◌, ℕ, zero, suc, ◌+◌, ◌<◌, List, [], ◌∷◌, ◌++◌, map, length, slice_get, Some, refl, sym, ap, ◌∙◌, subst, arith, append-nil, append_assoc, length-append}
use Rattle.std.specs.Prelude.{slice_index}
use Rattle.std.specs.List.{AllByRecursion}
use Rattle.sc_gate.specs.declared.gate.Wire.{Wire}
use Rattle.sc_deck.specs.declared.item.Item.{Item}
use Rattle.sc_deck.specs.declared.item.Item.TheVariants as item
use Rattle.sc_deck.specs.Bodies.{wires_of}
use Rattle.sc_deck.specs.Decks.{CallsFit, CallEarlier, IsDeck}
use Rattle.sc_deck.specs.Events.{Event, Enter, Return, after_events}
use Rattle.sc_deck.specs.Items.{callees_of}
use Rattle.sc_deck.specs.Modules.{Module, ReadsCallees, body_of, from_earlier, greatest, height_over, heights_of, reach_over, reaches_of}
use Rattle.sc_gate.specs.Numbers.{Numbers, both}
use Rattle.sc_deck.specs.Unfolding.{Unfolding, unfolding_at, unfold_item, unfold_items, unfold_module, unfoldings, unfold_on, places_with, placed, repeated}
use Rattle.sc_deck.proofs.DeckLemmas.{callee_there}
use Rattle.sc_deck.proofs.SequenceLaws.{unfolding_at-before}

-- what fitting items call is earlier
pub callees_below : (before : List Module) (items : List Item) → CallsFit before items → AllByRecursion (λ j. j < length before) (callees_of items)
callees_below before [] fit = tt
callees_below before (item.Fresh class n ∷ items) fit = callees_below before items fit.1
callees_below before (item.Gate gate ∷ items) fit = callees_below before items fit.1
callees_below before (item.Gates gate turns ∷ items) fit = callees_below before items fit.1
callees_below before (item.Call callee wires ∷ items) fit = (callee_there _ before callee fit.0, callees_below before items fit.1)
callees_below before (item.Calls callee wires turns ∷ items) fit = (callee_there _ before callee fit.0, callees_below before items fit.1)

pub index_front : (front rest : List ℕ) (j : ℕ) → j < length front → slice_index (front ++ rest) j ≡ slice_index front j
index_front [] rest j below = absurd (omega arith)
index_front (n ∷ front) rest zero below = refl
index_front (n ∷ front) rest (suc j) below = let lt : j < length front = omega arith in index_front front rest j lt

pub indexes_front : (front rest js : List ℕ) → AllByRecursion (λ j. j < length front) js → map (slice_index (front ++ rest)) js ≡ map (slice_index front) js
indexes_front front rest [] below = refl
indexes_front front rest (j ∷ js) below = let more = indexes_front front rest js below.1 in λ i. index_front front rest j below.0 i ∷ more i

slice_get_seam : {X : Type 0} (xs ys : List X) (i : ℕ) → slice_get (xs ++ ys) (length xs + i) ≡ slice_get ys i
slice_get_seam {X = X} [] ys i = let e : length {A = X} [] + i ≡ i = omega arith in ap (slice_get ys) e
slice_get_seam (x ∷ xs) ys i = let e : length (x ∷ xs) + i ≡ suc (length xs + i) = omega arith in ap (slice_get (x ∷ (xs ++ ys))) e ∙ slice_get_seam xs ys i

-- the values of later modules come behind
pub from_earlier-extends : {A : Type 0} (f : List A → Module → A) (done : List A) (modules : List Module) → (rest : List A) × (from_earlier f done modules ≡ done ++ rest)
from_earlier-extends f done [] = ([], sym (append-nil done))
from_earlier-extends f done (m ∷ modules) =
    let h = from_earlier-extends f (done ++ f done m ∷ []) modules in
    (f done m ∷ h.0, h.1 ∙ append_assoc done (f done m ∷ []) h.0)

at_from : {A : Type 0} (f : List A → Module → A) → ReadsCallees A f → (before modules : List Module) (done : List A) → length done ≡ length before → CallEarlier before modules → (i : ℕ) (m : Module) → slice_get modules i ≡ Some m →
    slice_get (from_earlier f done modules) (length done + i) ≡ Some (f (from_earlier f done modules) m)
at_from f reads before [] done long calls i m at = cc
at_from f reads before (n ∷ modules) done long calls zero m at =
    let same : n ≡ m = cc at in
    let rest = from_earlier-extends f (done ++ f done n ∷ []) modules in
    let whole : from_earlier f (done ++ f done n ∷ []) modules ≡ done ++ (f done n ∷ rest.0) = rest.1 ∙ append_assoc done (f done n ∷ []) rest.0 in
    let below : AllByRecursion (λ j. j < length done) (callees_of n.items) = subst (λ (k : ℕ). AllByRecursion (λ j. j < k) (callees_of n.items)) (sym long) (callees_below before n.items calls.0) in
    ap (λ l. slice_get l (length done + 0)) whole ∙ slice_get_seam done (f done n ∷ rest.0) 0
    ∙ ap Some (sym (reads done (f done n ∷ rest.0) n below)) ∙ (λ k. Some (f (sym whole k) (same k)))
at_from f reads before (n ∷ modules) done long calls (suc i) m at =
    let e : length done + suc i ≡ length (done ++ f done n ∷ []) + i = let l = length-append done (f done n ∷ []) in omega arith in
    ap (slice_get (from_earlier f (done ++ f done n ∷ []) modules)) e
    ∙ at_from f reads (before ++ n ∷ []) modules (done ++ f done n ∷ [])
    (length-append done (f done n ∷ []) ∙ ap (λ (k : ℕ). k + 1) long ∙ sym (length-append before (n ∷ []))) calls.1 i m at

-- A VALUE MADE OF CALLEES' VALUES: where f reads the values of callees alone, each module has f of all values
pub from_earlier-at : {A : Type 0} (f : List A → Module → A) → ReadsCallees A f → (modules : List Module) → CallEarlier [] modules → (i : ℕ) (m : Module) → slice_get modules i ≡ Some m →
    slice_get (from_earlier f [] modules) i ≡ Some (f (from_earlier f [] modules) m)
from_earlier-at {A = A} f reads modules calls i m at =
    let e : i ≡ length {A = A} [] + i = omega arith in
    ap (slice_get (from_earlier f [] modules)) e ∙ at_from f reads [] modules [] refl calls i m at

pub heights-read : ReadsCallees ℕ height_over
heights-read done more m below = ap (λ (ns : List ℕ). greatest ns + 1) (indexes_front done more (callees_of m.items) below)

pub reaches-read : ReadsCallees ℕ reach_over
reaches-read done more m below = ap (λ (ns : List ℕ). greatest ns + both (wires_of (body_of m))) (indexes_front done more (callees_of m.items) below)

-- an item and the rest of items
split_callees : (P : ℕ → Type 0) (i : Item) (items : List Item) → AllByRecursion P (callees_of (i ∷ items)) → AllByRecursion P (callees_of (i ∷ [])) × AllByRecursion P (callees_of items)
split_callees P (item.Fresh class n) items all = (tt, all)
split_callees P (item.Gate gate) items all = (tt, all)
split_callees P (item.Gates gate turns) items all = (tt, all)
split_callees P (item.Call callee wires) items all = ((all.0, tt), all.1)
split_callees P (item.Calls callee wires turns) items all = ((all.0, tt), all.1)

item_before : (us more : List Unfolding) (i : Item) → AllByRecursion (λ j. j < length us) (callees_of (i ∷ [])) → (places : List Wire) (next : Numbers) → unfold_item (us ++ more) i places next ≡ unfold_item us i places next
item_before us more (item.Fresh class n) below places next = refl
item_before us more (item.Gate gate) below places next = refl
item_before us more (item.Gates gate turns) below places next = refl
item_before us more (item.Call callee wires) below places next = λ k. unfolding_at-before us more callee below.0 k (map (placed places) wires) next
item_before us more (item.Calls callee wires turns) below places next = λ k. repeated turns (unfolding_at-before us more callee below.0 k (map (placed places) wires)) next

-- items unfold by the unfoldings of their callees alone
pub unfold_items-before : (us more : List Unfolding) (items : List Item) → AllByRecursion (λ j. j < length us) (callees_of items) → (places : List Wire) (next : Numbers) → unfold_items (us ++ more) items places next ≡ unfold_items us items places next
unfold_items-before us more [] below places next = refl
unfold_items-before us more (i ∷ items) below places next =
    let parts = split_callees (λ j. j < length us) i items below in
    let here = item_before us more i parts.0 places next in
    (λ k. here k ++ unfold_items (us ++ more) items (places_with i places next) (after_events next (here k)))
    ∙ ap (λ (es : List Event). unfold_item us i places next ++ es) (unfold_items-before us more items parts.1 (places_with i places next) (after_events next (unfold_item us i places next)))

pub unfoldings-read : ReadsCallees Unfolding unfold_module
unfoldings-read done more m below = λ k wires next. Enter m.key wires ∷ (unfold_items-before done more m.items below wires next k ++ Return m.key ∷ [])

unfolding_at-get : (us : List Unfolding) (i : ℕ) (u : Unfolding) → slice_get us i ≡ Some u → unfolding_at us i ≡ u
unfolding_at-get [] i u at = cc
unfolding_at-get (v ∷ us) zero u at = let e : v ≡ u = cc at in e
unfolding_at-get (v ∷ us) (suc i) u at = λ k wires next. unfolding_at-get us i u at k wires next

-- EACH MODULE OF A DECK unfolds to its entering, its items over the unfoldings of its callees, and its return
pub unfold_on-at : (modules : List Module) → IsDeck modules → (i : ℕ) (m : Module) → slice_get modules i ≡ Some m → unfold_on modules i ≡ unfold_module (unfoldings modules) m
unfold_on-at modules deck i m at = unfolding_at-get (unfoldings modules) i (unfold_module (unfoldings modules) m) (from_earlier-at unfold_module unfoldings-read modules deck.calls i m at)

pub height-at : (modules : List Module) → IsDeck modules → (i : ℕ) (m : Module) → slice_get modules i ≡ Some m → slice_get (heights_of modules) i ≡ Some (height_over (heights_of modules) m)
height-at modules deck i m at = from_earlier-at height_over heights-read modules deck.calls i m at

pub reach-at : (modules : List Module) → IsDeck modules → (i : ℕ) (m : Module) → slice_get modules i ≡ Some m → slice_get (reaches_of modules) i ≡ Some (reach_over (reaches_of modules) m)
reach-at modules deck i m at = from_earlier-at reach_over reaches-read modules deck.calls i m at
