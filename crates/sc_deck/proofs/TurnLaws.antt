-- Items with turns unfold as the items that they stand for, and folding keeps the unfolding.
use Rattle.std.proofs.Common.{◌≡◌, ℕ, zero, suc, ◌+◌, Bool, true, false, List, [], ◌∷◌, ◌++◌, map, replicate, refl, sym, ap, ◌∙◌, append_assoc, append-nil}
use Rattle.std.specs.Prelude.{flat_map, fold, if◌then◌else◌, slice_get, Option, Some, None}
use Rattle.std.specs.Option.{option_map, option_map_or}
use Rattle.std.proofs.lemmas.Option.{slice_get-map}
use Rattle.std.proofs.lemmas.List.{replicate_more}
use Rattle.sc_gate.specs.declared.gate.Wire.{Wire}
use Rattle.sc_gate.specs.declared.gate.Gate.{Gate}
use Rattle.sc_deck.specs.declared.item.Item.{Item}
use Rattle.sc_deck.specs.declared.item.Item.TheVariants as item
use Rattle.sc_deck.specs.Events.{Event, Enter, Return, after_events}
use Rattle.sc_deck.specs.Keys.{param_classes, params_of}
use Rattle.sc_deck.specs.Modules.{Module, from_earlier}
use Rattle.sc_gate.specs.Numbers.{Numbers, no_wires}
use Rattle.sc_deck.specs.Turns.{written_out, same_call, joined, with_folded, folded, folded_module, folded_modules}
use Rattle.sc_gate.specs.SameGates.{same_gate}
use Rattle.sc_deck.specs.Unfolding.{Unfolding, unfolding_at, unfold_item, unfold_items, unfold_module, unfoldings, unfold_on, expansion, numbered, places_with, places_after, repeated}
use Rattle.sc_deck.proofs.GateTests.{same_call-true}
use Rattle.sc_gate.proofs.SameGates.{same_gate-true}
use Rattle.sc_deck.proofs.SequenceLaws.{unfold_items-append}

-- an item that makes no wires, again and again
again : (us : List Unfolding) (i : Item) → ((places : List Wire) (next : Numbers) → places_with i places next ≡ places) → (n : ℕ) (places : List Wire) (next : Numbers) → unfold_items us (replicate n i) places next ≡ repeated n (λ k. unfold_item us i places k) next
again us i none zero places next = refl
again us i none (suc n) places next =
    let next' : Numbers = after_events next (unfold_item us i places next) in
    ap (λ (ws : List Wire). unfold_item us i places next ++ unfold_items us (replicate n i) ws next') (none places next)
    ∙ ap (λ (es : List Event). unfold_item us i places next ++ es) (again us i none n places next')

places_again : (us : List Unfolding) (i : Item) → ((places : List Wire) (next : Numbers) → places_with i places next ≡ places) → (n : ℕ) (places : List Wire) (next : Numbers) → places_after us (replicate n i) places next ≡ places
places_again us i none zero places next = refl
places_again us i none (suc n) places next =
    let next' : Numbers = after_events next (unfold_item us i places next) in
    ap (λ (ws : List Wire). places_after us (replicate n i) ws next') (none places next)
    ∙ places_again us i none n places next'

unfold_written : (us : List Unfolding) (i : Item) (places : List Wire) (next : Numbers) → unfold_items us (written_out i) places next ≡ unfold_item us i places next
unfold_written us (item.Fresh class n) places next = append-nil (unfold_item us (item.Fresh class n) places next)
unfold_written us (item.Gate gate) places next = append-nil (unfold_item us (item.Gate gate) places next)
unfold_written us (item.Call callee wires) places next = append-nil (unfold_item us (item.Call callee wires) places next)
unfold_written us (item.Gates gate turns) places next = again us (item.Gate gate) (λ _ _. refl) turns places next
unfold_written us (item.Calls callee wires turns) places next = again us (item.Call callee wires) (λ _ _. refl) turns places next

places_written : (us : List Unfolding) (i : Item) (places : List Wire) (next : Numbers) → places_after us (written_out i) places next ≡ places_with i places next
places_written us (item.Fresh class n) places next = refl
places_written us (item.Gate gate) places next = refl
places_written us (item.Call callee wires) places next = refl
places_written us (item.Gates gate turns) places next = places_again us (item.Gate gate) (λ _ _. refl) turns places next
places_written us (item.Calls callee wires turns) places next = places_again us (item.Call callee wires) (λ _ _. refl) turns places next

-- TURNS: items unfold as the list in which each is written out
pub unfold_items-written_out : (us : List Unfolding) (items : List Item) (places : List Wire) (next : Numbers) → unfold_items us items places next ≡ unfold_items us (flat_map written_out items) places next
unfold_items-written_out us [] places next = refl
unfold_items-written_out us (i ∷ items) places next =
    let events : List Event = unfold_item us i places next in
    let places' : List Wire = places_with i places next in
    let next' : Numbers = after_events next events in
    ap (λ (es : List Event). events ++ es) (unfold_items-written_out us items places' next')
    ∙ sym (λ k. unfold_written us i places next k ++ unfold_items us (flat_map written_out items) (places_written us i places next k) (after_events next (unfold_written us i places next k)))
    ∙ sym (unfold_items-append us (written_out i) (flat_map written_out items) places next)

-- an item after another is what the two stand for
both_items : (i j : Item) → flat_map written_out (i ∷ j ∷ []) ≡ written_out i ++ written_out j
both_items i j = ap (λ (l : List Item). written_out i ++ l) (append-nil (written_out j))

gate_or : (b : Bool) (g h : Gate) (n : ℕ) (i : Item) (turns : List Item) → written_out i ≡ turns → (b ≡ true → g ≡ h) → replicate n (item.Gate g) ≡ turns ++ item.Gate g ∷ [] →
    flat_map written_out (if b then item.Gates g n ∷ [] else i ∷ item.Gate h ∷ []) ≡ turns ++ item.Gate h ∷ []
gate_or true g h n i turns is same more = append-nil (replicate n (item.Gate g)) ∙ more ∙ ap (λ (k : Gate). turns ++ item.Gate k ∷ []) (same refl)
gate_or false g h n i turns is same more = both_items i (item.Gate h) ∙ ap (λ (l : List Item). l ++ item.Gate h ∷ []) is

call_or : (b : Bool) (c d : ℕ) (ws vs : List Wire) (n : ℕ) (i : Item) (turns : List Item) → written_out i ≡ turns → (b ≡ true → (c ≡ d) × (ws ≡ vs)) → replicate n (item.Call c ws) ≡ turns ++ item.Call c ws ∷ [] →
    flat_map written_out (if b then item.Calls c ws n ∷ [] else i ∷ item.Call d vs ∷ []) ≡ turns ++ item.Call d vs ∷ []
call_or true c d ws vs n i turns is same more = append-nil (replicate n (item.Call c ws)) ∙ more ∙ (let e = same refl in λ k. turns ++ item.Call (e.0 k) (e.1 k) ∷ [])
call_or false c d ws vs n i turns is same more = both_items i (item.Call d vs) ∙ ap (λ (l : List Item). l ++ item.Call d vs ∷ []) is

joined_written : (i j : Item) → flat_map written_out (joined i j) ≡ written_out i ++ written_out j
joined_written (item.Gate g) (item.Gate h) = gate_or (same_gate g h) g h 2 (item.Gate g) (item.Gate g ∷ []) refl (same_gate-true g h) refl
joined_written (item.Gates g n) (item.Gate h) = gate_or (same_gate g h) g h (n + 1) (item.Gates g n) (replicate n (item.Gate g)) refl (same_gate-true g h) (sym (replicate_more n (item.Gate g)))
joined_written (item.Call c ws) (item.Call d vs) = call_or (same_call c ws d vs) c d ws vs 2 (item.Call c ws) (item.Call c ws ∷ []) refl (same_call-true c ws d vs) refl
joined_written (item.Calls c ws n) (item.Call d vs) = call_or (same_call c ws d vs) c d ws vs (n + 1) (item.Calls c ws n) (replicate n (item.Call c ws)) refl (same_call-true c ws d vs) (sym (replicate_more n (item.Call c ws)))
joined_written (item.Fresh class n) j = both_items (item.Fresh class n) j
joined_written (item.Gate g) (item.Fresh class n) = both_items (item.Gate g) (item.Fresh class n)
joined_written (item.Gate g) (item.Call d vs) = both_items (item.Gate g) (item.Call d vs)
joined_written (item.Gate g) (item.Gates h m) = both_items (item.Gate g) (item.Gates h m)
joined_written (item.Gate g) (item.Calls d vs m) = both_items (item.Gate g) (item.Calls d vs m)
joined_written (item.Call c ws) (item.Fresh class n) = both_items (item.Call c ws) (item.Fresh class n)
joined_written (item.Call c ws) (item.Gate h) = both_items (item.Call c ws) (item.Gate h)
joined_written (item.Call c ws) (item.Gates h m) = both_items (item.Call c ws) (item.Gates h m)
joined_written (item.Call c ws) (item.Calls d vs m) = both_items (item.Call c ws) (item.Calls d vs m)
joined_written (item.Gates g n) (item.Fresh class k) = both_items (item.Gates g n) (item.Fresh class k)
joined_written (item.Gates g n) (item.Call d vs) = both_items (item.Gates g n) (item.Call d vs)
joined_written (item.Gates g n) (item.Gates h m) = both_items (item.Gates g n) (item.Gates h m)
joined_written (item.Gates g n) (item.Calls d vs m) = both_items (item.Gates g n) (item.Calls d vs m)
joined_written (item.Calls c ws n) (item.Fresh class k) = both_items (item.Calls c ws n) (item.Fresh class k)
joined_written (item.Calls c ws n) (item.Gate h) = both_items (item.Calls c ws n) (item.Gate h)
joined_written (item.Calls c ws n) (item.Gates h m) = both_items (item.Calls c ws n) (item.Gates h m)
joined_written (item.Calls c ws n) (item.Calls d vs m) = both_items (item.Calls c ws n) (item.Calls d vs m)

with_folded_written : (items : List Item) (j : Item) → flat_map written_out (with_folded items j) ≡ flat_map written_out items ++ written_out j
with_folded_written [] j = append-nil (written_out j)
with_folded_written (i ∷ []) j = joined_written i j ∙ ap (λ (l : List Item). l ++ written_out j) (sym (append-nil (written_out i)))
with_folded_written (i ∷ k ∷ items) j =
    ap (λ (l : List Item). written_out i ++ l) (with_folded_written (k ∷ items) j)
    ∙ sym (append_assoc (written_out i) (flat_map written_out (k ∷ items)) (written_out j))

folded_onto : (done items : List Item) → flat_map written_out (fold with_folded done items) ≡ flat_map written_out done ++ flat_map written_out items
folded_onto done [] = sym (append-nil (flat_map written_out done))
folded_onto done (i ∷ items) =
    folded_onto (with_folded done i) items
    ∙ ap (λ (l : List Item). l ++ flat_map written_out items) (with_folded_written done i)
    ∙ append_assoc (flat_map written_out done) (written_out i) (flat_map written_out items)

-- folded items stand for the same items
pub folded-written_out : (items : List Item) → flat_map written_out (folded items) ≡ flat_map written_out items
folded-written_out items = folded_onto [] items

-- FOLDING KEEPS THE UNFOLDING
pub unfold_items-folded : (us : List Unfolding) (items : List Item) (places : List Wire) (next : Numbers) → unfold_items us (folded items) places next ≡ unfold_items us items places next
unfold_items-folded us items places next =
    unfold_items-written_out us (folded items) places next
    ∙ ap (λ (l : List Item). unfold_items us l places next) (folded-written_out items)
    ∙ sym (unfold_items-written_out us items places next)

-- one more item of a list that is folded
pub folded-push : (items : List Item) (i : Item) → folded (items ++ i ∷ []) ≡ with_folded (folded items) i
folded-push items i = onto [] items
  where
    onto : (done items : List Item) → fold with_folded done (items ++ i ∷ []) ≡ with_folded (fold with_folded done items) i
    onto done [] = refl
    onto done (j ∷ items) = onto (with_folded done j) items

unfold_module-folded : (us : List Unfolding) (m : Module) → unfold_module us (folded_module m) ≡ unfold_module us m
unfold_module-folded us m = λ k wires next. Enter m.key wires ∷ (unfold_items-folded us m.items wires next k ++ Return m.key ∷ [])

pub from_earlier-map : {A : Type 0} (f : List A → Module → A) (h : Module → Module) → ((done : List A) (m : Module) → f done (h m) ≡ f done m) → (done : List A) (modules : List Module) → from_earlier f done (map h modules) ≡ from_earlier f done modules
from_earlier-map f h same done [] = refl
from_earlier-map f h same done (m ∷ modules) =
    ap (λ x. from_earlier f (done ++ x ∷ []) (map h modules)) (same done m) ∙ from_earlier-map f h same (done ++ f done m ∷ []) modules

pub unfoldings-folded : (modules : List Module) → unfoldings (folded_modules modules) ≡ unfoldings modules
unfoldings-folded modules = from_earlier-map unfold_module folded_module unfold_module-folded [] modules

-- A MODULE LIST AND ITS FOLDED LIST HAVE THE SAME UNFOLDING
pub expansion-folded : (modules : List Module) (i : ℕ) → expansion (folded_modules modules) i ≡ expansion modules i
expansion-folded modules i =
    ap (λ o. option_map_or (λ (m : Module). unfold_on (folded_modules modules) i (numbered (param_classes m.key) no_wires) (params_of m.key)) o []) (slice_get-map folded_module modules i)
    ∙ through (slice_get modules i)
    ∙ ap (λ (us : List Unfolding). option_map_or (λ (m : Module). unfolding_at us i (numbered (param_classes m.key) no_wires) (params_of m.key)) (slice_get modules i) []) (unfoldings-folded modules)
  where
    through : (o : Option Module) → option_map_or (λ (m : Module). unfold_on (folded_modules modules) i (numbered (param_classes m.key) no_wires) (params_of m.key)) (option_map folded_module o) []
        ≡ option_map_or (λ (m : Module). unfold_on (folded_modules modules) i (numbered (param_classes m.key) no_wires) (params_of m.key)) o []
    through None = refl
    through (Some m) = refl
