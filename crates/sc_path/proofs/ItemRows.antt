-- One more item of a body, on the rows of the items before it.
use Rattle.std.proofs.Common.{◌≡◌, ℕ, zero, suc, ◌+◌, ◌-◌, ◌<◌, ◌≤◌, List, [], ◌∷◌, ◌++◌, map, length, get_or, slice_get, Bool, true, false, cond, Option, Some, None, ◌⊎◌, inl, inr, refl, sym, ap, ◌∙◌, subst, arith, append-nil, length-append}
use Rattle.std.specs.Prelude.{nat_lt, slice_index, ◌&&◌, not}
use Rattle.std.specs.List.{AllByRecursion}
use Rattle.std.proofs.lemmas.Bool.{cases_lt}
use Rattle.std.proofs.lemmas.List.{get_or-map, get_or-append-add, map-append}
use Rattle.std.proofs.lemmas.List.Elements.{All-filter, All-from_recursion}
use Rattle.sc_base.specs.declared.names.Class.{Class}
use Rattle.sc_base.specs.declared.names.Class.TheVariants.{Q, C}
use Rattle.sc_gate.specs.declared.gate.Wire.{Wire}
use Rattle.sc_gate.specs.declared.gate.Gate.{Gate}
use Rattle.sc_gate.specs.Chains.{Timed, timed, best}
use Rattle.sc_gate.specs.Gates.{class_of, operands, AreDistinct}
use Rattle.sc_gate.specs.Numbers.{Numbers, number_of, both, IsThere, AreThere}
use Rattle.sc_gate.specs.Paths.{WiresAre}
use Rattle.sc_gate.specs.Renaming.{rename_timed}
use Rattle.sc_gate.specs.Wires.{same_class, member}
use Rattle.sc_gate.proofs.Joined.{in_second}
use Rattle.sc_gate.proofs.PathRename.{best_renamed}
use Rattle.sc_gate.proofs.RenameLemmas.{distinct-rename}
use Rattle.sc_gate.proofs.WireLemmas.{same_class-refl, member_cases, member_here, member_later}
use Rattle.sc_deck.specs.declared.item.Item.{Item}
use Rattle.sc_deck.specs.declared.key.Key.{Key}
use Rattle.sc_deck.specs.Bodies.{after_items, ItemsFit}
use Rattle.sc_deck.specs.Decks.{CallsFit, IsDeck}
use Rattle.sc_deck.specs.Events.{Event, gates_in, after_events}
use Rattle.sc_deck.specs.Items.{WiresFit, after_item}
use Rattle.sc_deck.specs.Keys.{param_classes, params_of}
use Rattle.sc_deck.specs.Modules.{Module}
use Rattle.sc_deck.specs.Placing.{shifted, put, Sized, GatesOn, Fills}
use Rattle.sc_deck.specs.Renaming.{wire}
use Rattle.sc_deck.specs.Unfolding.{Unfolding, unfold_item, unfoldings, unfold_on, places_with, places_after, placed, repeated, of_class}
use Rattle.sc_deck.proofs.FormedLaws.{Fine, put-one_to_one}
use Rattle.sc_deck.proofs.PlaceLaws.{of_class-map, placed-classes, Sized-params}
use Rattle.sc_deck.proofs.PutLaws.{put-class}
use Rattle.sc_deck.proofs.SequenceLaws.{gates_in-append, after_events-append, unfold_items-append, places_after-append}
use Rattle.sc_deck.proofs.WireLaws.{after_events-grow, placed-in, placed-all, unfold_on-wires}
use Rattle.sc_path.specs.declared.row.Entry.{Entry}
use Rattle.sc_path.specs.Rows.{Passes}
use Rattle.sc_path.specs.Tables.{param, IsTable}
use Rattle.sc_path.specs.Fronts.{Sites, Stands, Placed}
use Rattle.sc_path.specs.Places.{row_number, rows_for, start_places, events_of, body_sites}
use Rattle.sc_path.proofs.BodyRows.{fine_start, fine_end, there_grow, placed_put, row_there, site_row}
use Rattle.sc_path.proofs.CallStar.{lt_true, lt_false}
use Rattle.sc_path.proofs.PowerLemmas.{param_low, param_high, passes_in}
use Rattle.sc_path.proofs.Reached.{Reached, reached}
use Rattle.sc_path.proofs.Walk.{IsLater, Grows, places_grow, placed_after}

all_append : {X : Type 0} (P : X → Type 0) (xs ys : List X) → AllByRecursion P xs → AllByRecursion P ys → AllByRecursion P (xs ++ ys)
all_append P [] ys a b = b
all_append P (x ∷ xs) ys a b = (a.0, all_append P xs ys a.1 b)

pub all_mono : {X : Type 0} (P R : X → Type 0) (xs : List X) → ((x : X) → P x → R x) → AllByRecursion P xs → AllByRecursion R xs
all_mono P R [] f a = tt
all_mono P R (x ∷ xs) f a = (f x a.0, all_mono P R xs f a.1)

pub after_items-append : (numbers : Numbers) (xs ys : List Item) → after_items numbers (xs ++ ys) ≡ after_items (after_items numbers xs) ys
after_items-append numbers [] ys = refl
after_items-append numbers (x ∷ xs) ys = after_items-append (after_item numbers x) xs ys

-- the gates of one more item
pub gates_more : (times : List ℕ) (us : List Unfolding) (key : Key) (xs : List Item) (i : Item) →
    map (timed times) (gates_in (events_of us key (xs ++ i ∷ [])))
    ≡ map (timed times) (gates_in (events_of us key xs)) ++ map (timed times) (gates_in (unfold_item us i (places_after us xs (start_places key) (params_of key)) (after_events (params_of key) (events_of us key xs))))
gates_more times us key xs i =
    let before : List Wire = places_after us xs (start_places key) (params_of key) in
    let next : Numbers = after_events (params_of key) (events_of us key xs) in
    let events : List Event = unfold_item us i before next in
    ap (λ (es : List Event). map (timed times) (gates_in es)) (unfold_items-append us xs (i ∷ []) (start_places key) (params_of key) ∙ ap (λ (es : List Event). events_of us key xs ++ es) (append-nil events))
    ∙ ap (map (timed times)) (gates_in-append (events_of us key xs) events)
    ∙ map-append (timed times) (gates_in (events_of us key xs)) (gates_in events)

-- the row of a wire that was made before stands for its place
pub site_before : (us : List Unfolding) (key : Key) (xs rest : List Item) (v : Wire) → IsThere (after_items (params_of key) xs) v →
    (body_sites us key (xs ++ rest)).at (row_number (after_items (params_of key) (xs ++ rest)).qubits v) ≡ placed (places_after us xs (start_places key) (params_of key)) v
site_before us key xs rest v there =
    site_row us key (xs ++ rest) v (subst (λ (n : Numbers). IsThere n v) (sym (after_items-append (params_of key) xs rest)) (there_grow rest (after_items (params_of key) xs) v there))
    ∙ ap (λ (ws : List Wire). placed ws v) (places_after-append us xs rest (start_places key) (params_of key))
    ∙ placed_after us rest (places_after us xs (start_places key) (params_of key)) (after_items (params_of key) xs) (after_events (params_of key) (events_of us key xs)) (fine_end us key xs).sized v there

map_put : (places : List Wire) (numbers next : Numbers) → Sized places numbers → (ws : List Wire) → AreThere numbers ws → map (placed places) ws ≡ map (put places next) ws
map_put places numbers next sized [] there = refl
map_put places numbers next sized (w ∷ ws) there =
    let here = placed_put places numbers next sized w there.0 in
    let rest = map_put places numbers next sized ws there.1 in
    λ i. here i ∷ rest i

member_by : (P : Wire → Type 0) (v w : Wire) → P v → (ws : List Wire) → (member w ws ≡ true → P w) → (v ≡ w) ⊎ (member w ws ≡ true) → P w
member_by P v w a ws f (inl e) = subst P e a
member_by P v w a ws f (inr k) = f k

at_member : (P : Wire → Type 0) (ws : List Wire) → AllByRecursion P ws → (w : Wire) → member w ws ≡ true → P w
at_member P [] a w m = cc
at_member P (v ∷ ws) a w m = member_by P v w a.0 ws (at_member P ws a.1 w) (member_cases v w ws m)

-- what holds of each operand holds of each wire of what chains see
pub wires_are : (P : Wire → Type 0) (times : List ℕ) (gates : List Gate) → GatesOn P gates → WiresAre P (map (timed times) gates)
wires_are P times [] a = tt
wires_are P times (g ∷ gates) a = (at_member P (operands g) a.0, wires_are P times gates a.1)

pub gates_mono : (P R : Wire → Type 0) (gates : List Gate) → ((w : Wire) → P w → R w) → GatesOn P gates → GatesOn R gates
gates_mono P R gates f a = all_mono (λ g. AllByRecursion P (operands g)) (λ g. AllByRecursion R (operands g)) gates (λ g. all_mono P R (operands g) f) a

-- the wires of turns
module _ (P : Wire → Type 0) where
  on_append : (xs ys : List Event) → GatesOn P (gates_in xs) → GatesOn P (gates_in ys) → GatesOn P (gates_in (xs ++ ys))
  on_append xs ys a b = subst (GatesOn P) (sym (gates_in-append xs ys)) (all_append (λ g. AllByRecursion P (operands g)) (gates_in xs) (gates_in ys) a b)

  pub repeated_on : (once : Numbers → List Event) → ((next : Numbers) → Fills P next (after_events next (once next)) → GatesOn P (gates_in (once next))) →
      (n : ℕ) (next : Numbers) → Fills P next (after_events next (repeated n once next)) → GatesOn P (gates_in (repeated n once next))
  repeated_on once each zero next fills = tt
  repeated_on once each (suc n) next fills =
      let rest : List Event = repeated n once (after_events next (once next)) in
      on_append (once next) rest
      (each next (λ class k from to. fills class k from (let e = ap (number_of class) (after_events-append next (once next) rest) in let g = after_events-grow (after_events next (once next)) rest class in omega arith)))
      (repeated_on once each n (after_events next (once next))
      (λ class k from to. fills class k (let g = after_events-grow next (once next) class in omega arith) (let e = ap (number_of class) (after_events-append next (once next) rest) in omega arith)))

-- where the row of a wire is among the rows of its class
listed_one : (f : Wire → ℕ) (c : Class) (v : Wire) (ws : List Wire) → v.class ≡ c → member v ws ≡ true → (i : ℕ) × (i < length (of_class c ws)) × (f v ≡ slice_index (map f (of_class c ws)) i)
listed_one f c v [] e m = cc
listed_one f c v (w ∷ ws) e m = by (member_cases w v ws m) (same_class c w.class) refl (λ k. listed_one f c v ws e k)
  where
    by : (w ≡ v) ⊎ (member v ws ≡ true) → (t : Bool) → same_class c w.class ≡ t → (member v ws ≡ true → (i : ℕ) × (i < length (of_class c ws)) × (f v ≡ slice_index (map f (of_class c ws)) i)) →
        (i : ℕ) × (i < length (cond t (w ∷ of_class c ws) (of_class c ws))) × (f v ≡ slice_index (map f (cond t (w ∷ of_class c ws) (of_class c ws))) i)
    by (inl p) true h rest = (0, omega arith, ap f (sym p))
    by (inl p) false h rest =
        let q : same_class c w.class ≡ true = ap (λ (x : Wire). same_class c x.class) p ∙ ap (same_class c) e ∙ same_class-refl c in
        let x : true ≡ false = sym q ∙ h in cc
    by (inr k) true h rest = let r = rest k in (suc r.0, (let l = r.1 in omega arith), r.2)
    by (inr k) false h rest = rest k

length_map : (f : Wire → ℕ) (ws : List Wire) → length (map f ws) ≡ length ws
length_map f [] = refl
length_map f (w ∷ ws) = ap suc (length_map f ws)

left_index : (xs ys : List ℕ) (i : ℕ) → i < length xs → slice_index (xs ++ ys) i ≡ slice_index xs i
left_index [] ys i h = absurd (omega arith)
left_index (x ∷ xs) ys zero h = refl
left_index (x ∷ xs) ys (suc i) h = left_index xs ys i (omega arith)

-- the rows of a call have that of each of its wires
pub listed : (qubits : ℕ) (v : Wire) (ws : List Wire) → member v ws ≡ true → (i : ℕ) × (i < length (rows_for qubits ws)) × (row_number qubits v ≡ slice_index (rows_for qubits ws) i)
listed qubits v ws m = by v.class refl
  where
    by : (c : Class) → v.class ≡ c → (i : ℕ) × (i < length (rows_for qubits ws)) × (row_number qubits v ≡ slice_index (rows_for qubits ws) i)
    by Q e =
        let r = listed_one (row_number qubits) Q v ws e m in
        let l = length_map (row_number qubits) (of_class Q ws) in
        let a = length-append (map (row_number qubits) (of_class Q ws)) (map (row_number qubits) (of_class C ws)) in
        let h = r.1 in
        (r.0, omega arith, r.2 ∙ sym (left_index (map (row_number qubits) (of_class Q ws)) (map (row_number qubits) (of_class C ws)) r.0 (omega arith)))
    by C e =
        let r = listed_one (row_number qubits) C v ws e m in
        let l = length_map (row_number qubits) (of_class C ws) in
        let a = length-append (map (row_number qubits) (of_class Q ws)) (map (row_number qubits) (of_class C ws)) in
        let h = r.1 in
        (length (map (row_number qubits) (of_class Q ws)) + r.0, omega arith, r.2 ∙ sym (get_or-append-add (map (row_number qubits) (of_class Q ws)) (map (row_number qubits) (of_class C ws)) r.0 0))

-- the wires from the one number on and below the other
abbrev pub fresh_between : Numbers → Numbers → Wire → Bool
fresh_between next later w = not (nat_lt w.number (number_of w.class next)) && nat_lt w.number (number_of w.class later)

fresh_low : (next later : Numbers) (w : Wire) → IsThere next w → fresh_between next later w ≡ false
fresh_low next later w h = ap (λ (t : Bool). not t && nat_lt w.number (number_of w.class later)) (lt_true w.number (number_of w.class next) h)

and_none : (t : Bool) → (t && false) ≡ false
and_none true = refl
and_none false = refl

fresh_high : (next later : Numbers) (w : Wire) → number_of w.class later ≤ w.number → fresh_between next later w ≡ false
fresh_high next later w h =
    ap (λ (t : Bool). not (nat_lt w.number (number_of w.class next)) && t) (lt_false w.number (number_of w.class later) h) ∙ and_none (not (nat_lt w.number (number_of w.class next)))

fresh_here : (next later : Numbers) (c : Class) (k : ℕ) → number_of c next ≤ k → k < number_of c later → fresh_between next later (wire c k) ≡ true
fresh_here next later c k a b =
    ap (λ (t : Bool). not t && nat_lt k (number_of c later)) (lt_false k (number_of c next) a) ∙ lt_true k (number_of c later) b

map_all : (P : Wire → Type 0) (f : Wire → Wire) (ws : List Wire) → ((v : Wire) → member v ws ≡ true → P (f v)) → AllByRecursion P (map f ws)
map_all P f [] h = tt
map_all P f (w ∷ ws) h = (h w (member_here w ws), map_all P f ws (λ v k. h v (member_later w v ws k)))

there_member : (numbers : Numbers) (ws : List Wire) → AreThere numbers ws → (v : Wire) → member v ws ≡ true → IsThere numbers v
there_member numbers ws a v m = at_member (IsThere numbers) ws a v m

module _ (modules : List Module) (deck : IsDeck modules) (key : Key) (xs : List Item) (i : Item) (ys : List Item)
    (fits : ItemsFit (params_of key) (xs ++ i ∷ ys)) (calls : CallsFit modules (xs ++ i ∷ ys)) where
  abbrev us : List Unfolding
  us = unfoldings modules

  abbrev before : List Wire
  before = places_after us xs (start_places key) (params_of key)

  abbrev have : Numbers
  have = after_items (params_of key) xs

  abbrev next : Numbers
  next = after_events (params_of key) (events_of us key xs)

  abbrev later : Numbers
  later = after_events next (unfold_item us i before next)

  abbrev ends : Numbers
  ends = after_items (params_of key) (xs ++ i ∷ ys)

  abbrev sites : Sites
  sites = body_sites us key (xs ++ i ∷ ys)

  here : Reached modules xs i (start_places key) (params_of key) (params_of key)
  here = reached modules deck xs i ys (start_places key) (params_of key) (params_of key) (fine_start key) fits calls

  fine : Fine before have next
  fine = here.fine

  -- places of other items are not among the fresh wires of this one
  others : places_with i before next ≡ before → AllByRecursion (λ w. fresh_between next later w ≡ false) (places_after us (xs ++ i ∷ ys) (start_places key) (params_of key))
  others stays =
      let g : Grows us ys before later = places_grow us ys before later in
      subst (AllByRecursion (λ w. fresh_between next later w ≡ false))
      (sym (places_after-append us xs (i ∷ ys) (start_places key) (params_of key) ∙ ap (λ (ws : List Wire). places_after us ys ws later) stays ∙ g.is))
      (all_append (λ w. fresh_between next later w ≡ false) before g.more
      (all_mono (IsThere next) (λ w. fresh_between next later w ≡ false) before (fresh_low next later) fine.there)
      (all_mono (IsLater later) (λ w. fresh_between next later w ≡ false) g.more (fresh_high next later) g.later))

  module _ (wires : List Wire) (wires_fit : WiresFit have wires) (m : Module) (classes : map class_of wires ≡ param_classes m.key) where
    abbrev passed : List Wire
    passed = map (placed before) wires

    abbrev q : ℕ
    q = (params_of m.key).qubits

    there : AreThere next passed
    there = placed-all (IsThere next) before have fine.sized fine.there wires wires_fit.there

    same : passed ≡ map (put before next) wires
    same = map_put before have next fine.sized wires wires_fit.there

    distinct : AreDistinct passed
    distinct = subst AreDistinct (sym same) (distinct-rename (put before next) wires (λ v w _ _ e. put-one_to_one before next fine.distinct fine.there v w e) wires_fit.distinct)

    kinds : map class_of passed ≡ param_classes m.key
    kinds = placed-classes before have fine.sized wires wires_fit.there ∙ classes

    of_passed : (c : Class) → of_class c passed ≡ map (put before next) (of_class c wires)
    of_passed c = ap (of_class c) same ∙ of_class-map (put before next) (put-class before next) c wires

    many : (c : Class) → length (of_class c wires) ≡ number_of c (params_of m.key)
    many c = (Sized-params wires m.key classes).count c

    length_put : (f : Wire → Wire) (ws : List Wire) → length (map f ws) ≡ length ws
    length_put f [] = refl
    length_put f (w ∷ ws) = ap suc (length_put f ws)

    -- a parameter of the callee is put where the row of its wire stands
    at_class : (c : Class) (j : ℕ) → j < number_of c (params_of m.key) → put passed next (wire c j) ≡ sites.at (row_number ends.qubits (get_or (of_class c wires) j (wire Q 0)))
    at_class c j h =
        let n = many c in
        let l : j < length (of_class c wires) = omega arith in
        let v : Wire = get_or (of_class c wires) j (wire Q 0) in
        let h : IsThere have (get_or (of_class c wires) j (wire Q 0)) = All-filter (λ (w : Wire). same_class c w.class) (IsThere have) wires (All-from_recursion (IsThere have) wires wires_fit.there) j (wire Q 0) l in
        ap (λ (ws : List Wire). get_or ws j (shifted (length (of_class c passed)) (number_of c next) (wire c j))) (of_passed c)
        ∙ get_or-map (put before next) (of_class c wires) j (wire Q 0) (shifted (length (of_class c passed)) (number_of c next) (wire c j)) l
        ∙ sym (placed_put before have next fine.sized (get_or (of_class c wires) j (wire Q 0)) h)
        ∙ sym (site_before us key xs (i ∷ ys) (get_or (of_class c wires) j (wire Q 0)) h)

    row_at_class : (c : Class) (j : ℕ) → j < number_of c (params_of m.key) → slice_index (map (row_number ends.qubits) (of_class c wires)) j ≡ row_number ends.qubits (get_or (of_class c wires) j (wire Q 0))
    row_at_class c j h = let n = many c in get_or-map (row_number ends.qubits) (of_class c wires) j (wire Q 0) 0 (omega arith)

    -- the parameters of the callee stand for the rows of the call
    put_param : (j : ℕ) → j < length (rows_for ends.qubits wires) → (j < q) ⊎ (q ≤ j) → put passed next (param q j) ≡ sites.at (slice_index (rows_for ends.qubits wires) j)
    put_param j h (inl l) =
        let n = many Q in
        let k = length_map (row_number ends.qubits) (of_class Q wires) in
        ap (put passed next) (param_low q j l) ∙ at_class Q j l
        ∙ ap sites.at (sym (left_index (map (row_number ends.qubits) (of_class Q wires)) (map (row_number ends.qubits) (of_class C wires)) j (omega arith) ∙ row_at_class Q j l))
    put_param j h (inr l) =
        let n = many Q in
        let l' = many C in
        let k = length_map (row_number ends.qubits) (of_class Q wires) in
        let k' = length_map (row_number ends.qubits) (of_class C wires) in
        let a = length-append (map (row_number ends.qubits) (of_class Q wires)) (map (row_number ends.qubits) (of_class C wires)) in
        let b : j - q < (params_of m.key).cbits = omega arith in
        let e : length (map (row_number ends.qubits) (of_class Q wires)) + (j - q) ≡ j = omega arith in
        ap (put passed next) (param_high q j l) ∙ at_class C (j - q) b
        ∙ ap sites.at
        (sym (ap (slice_index (rows_for ends.qubits wires)) (sym e)
        ∙ get_or-append-add (map (row_number ends.qubits) (of_class Q wires)) (map (row_number ends.qubits) (of_class C wires)) (j - q) 0
        ∙ row_at_class C (j - q) b))

    abbrev pub AfterCall : Wire → Type 0
    AfterCall w = ((j : ℕ) × (j < length (rows_for ends.qubits wires)) × (w ≡ sites.at (slice_index (rows_for ends.qubits wires) j))) ⊎ (fresh_between next later w ≡ true)

    passed_are : AllByRecursion AfterCall passed
    passed_are = map_all AfterCall (placed before) wires
        (λ v k.
        let r = listed ends.qubits v wires k in
        let h = there_member have wires wires_fit.there v k in
        inl (r.0, r.1, sym (site_before us key xs (i ∷ ys) v h) ∙ ap sites.at r.2))

    fills : Fills AfterCall next later
    fills = λ class k from to. inr (fresh_here next later class k from to)

    -- THE PLACE OF A CALL among the rows
    pub call_placed : (times : List ℕ) (callee : List Timed) (n k : ℕ) → n ≡ both ends → k ≡ both (params_of key) + 1 → places_with i before next ≡ before →
        map (timed times) (gates_in (unfold_item us i before next)) ≡ map (rename_timed (put passed next)) callee → GatesOn AfterCall (gates_in (unfold_item us i before next)) →
        Placed (map (timed times) (gates_in (events_of us key xs))) callee sites n k q (rows_for ends.qubits wires)
    call_placed times callee n k size long stays is on = record {
      rename = put passed next;
      own = fresh_between next later;
      one_to_one = put-one_to_one passed next distinct there;
      params = λ j h. put_param j h (cases_lt j q);
      before = wires_are (λ w. fresh_between next later w ≡ false) times (gates_in (events_of us key xs))
          (gates_mono (IsThere next) (λ w. fresh_between next later w ≡ false) (gates_in (events_of us key xs)) (fresh_low next later) here.below);
      rows = λ w h. placed-in (λ w. fresh_between next later w ≡ false) (places_after us (xs ++ i ∷ ys) (start_places key) (params_of key)) ends (fine_end us key (xs ++ i ∷ ys)).sized (others stays) (param ends.qubits w)
          (row_there ends w (omega arith));
      starts = λ u h.
          let p = row_there (params_of key) u (omega arith) in
          fresh_low next later (param (params_of key).qubits u) (let g = after_events-grow (params_of key) (events_of us key xs) (param (params_of key).qubits u).class in omega arith);
      after = subst (WiresAre AfterCall) is (wires_are AfterCall times (gates_in (unfold_item us i before next)) on);
    }

    -- a call has as many rows as its callee has parameters
    pub rows_count : length (rows_for ends.qubits wires) ≡ both (params_of m.key)
    rows_count =
        let a = length-append (map (row_number ends.qubits) (of_class Q wires)) (map (row_number ends.qubits) (of_class C wires)) in
        let b = length_map (row_number ends.qubits) (of_class Q wires) in
        let c = length_map (row_number ends.qubits) (of_class C wires) in
        let d = many Q in
        let e = many C in
        omega arith

    pub call_on : (callee : ℕ) → slice_get modules callee ≡ Some m → unfold_item us i before next ≡ unfold_on modules callee passed next → GatesOn AfterCall (gates_in (unfold_item us i before next))
    call_on callee at is =
        subst (λ (es : List Event). GatesOn AfterCall (gates_in es)) (sym is)
        (unfold_on-wires AfterCall modules deck callee m at passed next kinds passed_are (subst (λ (es : List Event). Fills AfterCall next (after_events next es)) is fills))

    pub calls_on : (callee n : ℕ) → slice_get modules callee ≡ Some m → unfold_item us i before next ≡ repeated n (unfold_on modules callee passed) next → GatesOn AfterCall (gates_in (unfold_item us i before next))
    calls_on callee n at is =
        subst (λ (es : List Event). GatesOn AfterCall (gates_in es)) (sym is)
        (repeated_on AfterCall (unfold_on modules callee passed) (λ k f. unfold_on-wires AfterCall modules deck callee m at passed k kinds passed_are f) n next
        (subst (λ (es : List Event). Fills AfterCall next (after_events next es)) is fills))

    -- the classes of the wires that are passed
    pub passed_kinds : map class_of passed ≡ param_classes m.key
    passed_kinds = kinds

    module _ (times : List ℕ) (callee : List Timed) (rows : List (List Entry)) (last : List ℕ) (table : List (List Entry)) (size : length rows ≡ both ends) (long : length last ≡ both (params_of key) + 1)
        (stays : places_with i before next ≡ before) (is : map (timed times) (gates_in (unfold_item us i before next)) ≡ map (rename_timed (put passed next)) callee)
        (on : GatesOn AfterCall (gates_in (unfold_item us i before next))) (has : IsTable callee q (both (params_of m.key)) table)
        (st : Stands (map (timed times) (gates_in (events_of us key xs))) sites rows last) where
      has_rows : IsTable callee q (length (rows_for ends.qubits wires)) table
      has_rows = subst (λ (k : ℕ). IsTable callee q k table) (sym rows_count) has

      more_is : map (timed times) (gates_in (events_of us key (xs ++ i ∷ []))) ≡ map (timed times) (gates_in (events_of us key xs)) ++ map (rename_timed (put passed next)) callee
      more_is = gates_more times us key xs i ∙ ap (λ (gs : List Timed). map (timed times) (gates_in (events_of us key xs)) ++ gs) is

      -- THE ROWS after a call
      pub call_more : (rows' : List (List Entry)) (last' : List ℕ) →
          ((gates cs : List Timed) (q : ℕ) (sites : Sites) → Stands gates sites rows last → IsTable cs q (length (rows_for ends.qubits wires)) table →
          (placed : Placed gates cs sites (length rows) (length last) q (rows_for ends.qubits wires)) → Stands (gates ++ map (rename_timed placed.rename) cs) sites rows' last') →
          Stands (map (timed times) (gates_in (events_of us key (xs ++ i ∷ [])))) sites rows' last'
      unfolding call_placed
      call_more rows' last' step =
          subst (λ (gs : List Timed). Stands gs sites rows' last') (sym more_is)
          (step (map (timed times) (gates_in (events_of us key xs))) callee q sites st has_rows (call_placed times callee (length rows) (length last) size long stays is on))

      pub call_heavy : ((gates cs : List Timed) (q : ℕ) (sites : Sites) → Stands gates sites rows last → IsTable cs q (length (rows_for ends.qubits wires)) table →
          (placed : Placed gates cs sites (length rows) (length last) q (rows_for ends.qubits wires)) → Passes (best (gates ++ map (rename_timed placed.rename) cs) None None)) →
          Passes (best (map (timed times) (gates_in (events_of us key (xs ++ i ∷ [])))) None None)
      unfolding call_placed
      call_heavy step =
          subst (λ (gs : List Timed). Passes (best gs None None)) (sym more_is)
          (step (map (timed times) (gates_in (events_of us key xs))) callee q sites st has_rows (call_placed times callee (length rows) (length last) size long stays is on))

    -- a chain of the callee that is too heavy is one of the items
    pub callee_heavy : (times : List ℕ) (callee : List Timed) → map (timed times) (gates_in (unfold_item us i before next)) ≡ map (rename_timed (put passed next)) callee → Passes (best callee None None) →
        Passes (best (map (timed times) (gates_in (events_of us key (xs ++ i ∷ [])))) None None)
    callee_heavy times callee is h =
        subst (λ (gs : List Timed). Passes (best gs None None)) (sym (gates_more times us key xs i ∙ ap (λ (gs : List Timed). map (timed times) (gates_in (events_of us key xs)) ++ gs) is))
        (passes_in (map (rename_timed (put passed next)) callee) (map (timed times) (gates_in (events_of us key xs)) ++ map (rename_timed (put passed next)) callee)
        (in_second (map (timed times) (gates_in (events_of us key xs))) (map (rename_timed (put passed next)) callee) None None)
        (subst (λ (o : Option ℕ). Passes o) (sym (best_renamed (put passed next) (put-one_to_one passed next distinct there) callee None None)) h))
