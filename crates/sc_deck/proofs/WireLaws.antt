-- The wires of an unfolding's gates, and that its gates are well formed.
use Rattle.std.proofs.Common.{◌≡◌, ◌≢◌, ℕ, zero, suc, ◌+◌, ◌-◌, ◌<◌, ◌≤◌, Bool, true, false, cond, List, [], ◌∷◌, ◌++◌, map, filter, length, get_or, slice_get, Option, Some, None, Contains, ◌⊎◌, inl, inr, refl, sym, ap, ◌∙◌, subst, arith, append-nil}
use Rattle.std.specs.Prelude.{option_to_list, IsSomeAnd, All}
use Rattle.std.specs.Option.{option_map}
use Rattle.std.specs.List.{AllByRecursion}
use Rattle.std.proofs.lemmas.Bool.{cases_lt}
use Rattle.std.proofs.lemmas.List.{get_or_default, get_or_past}
use Rattle.std.proofs.lemmas.List.Elements.{All-filter, All-from_recursion, recursion_from_All}
use Rattle.sc_base.specs.declared.names.Class.{Class}
use Rattle.sc_base.specs.declared.names.Class.TheVariants.{Q, C}
use Rattle.sc_gate.specs.declared.gate.Wire.{Wire}
use Rattle.sc_gate.specs.declared.gate.Gate.{Gate}
use Rattle.sc_gate.specs.Gates.{class_of, operands, IsNew, AreDistinct, IsWellFormed, AreWellFormed}
use Rattle.sc_gate.specs.Numbers.{Numbers, number_of, with_more, no_wires, IsThere, AreThere}
use Rattle.sc_gate.specs.Renaming.{rename_gate}
use Rattle.sc_gate.specs.Wires.{same_class}
use Rattle.sc_gate.proofs.RenameLemmas.{operands-rename, classes-rename, distinct-rename, well_formed-rename}
use Rattle.sc_deck.specs.declared.item.Item.{Item}
use Rattle.sc_deck.specs.declared.item.Item.TheVariants as item
use Rattle.sc_deck.specs.Bodies.{ItemsFit, IsBody}
use Rattle.sc_deck.specs.Decks.{CallFits, ItemCallFits, CallsFit, IsDeck, IsWhole}
use Rattle.sc_deck.specs.Events.{Event, Return, gates_in, after_events, fresh_in}
use Rattle.sc_deck.specs.Items.{ItemFits, after_item}
use Rattle.sc_deck.specs.Keys.{param_classes, params_of, main_key}
use Rattle.sc_deck.specs.Modules.{Module, key_of, body_of}
use Rattle.sc_deck.specs.Placing.{shifted, put, Sized, GatesOn, Fills, IsPassedOrFresh}
use Rattle.sc_deck.specs.Renaming.{wire}
use Rattle.sc_deck.specs.Unfolding.{Unfolding, unfolding_at, unfold_item, unfold_items, unfold_module, unfoldings, unfold_on, expansion, gates_of, numbered, places_with, placed, repeated, wires_from, of_class}
use Rattle.sc_deck.proofs.EachUnfolding.{Each, each_unfolding}
use Rattle.sc_deck.proofs.PlaceLaws.{Sized-item, Sized-params, placed-classes}
use Rattle.sc_deck.proofs.PutLaws.{put-class, expansion-is}
use Rattle.sc_deck.proofs.SequenceLaws.{gates_in-append, after_events-append, after_events-adds}

all_append : {X : Type 0} (P : X → Type 0) (xs ys : List X) → AllByRecursion P xs → AllByRecursion P ys → AllByRecursion P (xs ++ ys)
all_append P [] ys a b = b
all_append P (x ∷ xs) ys a b = (a.0, all_append P xs ys a.1 b)

all_map : {X Y : Type 0} (P : Y → Type 0) (R : X → Type 0) (f : X → Y) → ((x : X) → R x → P (f x)) → (xs : List X) → AllByRecursion R xs → AllByRecursion P (map f xs)
all_map P R f each [] a = tt
all_map P R f each (x ∷ xs) a = (each x a.0, all_map P R f each xs a.1)

-- the next numbers never fall
pub after_events-grow : (next : Numbers) (events : List Event) (class : Class) → number_of class next ≤ number_of class (after_events next events)
after_events-grow next events class = let h = after_events-adds next events class in omega arith

-- the wire that a local wire stands for is one of the places
pub placed-in : (P : Wire → Type 0) (places : List Wire) (numbers : Numbers) → Sized places numbers → AllByRecursion P places → (w : Wire) → IsThere numbers w → P (placed places w)
placed-in P places numbers sized all w there =
    All-filter (λ (v : Wire). same_class w.class v.class) P places (All-from_recursion P places all) w.number w
    (subst (λ (n : ℕ). w.number < n) (sym (sized.count w.class)) there)

pub placed-all : (P : Wire → Type 0) (places : List Wire) (numbers : Numbers) → Sized places numbers → AllByRecursion P places → (ws : List Wire) → AreThere numbers ws → AllByRecursion P (map (placed places) ws)
placed-all P places numbers sized all ws there = all_map P (IsThere numbers) (placed places) (placed-in P places numbers sized all) ws there

pub more_of : (class : Class) (n : ℕ) (next : Numbers) → number_of class (with_more class n next) ≡ number_of class next + n
more_of Q n next = refl
more_of C n next = refl

pub made_all : (P : Wire → Type 0) (class : Class) (first n : ℕ) → ((k : ℕ) → first ≤ k → k < first + n → P (wire class k)) → AllByRecursion P (wires_from class first n)
made_all P class first zero each = tt
made_all P class first (suc n) each = (
  each first (omega arith) (omega arith),
  made_all P class (suc first) n (λ k from to. each k (omega arith) (omega arith)),
)

module _ (P : Wire → Type 0) where
  fills_first : (next : Numbers) (xs ys : List Event) → Fills P next (after_events next (xs ++ ys)) → Fills P next (after_events next xs)
  fills_first next xs ys fills class k from to =
      fills class k from (let e = ap (number_of class) (after_events-append next xs ys) in let g = after_events-grow (after_events next xs) ys class in omega arith)

  fills_second : (next : Numbers) (xs ys : List Event) → Fills P next (after_events next (xs ++ ys)) → Fills P (after_events next xs) (after_events (after_events next xs) ys)
  fills_second next xs ys fills class k from to =
      fills class k (let g = after_events-grow next xs class in omega arith) (let e = ap (number_of class) (after_events-append next xs ys) in omega arith)

  on_append : (xs ys : List Event) → GatesOn P (gates_in xs) → GatesOn P (gates_in ys) → GatesOn P (gates_in (xs ++ ys))
  on_append xs ys a b = subst (GatesOn P) (sym (gates_in-append xs ys)) (all_append (λ g. AllByRecursion P (operands g)) (gates_in xs) (gates_in ys) a b)

  repeated_on : (once : Numbers → List Event) → ((next : Numbers) → Fills P next (after_events next (once next)) → GatesOn P (gates_in (once next))) →
      (n : ℕ) (next : Numbers) → Fills P next (after_events next (repeated n once next)) → GatesOn P (gates_in (repeated n once next))
  repeated_on once each zero next fills = tt
  repeated_on once each (suc n) next fills =
      let rest : List Event = repeated n once (after_events next (once next)) in
      on_append (once next) rest (each next (fills_first next (once next) rest fills)) (repeated_on once each n (after_events next (once next)) (fills_second next (once next) rest fills))

  abbrev Stays : Module → Unfolding → Type 0
  Stays m u = (wires : List Wire) (next : Numbers) → map class_of wires ≡ param_classes m.key → AllByRecursion P wires → Fills P next (after_events next (u wires next)) → GatesOn P (gates_in (u wires next))

  module _ (us : List Unfolding) (before : List Module) (can : Each Stays us before) where
    call_on : (callee : ℕ) (wires passed : List Wire) → CallFits before callee wires → map class_of passed ≡ map class_of wires → AllByRecursion P passed → (next : Numbers) →
        Fills P next (after_events next (unfolding_at us callee passed next)) → GatesOn P (gates_in (unfolding_at us callee passed next))
    call_on callee wires passed fit classes all next fills = by (slice_get before callee) refl fit
      where
        by : (o : Option Module) → slice_get before callee ≡ o → IsSomeAnd o (λ m. map class_of wires ≡ param_classes m.key) → GatesOn P (gates_in (unfolding_at us callee passed next))
        by None e h = absurd h
        by (Some m) e h = can.each callee m e passed next (classes ∙ h) all fills

    gate_on : (places : List Wire) (numbers : Numbers) → Sized places numbers → AllByRecursion P places → (g : Gate) → AreThere numbers (operands g) → AllByRecursion P (operands (rename_gate (placed places) g))
    gate_on places numbers sized all g there = subst (AllByRecursion P) (sym (operands-rename (placed places) g)) (placed-all P places numbers sized all (operands g) there)

    item_on : (places : List Wire) (numbers : Numbers) → Sized places numbers → AllByRecursion P places → (i : Item) → ItemFits numbers i → ItemCallFits before i → (next : Numbers) →
        Fills P next (after_events next (unfold_item us i places next)) → GatesOn P (gates_in (unfold_item us i places next))
    item_on places numbers sized all (item.Fresh class n) fits calls next fills = tt
    item_on places numbers sized all (item.Gate gate) fits calls next fills = (gate_on places numbers sized all gate fits.there, tt)
    item_on places numbers sized all (item.Call callee wires) fits calls next fills =
        call_on callee wires (map (placed places) wires) calls (placed-classes places numbers sized wires fits.there) (placed-all P places numbers sized all wires fits.there) next fills
    item_on places numbers sized all (item.Gates gate turns) fits calls next fills =
        repeated_on (λ _. unfold_item us (item.Gate gate) places next) (λ k f. (gate_on places numbers sized all gate fits.0.there, tt)) turns next fills
    item_on places numbers sized all (item.Calls callee wires turns) fits calls next fills =
        repeated_on (unfolding_at us callee (map (placed places) wires))
        (λ k f. call_on callee wires (map (placed places) wires) calls (placed-classes places numbers sized wires fits.0.there) (placed-all P places numbers sized all wires fits.0.there) k f) turns next fills

    places_on : (i : Item) (places : List Wire) (next : Numbers) → AllByRecursion P places → Fills P next (after_events next (unfold_item us i places next)) → AllByRecursion P (places_with i places next)
    places_on (item.Fresh class n) places next all fills =
        all_append P places (wires_from class (number_of class next) n) all
        (made_all P class (number_of class next) n (λ k from to. fills class k from (let e = more_of class n next in omega arith)))
    places_on (item.Gate gate) places next all fills = all
    places_on (item.Call callee wires) places next all fills = all
    places_on (item.Gates gate turns) places next all fills = all
    places_on (item.Calls callee wires turns) places next all fills = all

    items_on : (places : List Wire) (numbers : Numbers) → Sized places numbers → AllByRecursion P places → (items : List Item) → ItemsFit numbers items → CallsFit before items → (next : Numbers) →
        Fills P next (after_events next (unfold_items us items places next)) → GatesOn P (gates_in (unfold_items us items places next))
    items_on places numbers sized all [] fits calls next fills = tt
    items_on places numbers sized all (i ∷ items) fits calls next fills =
        let events : List Event = unfold_item us i places next in
        let rest : List Event = unfold_items us items (places_with i places next) (after_events next events) in
        on_append events rest
        (item_on places numbers sized all i fits.0 calls.0 next (fills_first next events rest fills))
        (items_on (places_with i places next) (after_item numbers i) (Sized-item places numbers i next sized) (places_on i places next all (fills_first next events rest fills)) items fits.1 calls.1
        (after_events next events) (fills_second next events rest fills))

    module_on : (m : Module) → IsBody (body_of m) → CallsFit before m.items → Stays m (unfold_module us m)
    module_on m body calls wires next classes all fills =
        let events : List Event = unfold_items us m.items wires next in
        on_append events (Return m.key ∷ [])
        (items_on wires (params_of m.key) (Sized-params wires m.key classes) all m.items body.fits calls next (fills_first next events (Return m.key ∷ []) fills)) tt

  -- THE WIRES of an unfolding's gates: what holds of those that are passed and of the fresh ones holds of all
  pub unfold_on-wires : (modules : List Module) → IsDeck modules → (i : ℕ) (m : Module) → slice_get modules i ≡ Some m → (wires : List Wire) (next : Numbers) → map class_of wires ≡ param_classes m.key →
      AllByRecursion P wires → Fills P next (after_events next (unfold_on modules i wires next)) → GatesOn P (gates_in (unfold_on modules i wires next))
  unfold_on-wires modules deck i m at = (each_unfolding Stays module_on modules deck).each i m at

-- each wire is one that was passed or a fresh one
pub unfold_on-passed_or_fresh : (modules : List Module) → IsDeck modules → (i : ℕ) (m : Module) → slice_get modules i ≡ Some m → (wires : List Wire) (next : Numbers) → map class_of wires ≡ param_classes m.key →
    GatesOn (IsPassedOrFresh wires next (after_events next (unfold_on modules i wires next))) (gates_in (unfold_on modules i wires next))
unfold_on-passed_or_fresh modules deck i m at wires next classes =
    let P : Wire → Type 0 = IsPassedOrFresh wires next (after_events next (unfold_on modules i wires next)) in
    unfold_on-wires P modules deck i m at wires next classes
    (recursion_from_All P wires (λ j d below. inl (j, below, get_or_default wires j (get_or wires j d) d below)))
    (λ class k from to. inr (from, to))

-- the wires of a whole deck are below the sums of its text
pub gates_of-below : (modules : List Module) → IsDeck modules → IsWhole modules → GatesOn (IsThere (fresh_in (expansion modules (length modules - 1)))) (gates_of modules (length modules - 1))
gates_of-below modules deck whole = by (slice_get modules (length modules - 1)) refl whole.main_last
  where
    last : ℕ
    last = length modules - 1

    by : (o : Option Module) → slice_get modules (length modules - 1) ≡ o → option_map key_of o ≡ Some main_key → GatesOn (IsThere (fresh_in (expansion modules (length modules - 1)))) (gates_of modules (length modules - 1))
    by None e h = cc
    by (Some m) e h =
        let key : m.key ≡ main_key = cc h in
        let is : expansion modules (length modules - 1) ≡ unfold_on modules (length modules - 1) [] no_wires =
        expansion-is modules (length modules - 1) m e ∙ (λ k. unfold_on modules (length modules - 1) (numbered (param_classes (key k)) no_wires) (params_of (key k))) in
        subst (λ (es : List Event). GatesOn (IsThere (fresh_in es)) (gates_in es)) (sym is)
        (unfold_on-wires (IsThere (fresh_in (unfold_on modules (length modules - 1) [] no_wires))) modules deck (length modules - 1) m e [] no_wires (ap param_classes (sym key)) tt (λ class k from to. to))
