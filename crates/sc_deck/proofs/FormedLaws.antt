-- Distinct wires are put on distinct wires, and an unfolding on distinct wires has well-formed gates.
use Rattle.std.proofs.Common.{◌≡◌, ◌≢◌, ℕ, zero, suc, ◌+◌, ◌-◌, ◌<◌, ◌≤◌, Bool, true, false, cond, List, [], ◌∷◌, ◌++◌, map, filter, length, get_or, slice_get, Option, Some, None, ◌⊎◌, inl, inr, refl, sym, ap, ◌∙◌, subst, arith}
use Rattle.std.specs.Prelude.{option_to_list, IsSomeAnd}
use Rattle.std.specs.Option.{option_map}
use Rattle.std.specs.List.{AllByRecursion}
use Rattle.std.proofs.lemmas.Bool.{cases_lt}
use Rattle.std.proofs.lemmas.List.{get_or_default, get_or_past}
use Rattle.std.proofs.lemmas.List.Elements.{All-filter, All-from_recursion}
use Rattle.sc_base.specs.declared.names.Class.{Class}
use Rattle.sc_base.specs.declared.names.Class.TheVariants.{Q, C}
use Rattle.sc_gate.specs.declared.gate.Wire.{Wire}
use Rattle.sc_gate.specs.declared.gate.Gate.{Gate}
use Rattle.sc_gate.specs.Gates.{class_of, operands, IsNew, AreDistinct, IsWellFormed, AreWellFormed}
use Rattle.sc_gate.specs.Numbers.{Numbers, number_of, with_more, no_wires, IsThere, AreThere}
use Rattle.sc_gate.specs.Renaming.{rename_gate, IsOneToOne}
use Rattle.sc_gate.specs.Wires.{same_class}
use Rattle.sc_gate.proofs.RenameLemmas.{classes-rename, distinct-rename, well_formed-rename}
use Rattle.sc_deck.specs.declared.item.Item.{Item}
use Rattle.sc_deck.specs.declared.item.Item.TheVariants as item
use Rattle.sc_deck.specs.Bodies.{ItemsFit, IsBody}
use Rattle.sc_deck.specs.Decks.{CallFits, ItemCallFits, CallsFit, IsDeck, IsWhole}
use Rattle.sc_deck.specs.Events.{Event, Return, gates_in, after_events}
use Rattle.sc_deck.specs.Items.{ItemFits, GateFits, WiresFit, after_item}
use Rattle.sc_deck.specs.Keys.{param_classes, params_of, main_key}
use Rattle.sc_deck.specs.Modules.{Module, key_of, body_of}
use Rattle.sc_deck.specs.Placing.{shifted, put, Sized}
use Rattle.sc_deck.specs.Renaming.{wire}
use Rattle.sc_deck.specs.Unfolding.{Unfolding, unfolding_at, unfold_item, unfold_items, unfold_module, unfold_on, expansion, gates_of, numbered, places_with, placed, repeated, wires_from, of_class}
use Rattle.sc_deck.proofs.EachUnfolding.{Each, each_unfolding}
use Rattle.sc_deck.proofs.PlaceLaws.{Sized-item, Sized-params, placed-classes}
use Rattle.sc_deck.proofs.PutLaws.{put-class, expansion-is}
use Rattle.sc_deck.proofs.SequenceLaws.{gates_in-append, after_events-append}
use Rattle.sc_deck.proofs.WireLaws.{after_events-grow, placed-in, placed-all, more_of, made_all}

new_at : (w : Wire) (ws : List Wire) (j : ℕ) (d : Wire) → IsNew w ws → j < length ws → w ≢ get_or ws j d
new_at w [] j d new below = absurd (omega arith)
new_at w (v ∷ ws) zero d new below = new.0
new_at w (v ∷ ws) (suc j) d new below = new_at w ws j d new.1 (omega arith)

-- distinct wires stand at one place each
pub place_of_wire : (ws : List Wire) → AreDistinct ws → (i j : ℕ) (d e : Wire) → i < length ws → j < length ws → get_or ws i d ≡ get_or ws j e → i ≡ j
place_of_wire [] distinct i j d e a b same = absurd (omega arith)
place_of_wire (w ∷ ws) distinct zero zero d e a b same = refl
place_of_wire (w ∷ ws) distinct zero (suc j) d e a b same = absurd (new_at w ws j e distinct.0 (omega arith) same)
place_of_wire (w ∷ ws) distinct (suc i) zero d e a b same = absurd (new_at w ws i d distinct.0 (omega arith) (sym same))
place_of_wire (w ∷ ws) distinct (suc i) (suc j) d e a b same = ap suc (place_of_wire ws distinct.1 i j d e (omega arith) (omega arith) same)

new_filter : (p : Wire → Bool) (w : Wire) (ws : List Wire) → IsNew w ws → IsNew w (filter p ws)
new_filter p w [] new = tt
new_filter p w (v ∷ ws) new = by (p v) (new_filter p w ws new.1)
  where
    by : (b : Bool) → IsNew w (filter p ws) → IsNew w (cond b (v ∷ filter p ws) (filter p ws))
    by true rest = (new.0, rest)
    by false rest = rest

distinct_filter : (p : Wire → Bool) (ws : List Wire) → AreDistinct ws → AreDistinct (filter p ws)
distinct_filter p [] distinct = tt
distinct_filter p (w ∷ ws) distinct = by (p w) (distinct_filter p ws distinct.1)
  where
    by : (b : Bool) → AreDistinct (filter p ws) → AreDistinct (cond b (w ∷ filter p ws) (filter p ws))
    by true rest = (new_filter p w ws distinct.0, rest)
    by false rest = rest

-- the number of a wire that is put past the parameters
past_params : (wires : List Wire) (next : Numbers) (c : Class) (a : ℕ) → length (of_class c wires) ≤ a → (put wires next (wire c a)).number ≡ number_of c next + (a - length (of_class c wires))
past_params wires next c a past = ap (λ (w : Wire). w.number) (get_or_past (of_class c wires) a (shifted (length (of_class c wires)) (number_of c next) (wire c a)) past)

-- and of one that is put on a wire that is passed
at_params : (wires : List Wire) (next : Numbers) → AreThere next wires → (c : Class) (a : ℕ) → a < length (of_class c wires) → (put wires next (wire c a)).number < number_of c next
at_params wires next there c a below =
    let one : IsThere next (put wires next (wire c a)) =
    All-filter (λ (v : Wire). same_class c v.class) (IsThere next) wires (All-from_recursion (IsThere next) wires there) a (shifted (length (of_class c wires)) (number_of c next) (wire c a)) below in
    subst (λ (k : Class). (put wires next (wire c a)).number < number_of k next) (put-class wires next (wire c a)) one

same_number : (wires : List Wire) (next : Numbers) → AreDistinct wires → AreThere next wires → (c : Class) (a b : ℕ) → put wires next (wire c a) ≡ put wires next (wire c b) → a ≡ b
same_number wires next distinct there c a b e = by (cases_lt a (length (of_class c wires))) (cases_lt b (length (of_class c wires)))
  where
    numbers : (put wires next (wire c a)).number ≡ (put wires next (wire c b)).number
    numbers = ap (λ (w : Wire). w.number) e

    by : (a < length (of_class c wires)) ⊎ (length (of_class c wires) ≤ a) → (b < length (of_class c wires)) ⊎ (length (of_class c wires) ≤ b) → a ≡ b
    by (inl x) (inl y) = place_of_wire (of_class c wires) (distinct_filter (λ (v : Wire). same_class c v.class) wires distinct) a b _ _ x y e
    by (inl x) (inr y) = let h = at_params wires next there c a x in let g = past_params wires next c b y in let n = numbers in absurd (omega arith)
    by (inr x) (inl y) = let h = at_params wires next there c b y in let g = past_params wires next c a x in let n = numbers in absurd (omega arith)
    by (inr x) (inr y) = let h = past_params wires next c a x in let g = past_params wires next c b y in let n = numbers in omega arith

-- DISTINCT WIRES below the next numbers are put on distinct wires, and so are all others
pub put-one_to_one : (wires : List Wire) (next : Numbers) → AreDistinct wires → AreThere next wires → IsOneToOne (put wires next)
put-one_to_one wires next distinct there v w e =
    let class : v.class ≡ w.class = sym (put-class wires next v) ∙ ap class_of e ∙ put-class wires next w in
    let same : put wires next (wire v.class v.number) ≡ put wires next (wire v.class w.number) = subst (λ (c : Class). put wires next (wire v.class v.number) ≡ put wires next (wire c w.number)) (sym class) e in
    let number = same_number wires next distinct there v.class v.number w.number same in
    λ i. record { class = class i; number = number i }

well_formed-append : (xs ys : List Gate) → AreWellFormed xs → AreWellFormed ys → AreWellFormed (xs ++ ys)
well_formed-append [] ys a b = b
well_formed-append (g ∷ xs) ys a b = (a.0, well_formed-append xs ys a.1 b)

all_append : (P : Wire → Type 0) (xs ys : List Wire) → AllByRecursion P xs → AllByRecursion P ys → AllByRecursion P (xs ++ ys)
all_append P [] ys a b = b
all_append P (x ∷ xs) ys a b = (a.0, all_append P xs ys a.1 b)

new_append : (w : Wire) (xs ys : List Wire) → IsNew w xs → IsNew w ys → IsNew w (xs ++ ys)
new_append w [] ys a b = b
new_append w (x ∷ xs) ys a b = (a.0, new_append w xs ys a.1 b)

-- wires below the next numbers are none of those from there on
new_made : (next : Numbers) (w : Wire) → IsThere next w → (class : Class) (first n : ℕ) → number_of class next ≤ first → IsNew w (wires_from class first n)
new_made next w there class first zero le = tt
new_made next w there class first (suc n) le = (differ, new_made next w there class (suc first) n (omega arith))
  where
    differ : w ≢ wire class first
    differ e =
        let h : first < number_of class next = subst (λ (v : Wire). v.number < number_of v.class next) e there in
        omega arith

later_made : (class : Class) (k first n : ℕ) → k < first → IsNew (wire class k) (wires_from class first n)
later_made class k first zero lt = tt
later_made class k first (suc n) lt = (differ, later_made class k (suc first) n (omega arith))
  where
    differ : wire class k ≢ wire class first
    differ e = let h : k ≡ first = ap (λ (w : Wire). w.number) e in omega arith

distinct_made : (class : Class) (first n : ℕ) → AreDistinct (wires_from class first n)
distinct_made class first zero = tt
distinct_made class first (suc n) = (later_made class first (suc first) n (omega arith), distinct_made class (suc first) n)

distinct-made : (next : Numbers) (places : List Wire) → AreThere next places → AreDistinct places → (class : Class) (n : ℕ) → AreDistinct (places ++ wires_from class (number_of class next) n)
distinct-made next [] there distinct class n = distinct_made class (number_of class next) n
distinct-made next (w ∷ places) there distinct class n = (
  new_append w places (wires_from class (number_of class next) n) distinct.0 (new_made next w there.0 class (number_of class next) n (omega arith)),
  distinct-made next places there.1 distinct.1 class n,
)

-- what is there stays there
pub there_later : (next : Numbers) (events : List Event) (ws : List Wire) → AreThere next ws → AreThere (after_events next events) ws
there_later next events [] there = tt
there_later next events (w ∷ ws) there = (let h = there.0 in let g = after_events-grow next events w.class in omega arith, there_later next events ws there.1)

-- on distinct wires below the next numbers, all gates are well formed
abbrev pub IsFormed : Module → Unfolding → Type 0
IsFormed m u = (wires : List Wire) (next : Numbers) → map class_of wires ≡ param_classes m.key → AreDistinct wires → AreThere next wires → AreWellFormed (gates_in (u wires next))

-- the places of a body: so many, distinct, and below the next numbers
pub record Fine (places : List Wire) (numbers next : Numbers) : Type 0 where
  pub sized : Sized places numbers
  pub distinct : AreDistinct places
  pub there : AreThere next places

module _ (places : List Wire) (numbers next : Numbers) (fine : Fine places numbers next) where
  -- a local wire that is there is put as it is placed
  placed_put : (w : Wire) → IsThere numbers w → placed places w ≡ put places next w
  placed_put w below = get_or_default (of_class w.class places) w.number w (shifted (length (of_class w.class places)) (number_of w.class next) w) (subst (λ (n : ℕ). w.number < n) (sym (fine.sized.count w.class)) below)

  all_put : (ws : List Wire) → AreThere numbers ws → map (placed places) ws ≡ map (put places next) ws
  all_put [] below = refl
  all_put (w ∷ ws) below = let rest = all_put ws below.1 in λ i. placed_put w below.0 i ∷ rest i

  option_put : (o : Option Wire) → AreThere numbers (option_to_list o) → option_map (placed places) o ≡ option_map (put places next) o
  option_put None below = refl
  option_put (Some w) below = ap Some (placed_put w below.0)

  gate_put : (g : Gate) → AreThere numbers (operands g) → rename_gate (placed places) g ≡ rename_gate (put places next) g
  gate_put g below =
      let parts = both_parts (option_to_list g.b) (option_to_list g.c) below.1 in
      let a = placed_put g.a below.0 in
      let b = option_put g.b parts.0 in
      let c = option_put g.c parts.1 in
      λ i. record { kind = g.kind; a = a i; b = b i; c = c i }
    where
      both_parts : (xs ys : List Wire) → AreThere numbers (xs ++ ys) → AreThere numbers xs × AreThere numbers ys
      both_parts [] ys h = (tt, h)
      both_parts (x ∷ xs) ys h = let p = both_parts xs ys h.1 in ((h.0, p.0), p.1)

  one_to_one : IsOneToOne (put places next)
  one_to_one = put-one_to_one places next fine.distinct fine.there

  gate_formed : (g : Gate) → GateFits numbers g → IsWellFormed (rename_gate (placed places) g)
  gate_formed g fits =
      subst IsWellFormed (sym (gate_put g fits.there)) (well_formed-rename (put places next) g (put-class places next) (λ v w _ _ e. one_to_one v w e) fits.well_formed)

  wires_distinct : (ws : List Wire) → WiresFit numbers ws → AreDistinct (map (placed places) ws)
  wires_distinct ws fits = subst AreDistinct (sym (all_put ws fits.there)) (distinct-rename (put places next) ws (λ v w _ _ e. one_to_one v w e) fits.distinct)

repeated_formed : (once : Numbers → List Event) (ws : List Wire) → ((next : Numbers) → AreThere next ws → AreWellFormed (gates_in (once next))) → (n : ℕ) (next : Numbers) → AreThere next ws → AreWellFormed (gates_in (repeated n once next))
repeated_formed once ws each zero next there = tt
repeated_formed once ws each (suc n) next there =
    let rest : List Event = repeated n once (after_events next (once next)) in
    subst AreWellFormed (sym (gates_in-append (once next) rest))
    (well_formed-append (gates_in (once next)) (gates_in rest) (each next there) (repeated_formed once ws each n (after_events next (once next)) (there_later next (once next) ws there)))

module _ (us : List Unfolding) (before : List Module) (can : Each IsFormed us before) where
  call_formed : (callee : ℕ) (wires passed : List Wire) → CallFits before callee wires → map class_of passed ≡ map class_of wires → AreDistinct passed → (next : Numbers) → AreThere next passed →
      AreWellFormed (gates_in (unfolding_at us callee passed next))
  call_formed callee wires passed fit classes distinct next there = by (slice_get before callee) refl fit
    where
      by : (o : Option Module) → slice_get before callee ≡ o → IsSomeAnd o (λ m. map class_of wires ≡ param_classes m.key) → AreWellFormed (gates_in (unfolding_at us callee passed next))
      by None e h = absurd h
      by (Some m) e h = can.each callee m e passed next (classes ∙ h) distinct there

  item_formed : (places : List Wire) (numbers next : Numbers) → Fine places numbers next → (i : Item) → ItemFits numbers i → ItemCallFits before i → AreWellFormed (gates_in (unfold_item us i places next))
  item_formed places numbers next fine (item.Fresh class n) fits calls = tt
  item_formed places numbers next fine (item.Gate gate) fits calls = (gate_formed places numbers next fine gate fits, tt)
  item_formed places numbers next fine (item.Call callee wires) fits calls =
      call_formed callee wires (map (placed places) wires) calls (placed-classes places numbers fine.sized wires fits.there) (wires_distinct places numbers next fine wires fits) next
      (placed-all (IsThere next) places numbers fine.sized fine.there wires fits.there)
  item_formed places numbers next fine (item.Gates gate turns) fits calls =
      repeated_formed (λ _. unfold_item us (item.Gate gate) places next) [] (λ k _. (gate_formed places numbers next fine gate fits.0, tt)) turns next tt
  item_formed places numbers next fine (item.Calls callee wires turns) fits calls =
      repeated_formed (unfolding_at us callee (map (placed places) wires)) (map (placed places) wires)
      (λ k there. call_formed callee wires (map (placed places) wires) calls (placed-classes places numbers fine.sized wires fits.0.there) (wires_distinct places numbers next fine wires fits.0) k there) turns next
      (placed-all (IsThere next) places numbers fine.sized fine.there wires fits.0.there)

  Fine-item : (places : List Wire) (numbers next : Numbers) (i : Item) → Fine places numbers next → Fine (places_with i places next) (after_item numbers i) (after_events next (unfold_item us i places next))
  Fine-item places numbers next (item.Fresh class n) fine = record {
    sized = Sized-item places numbers (item.Fresh class n) next fine.sized;
    distinct = distinct-made next places fine.there fine.distinct class n;
    there = all_append (IsThere (with_more class n next)) places (wires_from class (number_of class next) n)
        (there_later next (unfold_item us (item.Fresh class n) places next) places fine.there)
        (made_all (IsThere (with_more class n next)) class (number_of class next) n (λ k from to. let e = more_of class n next in omega arith));
  }
  Fine-item places numbers next (item.Gate gate) fine = fine
  Fine-item places numbers next (item.Call callee wires) fine =
      record { sized = fine.sized; distinct = fine.distinct; there = there_later next (unfold_item us (item.Call callee wires) places next) places fine.there }
  Fine-item places numbers next (item.Gates gate turns) fine =
      record { sized = fine.sized; distinct = fine.distinct; there = there_later next (unfold_item us (item.Gates gate turns) places next) places fine.there }
  Fine-item places numbers next (item.Calls callee wires turns) fine =
      record { sized = fine.sized; distinct = fine.distinct; there = there_later next (unfold_item us (item.Calls callee wires turns) places next) places fine.there }

  items_formed : (places : List Wire) (numbers next : Numbers) → Fine places numbers next → (items : List Item) → ItemsFit numbers items → CallsFit before items → AreWellFormed (gates_in (unfold_items us items places next))
  items_formed places numbers next fine [] fits calls = tt
  items_formed places numbers next fine (i ∷ items) fits calls =
      let events : List Event = unfold_item us i places next in
      let rest : List Event = unfold_items us items (places_with i places next) (after_events next events) in
      subst AreWellFormed (sym (gates_in-append events rest))
      (well_formed-append (gates_in events) (gates_in rest) (item_formed places numbers next fine i fits.0 calls.0)
      (items_formed (places_with i places next) (after_item numbers i) (after_events next events) (Fine-item places numbers next i fine) items fits.1 calls.1))

  module_formed : (m : Module) → IsBody (body_of m) → CallsFit before m.items → IsFormed m (unfold_module us m)
  module_formed m body calls wires next classes distinct there =
      let events : List Event = unfold_items us m.items wires next in
      subst AreWellFormed (sym (gates_in-append events (Return m.key ∷ [])))
      (well_formed-append (gates_in events) [] (items_formed wires (params_of m.key) next (record { sized = Sized-params wires m.key classes; distinct = distinct; there = there }) m.items body.fits calls) tt)

-- ALL GATES of an unfolding on distinct wires are well formed
pub unfold_on-formed : (modules : List Module) → IsDeck modules → (i : ℕ) (m : Module) → slice_get modules i ≡ Some m → (wires : List Wire) (next : Numbers) → map class_of wires ≡ param_classes m.key →
    AreDistinct wires → AreThere next wires → AreWellFormed (gates_in (unfold_on modules i wires next))
unfold_on-formed modules deck i m at = (each_unfolding IsFormed module_formed modules deck).each i m at

-- so the gates of a whole deck are well formed
pub gates_of-formed : (modules : List Module) → IsDeck modules → IsWhole modules → AreWellFormed (gates_of modules (length modules - 1))
gates_of-formed modules deck whole = by (slice_get modules (length modules - 1)) refl whole.main_last
  where
    by : (o : Option Module) → slice_get modules (length modules - 1) ≡ o → option_map key_of o ≡ Some main_key → AreWellFormed (gates_of modules (length modules - 1))
    by None e h = cc
    by (Some m) e h =
        let key : m.key ≡ main_key = cc h in
        let is : expansion modules (length modules - 1) ≡ unfold_on modules (length modules - 1) [] no_wires =
        expansion-is modules (length modules - 1) m e ∙ (λ k. unfold_on modules (length modules - 1) (numbered (param_classes (key k)) no_wires) (params_of (key k))) in
        subst (λ (es : List Event). AreWellFormed (gates_in es)) (sym is)
        (unfold_on-formed modules deck (length modules - 1) m e [] no_wires (ap param_classes (sym key)) tt tt)
