-- What numbers of kinds, places and slots make: the layout of a board with no ready gate.
use Rattle.std.proofs.Common.{◌≡◌, ℕ, zero, suc, ◌+◌, ◌/◌, ◌<◌, ◌≤◌, Bool, false, List, length, get_or, replicate, refl, sym, ap, ◌∙◌, arith, inl, inr}
use Rattle.std.specs.Prelude.{◌==◌, slice_index, slice_index_or, position, unwrap_or}
use Rattle.std.proofs.lemmas.Bool.{cases_lt, cases_order, eqb-true, eq-eqb}
use Rattle.std.proofs.lemmas.List.{length-replicate}
use Rattle.std.proofs.Math.ListN.{get_or-eq_default}
use Rattle.std.proofs.lemmas.Option.{same_Some}
use Rattle.sc_gate.specs.declared.gate.Kind.{Kind}
use Rattle.sc_gate.specs.declared.gate.Gate.{Gate}
use Rattle.sc_gate.specs.SameGates.{same_kind}
use Rattle.sc_sched.specs.Gates.{arity_at, kind_of, kind_at}
use Rattle.sc_sched.specs.Layout.{IsLayout}
use Rattle.sc_sched.specs.Laid.{IsLaid}
use Rattle.sc_sched.specs.Numbering.{AreNumbered}
use Rattle.sc_sched.specs.Places.{AreInverse, IsInOrder, kind_there, below_kind, slot_at, AreSlots}
use Rattle.sc_sched.specs.PrioritySchedules.{first_like, kind_names}
use Rattle.sc_sched.proofs.Count.{same_truth}
use Rattle.sc_sched.proofs.Lawful.{names_kind, some_gate, index_map, kind_here, arity_alike, room_is, room_some}
use Rattle.sc_sched.proofs.PlaceLemmas.{IsPositionOrder, places_order}
use Rattle.sc_sched.proofs.SlotLemmas.{slot_begins, slot_ends, slot_inside, slot_rises, slot_found, slot_kind}

all_false : (n i : ℕ) → slice_index_or (replicate n false) i false ≡ false
all_false zero i = refl
all_false (suc n) zero = refl
all_false (suc n) (suc i) = all_false n i

module _ (kind gate_at place gate_in slot start : List ℕ) (kinds : ℕ) (many : length kind ≡ length gate_at) (below : (x : ℕ) → x < length kind → slice_index kind x < kinds) (inv : AreInverse gate_at place)
    (s : AreSlots gate_at kind kinds gate_in slot start) where
  -- the kind and the slot of a gate, by its place
  kind_by_place : (x : ℕ) → x < length kind → kind_there gate_at kind (slice_index place x) ≡ slice_index kind x
  kind_by_place x l = ap (slice_index kind) (inv.at_back x (omega (arith, many, l)))

  place_here : (x : ℕ) → x < length kind → slice_index place x < length gate_at
  place_here x l = inv.back_inside x (omega (arith, many, l))

  slot_here : (x : ℕ) → x < length kind → slice_index slot x ≡ slot_at (kind_there gate_at kind) (length gate_at) (slice_index place x)
  slot_here x l = ap (slice_index slot) (sym (inv.at_back x (omega (arith, many, l)))) ∙ s.slots (slice_index place x) (place_here x l)

  kind_inside : (i : ℕ) → i < length gate_at → kind_there gate_at kind i < kinds
  kind_inside i l = below (slice_index gate_at i) (omega (arith, many, inv.inside i l))

  -- the place of the gate in a slot
  record At (i : ℕ) : Type 0 where
    standing : ℕ
    inside : standing < length gate_at
    is : slot_at (kind_there gate_at kind) (length gate_at) standing ≡ i
    gate : slice_index gate_in i ≡ slice_index gate_at standing

  at_slot : (i : ℕ) → i < length kind → At i
  at_slot i l =
      let (j, b, e) = slot_found (kind_there gate_at kind) (length gate_at) kinds kind_inside i (omega (arith, many, l)) in
      record { standing = j; inside = b; is = e; gate = ap (slice_index gate_in) (sym e) ∙ s.gates j b }

  start_begins : (x : ℕ) → x < length kind → slice_index start (slice_index kind x) ≤ slice_index slot x
  start_begins x l =
      let a = slot_begins (kind_there gate_at kind) (length gate_at) (slice_index place x) in
      let b : below_kind (kind_there gate_at kind) (kind_there gate_at kind (slice_index place x)) (length gate_at) ≡ below_kind (kind_there gate_at kind) (slice_index kind x) (length gate_at) =
      ap (λ (k : ℕ). below_kind (kind_there gate_at kind) k (length gate_at)) (kind_by_place x l) in
      let c : slice_index start (slice_index kind x) ≡ below_kind (kind_there gate_at kind) (slice_index kind x) (length gate_at) = s.starts (slice_index kind x) (let m : slice_index kind x < kinds = below x l in omega (arith, m)) in
      omega (arith, a, b, c, slot_here x l)

  start_ends : (x : ℕ) → x < length kind → slice_index slot x < slice_index start (slice_index kind x + 1)
  start_ends x l =
      let a = slot_ends (kind_there gate_at kind) (length gate_at) (slice_index place x) (place_here x l) in
      let b : below_kind (kind_there gate_at kind) (suc (kind_there gate_at kind (slice_index place x))) (length gate_at) ≡ below_kind (kind_there gate_at kind) (slice_index kind x + 1) (length gate_at) =
      ap (λ (k : ℕ). below_kind (kind_there gate_at kind) k (length gate_at)) (let e : suc (kind_there gate_at kind (slice_index place x)) ≡ slice_index kind x + 1 = omega (arith, kind_by_place x l) in e) in
      let c : slice_index start (slice_index kind x + 1) ≡ below_kind (kind_there gate_at kind) (slice_index kind x + 1) (length gate_at) = s.starts (slice_index kind x + 1) (let m : slice_index kind x < kinds = below x l in omega (arith, m)) in
      omega (arith, a, b, c, slot_here x l)

  kind_within : (i k : ℕ) → i < length kind → slice_index start k ≤ i → i < slice_index start (k + 1) → slice_index kind (slice_index gate_in i) ≡ k
  kind_within i k l a b = elim (cases_lt k kinds) [
    | inl h ↦ (let t : At i = at_slot i l in
        let c : below_kind (kind_there gate_at kind) k (length gate_at) ≤ slot_at (kind_there gate_at kind) (length gate_at) t.standing = omega (arith, a, s.starts k (omega (arith, h)), t.is) in
        let d : below_kind (kind_there gate_at kind) (suc k) (length gate_at) ≡ below_kind (kind_there gate_at kind) (k + 1) (length gate_at) = ap (λ (z : ℕ). below_kind (kind_there gate_at kind) z (length gate_at)) (let e : suc k ≡ k + 1 = omega arith in e) in
        ap (slice_index kind) t.gate ∙ slot_kind (kind_there gate_at kind) (length gate_at) t.standing k t.inside c (omega (arith, b, s.starts (k + 1) (omega (arith, h)), d, t.is)))
    | inr h ↦ absurd (let past : length start ≤ k + 1 = omega (arith, s.many_starts, h) in omega (arith, b, get_or-eq_default start 0 past))
  ]

  slots_in_order : (x y : ℕ) → x < length kind → y < length kind → slice_index kind x ≡ slice_index kind y → slice_index slot x < slice_index slot y → slice_index place x < slice_index place y
  slots_in_order x y l b e h = elim (cases_order (slice_index place x) (slice_index place y)) [
    | inl f ↦ absurd (let g : slot_at (kind_there gate_at kind) (length gate_at) (slice_index place x) ≡ slot_at (kind_there gate_at kind) (length gate_at) (slice_index place y) =
        ap (slot_at (kind_there gate_at kind) (length gate_at)) f in omega (arith, h, slot_here x l, slot_here y b, g))
    | inr o ↦ elim o [
      | inl f ↦ f
      | inr f ↦ absurd (omega (arith, h, slot_here x l, slot_here y b, slot_rises (kind_there gate_at kind) (length gate_at) (slice_index place y) (slice_index place x) f (kind_by_place y b ∙ (sym e ∙ sym (kind_by_place x l)))))
    ]
  ]

  pub layout_is : (many_gates : ℕ) → many_gates ≡ length gate_at → (places slots : List Bool) → places ≡ replicate many_gates false → slots ≡ replicate many_gates false →
      IsLayout (record { gate_at = gate_at; place = place; gate_in = gate_in; slot = slot; kind = kind; start = start }) places slots
  layout_is m e places slots f g = record {
    many_places = omega (arith, ap (λ (z : List Bool). length z) f, length-replicate m false, e, many);
    many_slots = omega (arith, ap (λ (z : List Bool). length z) g, length-replicate m false, e, many);
    many_place = omega (arith, inv.many, many);
    many_slot = omega (arith, s.many_slots, many);
    many_at = omega (arith, many);
    many_in = omega (arith, s.many_in, many);
    place_in = λ x l. omega (arith, place_here x l, many);
    slot_in = λ x l. omega (arith, slot_here x l, slot_inside (kind_there gate_at kind) (length gate_at) (slice_index place x) (place_here x l), many);
    at_in = λ i l. omega (arith, inv.inside i (omega (arith, l, many)), many);
    in_in = λ i l. (let t : At i = at_slot i l in omega (arith, t.gate, inv.inside t.standing t.inside, many));
    at_place = λ x l. inv.at_back x (omega (arith, l, many));
    place_at = λ i l. inv.back_at i (omega (arith, l, many));
    in_slot = λ x l. ap (slice_index gate_in) (slot_here x l) ∙ (s.gates (slice_index place x) (place_here x l) ∙ inv.at_back x (omega (arith, l, many)));
    slot_of = λ i l. (let t : At i = at_slot i l in ap (slice_index slot) t.gate ∙ (s.slots t.standing t.inside ∙ t.is));
    begins = start_begins;
    ends = start_ends;
    within = kind_within;
    kinds = λ x l. (let b : slice_index kind x < kinds = below x l in omega (arith, b, s.many_starts));
    in_order = slots_in_order;
    agree = λ x l. ap (λ (z : List Bool). slice_index_or z (slice_index place x) false) f
        ∙ (all_false m (slice_index place x) ∙ sym (ap (λ (z : List Bool). slice_index_or z (slice_index slot x) false) g ∙ all_false m (slice_index slot x)));
  }

module _ (gates : List Gate) where
  -- gates of one kind have one name
  name_of_kind : (x y : ℕ) → x < length gates → y < length gates → kind_at gates x ≡ kind_at gates y → slice_index (kind_names gates) x ≡ slice_index (kind_names gates) y
  name_of_kind x y l b e =
      let d : Gate = some_gate gates x l in
      let k : kind_of (get_or gates x d) ≡ kind_of (get_or gates y d) = same_Some _ _ (sym (kind_here gates x d l) ∙ (e ∙ kind_here gates y d b)) in
      index_map (first_like gates) gates x 0 d l ∙ (ap (λ (k : Kind). unwrap_or (position (λ other. same_kind k (kind_of other)) gates) 0) k ∙ sym (index_map (first_like gates) gates y 0 d b))

  kind_of_name : (x y : ℕ) → x < length gates → y < length gates → slice_index (kind_names gates) x ≡ slice_index (kind_names gates) y → kind_at gates x ≡ kind_at gates y
  kind_of_name x y l b e = sym (names_kind gates x l).same ∙ (ap (kind_at gates) e ∙ (names_kind gates y b).same)

  pub laid_is : (d : ℕ) (before : ℕ → ℕ → Bool) (kind room gate_at place gate_in slot start : List ℕ) → IsPositionOrder before → length gate_at ≡ length gates → AreNumbered gates (length gates) d kind room → IsInOrder before gate_at →
      AreInverse gate_at place → AreSlots gate_at kind (length room) gate_in slot start →
      IsLaid gates d before (record { gate_at = gate_at; place = place; gate_in = gate_in; slot = slot; kind = kind; start = start }) room
  laid_is d before kind room gate_at place gate_in slot start o many num sorted inv s = record {
    many = num.many_kinds;
    starts = s.many_starts;
    kinds = num.below;
    same = λ x y l b. same_truth (slice_index kind x == slice_index kind y) (slice_index (kind_names gates) x == slice_index (kind_names gates) y)
        (λ h. eq-eqb _ _ (name_of_kind x y l b (num.apart x y l b (eqb-true _ _ h))))
        (λ h. eq-eqb _ _ (num.alike x y l b (kind_of_name x y l b (eqb-true _ _ h))));
    room_is = λ x l. num.rooms x l ∙ (ap (λ (z : ℕ). d / z) (arity_alike gates x (slice_index (kind_names gates) x) (sym (names_kind gates x l).same)) ∙ sym (room_is gates d (slice_index (kind_names gates) x) (names_kind gates x l).below));
    roomy = λ wide k l. (let (x, b, e) = num.used k l in
        let f : slice_index room k ≡ d / arity_at gates x = ap (slice_index room) (sym e) ∙ num.rooms x b in
        omega (arith, f, room_is gates d x b, room_some gates d wide x));
    order = λ x y l b. places_order before o gate_at place sorted inv x y (omega (arith, l, many)) (omega (arith, b, many));
  }
