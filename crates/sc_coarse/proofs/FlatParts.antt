-- The expansion of a body's coarse schedule is a legal schedule of its flat gates.
use Rattle.std.proofs.Common.{◌≡◌, ℕ, zero, suc, ◌+◌, ◌*◌, ◌<◌, ◌≤◌, Bool, Option, Some, None, List, [], ◌∷◌, ◌++◌, map, length, take, slice_get, refl, sym, ap, ◌∙◌, subst, arith, append_assoc}
use Rattle.std.specs.Prelude.{All, IsSomeAnd, flat_map, slice_index}
use Rattle.std.specs.List.{AllByRecursion, sum_by}
use Rattle.std.proofs.lemmas.List.{append-nil, length-append, map-append}
use Rattle.std.proofs.lemmas.List.Concat.{flat_map-append, flat_map-cons}
use Rattle.std.proofs.lemmas.List.Elements.{All-head, All-tail}
use Rattle.std.proofs.lemmas.List.Sums.{sum_by-cons, sum_by-append}
use Rattle.sc_gate.specs.declared.gate.Wire.{Wire}
use Rattle.sc_gate.specs.declared.gate.Gate.{Gate}
use Rattle.sc_gate.specs.Gates.{class_of, operands, AreDistinct}
use Rattle.sc_gate.specs.Numbers.{Numbers, IsThere, AreThere}
use Rattle.sc_gate.specs.Renaming.{rename_gate}
use Rattle.sc_deck.specs.declared.item.Item.{Item}
use Rattle.sc_deck.specs.declared.item.Item.TheVariants as item
use Rattle.sc_deck.specs.Bodies.{after_items, ItemsFit}
use Rattle.sc_deck.specs.Decks.{CallFits, ItemCallFits, CallsFit}
use Rattle.sc_deck.specs.Events.{Event, Apply, gates_in, after_events}
use Rattle.sc_deck.specs.Items.{ItemFits, WiresFit, after_item}
use Rattle.sc_deck.specs.Keys.{param_classes}
use Rattle.sc_deck.specs.Modules.{Module}
use Rattle.sc_deck.specs.Placing.{Sized}
use Rattle.sc_deck.specs.Unfolding.{Unfolding, unfolding_at, unfold_item, unfold_items, places_with, places_after, placed, repeated}
use Rattle.sc_deck.proofs.FormedLaws.{Fine, there_later}
use Rattle.sc_deck.proofs.PlaceLaws.{Sized-item, placed-classes}
use Rattle.sc_deck.proofs.SequenceLaws.{gates_in-append, unfold_items-append, repeated-more}
use Rattle.sc_deck.proofs.WireLaws.{placed-all}
use Rattle.sc_sched.specs.declared.order.Rank.{Rank}
use Rattle.sc_sched.specs.Legal.{Region, Step, IsLegal}
use Rattle.sc_sched.specs.Schedule.{positions}
use Rattle.sc_sched.specs.Sequences.{region_behind, step_behind, in_sequence, alone}
use Rattle.sc_sched.proofs.InSequence.{legal_sequence, legal_none, legal_alone}
use Rattle.sc_sched.proofs.Renamed.{legal_renamed}
use Rattle.sc_coarse.specs.declared.block.Block.{Block}
use Rattle.sc_coarse.specs.declared.block.Block.TheVariants as block
use Rattle.sc_coarse.specs.Building.{IsSingle}
use Rattle.sc_coarse.specs.CoarseRule.{turn_step, turn_call, single_blocks, turn_blocks, all_turn_blocks, AreStretchBlocks, IsCoarseRule}
use Rattle.sc_coarse.specs.CoarseSchedules.{turn, TurnBlock}
use Rattle.sc_coarse.specs.Expansions.{turn_gates, item_gates, flat_place, steps_called, callee_at, block_steps, all_steps}
use Rattle.sc_coarse.specs.Refusals.{item_width, width_in}
use Rattle.sc_coarse.proofs.Parts.{IsQuiet, plain_items, plain_gates, plain_same, by_parts}
use Rattle.sc_coarse.proofs.Placed.{fine_item, fine_items, placed_apart, passed_distinct, gate_later, there_after}
use Rattle.sc_coarse.proofs.SingleTurns.{item_behind, number_behind}
use Rattle.sc_coarse.proofs.StretchTurns.{stretch_turn, turns_step, stretch_blocks_are}

-- steps behind others, twice, and behind none
region_twice : (o n : ℕ) (region : Region) → region_behind o (region_behind n region) ≡ region_behind (o + n) region
region_twice o n [] = refl
region_twice o n (x ∷ region) = let e : o + (n + x) ≡ o + n + x = omega arith in λ i. e i ∷ region_twice o n region i

step_twice : (o n : ℕ) (step : Step) → step_behind o (step_behind n step) ≡ step_behind (o + n) step
step_twice o n [] = refl
step_twice o n (region ∷ step) = λ i. region_twice o n region i ∷ step_twice o n step i

pub behind_twice : (o n : ℕ) (steps : List Step) → map (step_behind o) (map (step_behind n) steps) ≡ map (step_behind (o + n)) steps
behind_twice o n [] = refl
behind_twice o n (step ∷ steps) = λ i. step_twice o n step i ∷ behind_twice o n steps i

region_zero : (region : Region) → region_behind 0 region ≡ region
region_zero [] = refl
region_zero (x ∷ region) = let e : 0 + x ≡ x = omega arith in λ i. e i ∷ region_zero region i

step_zero : (step : Step) → step_behind 0 step ≡ step
step_zero [] = refl
step_zero (region ∷ step) = λ i. region_zero region i ∷ step_zero step i

pub behind_zero : (steps : List Step) → map (step_behind 0) steps ≡ steps
behind_zero [] = refl
behind_zero (step ∷ steps) = λ i. step_zero step i ∷ behind_zero steps i

-- steps of gates, so many
pub record IsFlat (k d : ℕ) (gates : List Gate) (size : ℕ) (steps : List Step) : Type 0 where
  pub legal : IsLegal gates k d steps
  pub many : length gates ≡ size

-- the plain items before one of them
pub record IsCounted (sizes : ℕ → ℕ) (x : ℕ) (mid : List Item) (i : ℕ) : Type 0 where
  pub place : ℕ
  pub position : slice_index (plain_items x mid) i ≡ x + place
  pub inside : place < length mid
  pub before : sum_by (item_gates sizes) (take place mid) ≡ i

pub plain_counted : (sizes : ℕ → ℕ) (x : ℕ) (mid : List Item) → IsQuiet mid → (i : ℕ) → i < length (plain_items x mid) → IsCounted sizes x mid i
plain_counted sizes x [] q i l = absurd (omega arith)
plain_counted sizes x (item.Fresh class n ∷ mid) q i l =
    let h : IsCounted sizes (x + 1) mid i = plain_counted sizes (x + 1) mid q i l in
    record {
      place = suc h.place;
      position = h.position ∙ (let e : x + 1 + h.place ≡ x + suc h.place = omega arith in e);
      inside = (let b = h.inside in omega arith);
      before = (let s = sum_by-cons (item_gates sizes) (item.Fresh class n) (take h.place mid) in let b = h.before in omega arith);
    }
plain_counted sizes x (item.Gate gate ∷ mid) q zero l = record { place = 0; position = omega arith; inside = omega arith; before = refl }
plain_counted sizes x (item.Gate gate ∷ mid) q (suc i) l =
    let h : IsCounted sizes (x + 1) mid i = plain_counted sizes (x + 1) mid q i (omega arith) in
    record {
      place = suc h.place;
      position = h.position ∙ (let e : x + 1 + h.place ≡ x + suc h.place = omega arith in e);
      inside = (let b = h.inside in omega arith);
      before = (let s = sum_by-cons (item_gates sizes) (item.Gate gate) (take h.place mid) in let b = h.before in omega arith);
    }
plain_counted sizes x (item.Call callee wires ∷ mid) q i l = absurd q
plain_counted sizes x (item.Gates gate turns ∷ mid) q i l = absurd q
plain_counted sizes x (item.Calls callee wires turns ∷ mid) q i l = absurd q

map_same : {A B : Type 0} (P : A → Type 0) (f h : A → B) → ((x : A) → P x → f x ≡ h x) → (xs : List A) → All P xs → map f xs ≡ map h xs
map_same P f h same [] all = refl
map_same P f h same (x ∷ xs) all = let here = same x (All-head P x xs all) in let rest = map_same P f h same xs (All-tail P x xs all) in λ i. here i ∷ rest i

map_twice : {A B C : Type 0} (f : B → C) (h : A → B) (xs : List A) → map f (map h xs) ≡ map (λ x. f (h x)) xs
map_twice f h [] = refl
map_twice f h (x ∷ xs) = ap (λ (ys : List _). f (h x) ∷ ys) (map_twice f h xs)

-- front parts of lists
pub take_front : (front rest : List Item) → take (length front) (front ++ rest) ≡ front
take_front [] rest = refl
take_front (i ∷ front) rest = ap (λ (xs : List Item). i ∷ xs) (take_front front rest)

pub take_middle : (front mid back : List Item) (y : ℕ) → y ≤ length mid → take (length front + y) (front ++ (mid ++ back)) ≡ front ++ take y mid
take_middle [] mid back y l = ap (λ (n : ℕ). take n (mid ++ back)) (let e : 0 + y ≡ y = omega arith in e) ∙ by mid y l
  where
    by : (xs : List Item) (y : ℕ) → y ≤ length xs → take y (xs ++ back) ≡ take y xs
    by [] zero l = refl
    by [] (suc y) l = absurd (omega arith)
    by (x ∷ xs) zero l = refl
    by (x ∷ xs) (suc y) l = ap (λ (ys : List Item). x ∷ ys) (by xs y (omega arith))
take_middle (i ∷ front) mid back y l =
    ap (λ (n : ℕ). take n (i ∷ (front ++ (mid ++ back)))) (let e : suc (length front) + y ≡ suc (length front + y) = omega arith in e) ∙ ap (λ (xs : List Item). i ∷ xs) (take_middle front mid back y l)

take_whole : (xs : List Item) → take (length xs) xs ≡ xs
take_whole [] = refl
take_whole (x ∷ xs) = ap (λ (ys : List Item). x ∷ ys) (take_whole xs)

fits_behind : (numbers : Numbers) (front items : List Item) → ItemsFit numbers (front ++ items) → ItemsFit (after_items numbers front) items
fits_behind numbers [] items fit = fit
fits_behind numbers (i ∷ front) items fit = fits_behind (after_item numbers i) front items fit.1

fits_front : (numbers : Numbers) (items back : List Item) → ItemsFit numbers (items ++ back) → ItemsFit numbers items
fits_front numbers [] back fit = tt
fits_front numbers (i ∷ items) back fit = (fit.0, fits_front (after_item numbers i) items back fit.1)

calls_behind : (before : List Module) (front items : List Item) → CallsFit before (front ++ items) → CallsFit before items
calls_behind before [] items calls = calls
calls_behind before (i ∷ front) items calls = calls_behind before front items calls.1

calls_front : (before : List Module) (items back : List Item) → CallsFit before (items ++ back) → CallsFit before items
calls_front before [] back calls = tt
calls_front before (i ∷ items) back calls = (calls.0, calls_front before items back calls.1)

-- the same again and again
module _ (k d : ℕ) (once : Numbers → List Event) (ws : List Wire) (s : ℕ) (steps : List Step) (each : (next : Numbers) → AreThere next ws → IsFlat k d (gates_in (once next)) s steps) where
  pub turns_steps : ℕ → List Step
  turns_steps zero = []
  turns_steps (suc n) = in_sequence (n * s) (turns_steps n) steps

  pub turns_flat : (n : ℕ) (next : Numbers) → AreThere next ws → IsFlat k d (gates_in (repeated n once next)) (n * s) (turns_steps n)
  unfolding turns_steps
  turns_flat zero next there = record { legal = legal_none k d; many = omega arith }
  turns_flat (suc n) next there =
      let events : List Event = repeated n once next in
      let more : List Event = once (after_events next events) in
      let is : gates_in (repeated (suc n) once next) ≡ gates_in events ++ gates_in more = ap gates_in (repeated-more n once next) ∙ gates_in-append events more in
      let h : IsFlat k d (gates_in events) (n * s) (turns_steps n) = turns_flat n next there in
      let g : IsFlat k d (gates_in more) s steps = each (after_events next events) (there_later next events ws there) in
      record {
        legal = subst (λ (gs : List Gate). IsLegal gs k d (in_sequence (n * s) (turns_steps n) steps)) (sym is)
            (subst (λ (m : ℕ). IsLegal (gates_in events ++ gates_in more) k d (in_sequence m (turns_steps n) steps)) h.many
            (legal_sequence (gates_in events) (gates_in more) k d (turns_steps n) steps h.legal g.legal));
        many = ap length is ∙ (length-append (gates_in events) (gates_in more) ∙ (let a = h.many in let b = g.many in let e : length (gates_in events) + length (gates_in more) ≡ suc n * s = omega (arith, a, b) in e));
      }

  pub turns_expand : (sizes : ℕ → ℕ) (called : ℕ → List Step) (whole : List Item) (f : ℕ → TurnBlock) (o : ℕ) → ((n : ℕ) → block_steps sizes called whole (f n) ≡ map (step_behind (o + n * s)) steps) →
      (n : ℕ) → all_steps sizes called whole (map f (positions n)) ≡ map (step_behind o) (turns_steps n)
  unfolding turns_steps
  turns_expand sizes called whole f o block zero = refl
  turns_expand sizes called whole f o block (suc n) =
      ap (all_steps sizes called whole) (map-append f (positions n) (n ∷ []))
      ∙ (flat_map-append (block_steps sizes called whole) (map f (positions n)) (f n ∷ [])
      ∙ ((λ i. turns_expand sizes called whole f o block n i ++ (append-nil (block_steps sizes called whole (f n)) ∙ (block n ∙ sym (behind_twice o (n * s) steps))) i)
      ∙ sym (map-append (step_behind o) (turns_steps n) (map (step_behind (n * s)) steps))))

module _ (us : List Unfolding) (before : List Module) (sizes : ℕ → ℕ) (called : ℕ → List Step) (k d : ℕ) (some : 1 ≤ k)
    (callees : (j : ℕ) (m : Module) → slice_get before j ≡ Some m → (wires : List Wire) (next : Numbers) → map class_of wires ≡ param_classes m.key → AreDistinct wires → AreThere next wires →
    IsFlat k d (gates_in (unfolding_at us j wires next)) (sizes j) (called j)) where
  call_flat : (callee : ℕ) (wires passed : List Wire) → CallFits before callee wires → map class_of passed ≡ map class_of wires → AreDistinct passed → (next : Numbers) → AreThere next passed →
      IsFlat k d (gates_in (unfolding_at us callee passed next)) (sizes callee) (called callee)
  call_flat callee wires passed fit classes distinct next there = by (slice_get before callee) refl fit
    where
      by : (o : Option Module) → slice_get before callee ≡ o → IsSomeAnd o (λ m. map class_of wires ≡ param_classes m.key) → IsFlat k d (gates_in (unfolding_at us callee passed next)) (sizes callee) (called callee)
      by None e h = absurd h
      by (Some m) e h = callees callee m e passed next (classes ∙ h) distinct there

  -- a call of a body, on the places of its wires
  placed_call : (places : List Wire) (numbers next : Numbers) → Fine places numbers next → (callee : ℕ) (wires : List Wire) → WiresFit numbers wires → CallFits before callee wires →
      (later : Numbers) → AreThere later (map (placed places) wires) → IsFlat k d (gates_in (unfolding_at us callee (map (placed places) wires) later)) (sizes callee) (called callee)
  placed_call places numbers next fine callee wires fits calls later there =
      call_flat callee wires (map (placed places) wires) calls (placed-classes places numbers fine.sized wires fits.there) (passed_distinct places numbers next fine wires fits) later there

  passed_there : (places : List Wire) (numbers next : Numbers) → Fine places numbers next → (wires : List Wire) → WiresFit numbers wires → AreThere next (map (placed places) wires)
  passed_there places numbers next fine wires fits = placed-all (IsThere next) places numbers fine.sized fine.there wires fits.there

  repeated_size : (once : Numbers → List Event) (ws : List Wire) (s : ℕ) → ((next : Numbers) → AreThere next ws → length (gates_in (once next)) ≡ s) → (n : ℕ) (next : Numbers) → AreThere next ws → length (gates_in (repeated n once next)) ≡ n * s
  repeated_size once ws s each zero next there = omega arith
  repeated_size once ws s each (suc n) next there =
      let e = ap length (gates_in-append (once next) (repeated n once (after_events next (once next)))) in
      let l = length-append (gates_in (once next)) (gates_in (repeated n once (after_events next (once next)))) in
      let a = each next there in
      let b = repeated_size once ws s each n (after_events next (once next)) (there_later next (once next) ws there) in
      e ∙ (l ∙ (let z : length (gates_in (once next)) + length (gates_in (repeated n once (after_events next (once next)))) ≡ suc n * s = omega (arith, a, b) in z))

  -- how many gates an item is
  item_size : (places : List Wire) (numbers next : Numbers) → Fine places numbers next → (i : Item) → ItemFits numbers i → ItemCallFits before i → length (gates_in (unfold_item us i places next)) ≡ item_gates sizes i
  item_size places numbers next fine (item.Fresh class n) fits calls = omega arith
  item_size places numbers next fine (item.Gate gate) fits calls = omega arith
  item_size places numbers next fine (item.Call callee wires) fits calls =
      (placed_call places numbers next fine callee wires fits calls next (passed_there places numbers next fine wires fits)).many ∙ (let e : sizes callee ≡ 1 * sizes callee = omega arith in e)
  item_size places numbers next fine (item.Gates gate turns) fits calls = repeated_size (λ _. Apply (rename_gate (placed places) gate) ∷ []) [] 1 (λ later there. refl) turns next tt
  item_size places numbers next fine (item.Calls callee wires turns) fits calls =
      repeated_size (unfolding_at us callee (map (placed places) wires)) (map (placed places) wires) (sizes callee)
      (λ later there. (placed_call places numbers next fine callee wires fits.0 calls later there).many) turns next (passed_there places numbers next fine wires fits.0)

  pub items_size : (places : List Wire) (numbers next : Numbers) → Fine places numbers next → (items : List Item) → ItemsFit numbers items → CallsFit before items →
      length (gates_in (unfold_items us items places next)) ≡ sum_by (item_gates sizes) items
  items_size places numbers next fine [] fits calls = refl
  items_size places numbers next fine (i ∷ items) fits calls =
      let events : List Event = unfold_item us i places next in
      let rest : List Event = unfold_items us items (places_with i places next) (after_events next events) in
      let e = ap length (gates_in-append events rest) in
      let l = length-append (gates_in events) (gates_in rest) in
      let a = item_size places numbers next fine i fits.0 calls.0 in
      let b = items_size (places_with i places next) (after_item numbers i) (after_events next events) (fine_item us places numbers next i fine) items fits.1 calls.1 in
      let s = sum_by-cons (item_gates sizes) i items in
      e ∙ (l ∙ (let z : length (gates_in events) + length (gates_in rest) ≡ sum_by (item_gates sizes) (i ∷ items) = omega (arith, a, b, s) in z))

  -- the gates of plain items and fresh ones, under the names that they have at the end
  plain_flat : (mid : List Item) → IsQuiet mid → (places : List Wire) (numbers next : Numbers) → Sized places numbers → ItemsFit numbers mid →
      gates_in (unfold_items us mid places next) ≡ map (rename_gate (placed (places_after us mid places next))) (plain_gates mid)
  plain_flat [] q places numbers next sized fits = refl
  plain_flat (item.Fresh class n ∷ mid) q places numbers next sized fits =
      plain_flat mid q (places_with (item.Fresh class n) places next) (after_item numbers (item.Fresh class n)) (after_events next (unfold_item us (item.Fresh class n) places next)) (Sized-item places numbers (item.Fresh class n) next sized) fits.1
  plain_flat (item.Gate gate ∷ mid) q places numbers next sized fits =
      let here = gate_later us mid places next numbers sized gate fits.0.there in
      let rest = plain_flat mid q places numbers next sized fits.1 in
      λ i. here i ∷ rest i
  plain_flat (item.Call callee wires ∷ mid) q places numbers next sized fits = absurd q
  plain_flat (item.Gates gate turns ∷ mid) q places numbers next sized fits = absurd q
  plain_flat (item.Calls callee wires turns ∷ mid) q places numbers next sized fits = absurd q

  all_then : (P : Wire → Type 0) (xs ys : List Wire) → AllByRecursion P xs → AllByRecursion P ys → AllByRecursion P (xs ++ ys)
  all_then P [] ys a b = b
  all_then P (x ∷ xs) ys a b = (a.0, all_then P xs ys a.1 b)

  plain_there : (mid : List Item) → IsQuiet mid → (numbers : Numbers) → ItemsFit numbers mid → AreThere (after_items numbers mid) (flat_map operands (plain_gates mid))
  plain_there [] q numbers fits = tt
  plain_there (item.Fresh class n ∷ mid) q numbers fits = plain_there mid q (after_item numbers (item.Fresh class n)) fits.1
  plain_there (item.Gate gate ∷ mid) q numbers fits =
      subst (AreThere (after_items numbers mid)) (sym (flat_map-cons operands gate (plain_gates mid)))
      (all_then (IsThere (after_items numbers mid)) (operands gate) (flat_map operands (plain_gates mid)) (there_after numbers mid (operands gate) fits.0.there) (plain_there mid q numbers fits.1))
  plain_there (item.Call callee wires ∷ mid) q numbers fits = absurd q
  plain_there (item.Gates gate turns ∷ mid) q numbers fits = absurd q
  plain_there (item.Calls callee wires turns ∷ mid) q numbers fits = absurd q

  -- a legal schedule of plain gates is one of the same gates in their places
  stretch_legal : (mid : List Item) → IsQuiet mid → (places : List Wire) (numbers next : Numbers) → Fine places numbers next → ItemsFit numbers mid → (steps : List Step) → IsLegal (plain_gates mid) k d steps →
      IsLegal (gates_in (unfold_items us mid places next)) k d steps
  stretch_legal mid q places numbers next fine fits steps h =
      subst (λ (gs : List Gate). IsLegal gs k d steps) (sym (plain_flat mid q places numbers next fine.sized fits))
      (legal_renamed (placed (places_after us mid places next)) (plain_gates mid) k d steps
      (placed_apart (places_after us mid places next) (after_items numbers mid) (after_events next (unfold_items us mid places next)) (fine_items us places numbers next mid fine)
      (flat_map operands (plain_gates mid)) (plain_there mid q numbers fits)) h)

  -- the steps of a stretch, over the positions of the flat list
  stretch_expand : (front mid back : List Item) → IsQuiet mid → (steps : List Step) → IsLegal (plain_gates mid) k d steps →
      all_steps sizes called (front ++ (mid ++ back)) (map (turns_step (plain_items (length front) mid)) steps) ≡ map (step_behind (sum_by (item_gates sizes) front)) steps
  stretch_expand front mid back q steps h = by steps (subst (λ (n : ℕ). All (λ step. All (λ region. All (λ x. x < n) region) step) steps) (sym (plain_same (length front) mid)) h.in_range)
    where
      place_is : (x : ℕ) → x < length (plain_items (length front) mid) → flat_place sizes (front ++ (mid ++ back)) (stretch_turn (plain_items (length front) mid) x) ≡ sum_by (item_gates sizes) front + x
      place_is x l =
          let c : IsCounted sizes (length front) mid x = plain_counted sizes (length front) mid q x l in
          let t : sum_by (item_gates sizes) (take (slice_index (plain_items (length front) mid) x) (front ++ (mid ++ back))) ≡ sum_by (item_gates sizes) front + x =
          ap (λ (n : ℕ). sum_by (item_gates sizes) (take n (front ++ (mid ++ back)))) c.position
          ∙ (ap (sum_by (item_gates sizes)) (take_middle front mid back c.place (let b = c.inside in omega arith))
          ∙ (sum_by-append (item_gates sizes) front (take c.place mid) ∙ ap (λ (n : ℕ). sum_by (item_gates sizes) front + n) c.before)) in
          no_turn t
        where
          no_turn : sum_by (item_gates sizes) (take (slice_index (plain_items (length front) mid) x) (front ++ (mid ++ back))) ≡ sum_by (item_gates sizes) front + x →
              flat_place sizes (front ++ (mid ++ back)) (stretch_turn (plain_items (length front) mid) x) ≡ sum_by (item_gates sizes) front + x
          no_turn t = omega arith

      region_is : (region : Region) → All (λ x. x < length (plain_items (length front) mid)) region →
          map (flat_place sizes (front ++ (mid ++ back))) (map (stretch_turn (plain_items (length front) mid)) region) ≡ region_behind (sum_by (item_gates sizes) front) region
      region_is region inside =
          map_twice (flat_place sizes (front ++ (mid ++ back))) (stretch_turn (plain_items (length front) mid)) region
          ∙ map_same (λ x. x < length (plain_items (length front) mid)) _ (λ x. sum_by (item_gates sizes) front + x) place_is region inside

      step_is : (step : Step) → All (λ region. All (λ x. x < length (plain_items (length front) mid)) region) step →
          map (map (flat_place sizes (front ++ (mid ++ back)))) (map (map (stretch_turn (plain_items (length front) mid))) step) ≡ step_behind (sum_by (item_gates sizes) front) step
      step_is step inside =
          map_twice (map (flat_place sizes (front ++ (mid ++ back)))) (map (stretch_turn (plain_items (length front) mid))) step
          ∙ map_same (λ region. All (λ x. x < length (plain_items (length front) mid)) region) _ (region_behind (sum_by (item_gates sizes) front)) region_is step inside

      by : (steps : List Step) → All (λ step. All (λ region. All (λ x. x < length (plain_items (length front) mid)) region) step) steps →
          all_steps sizes called (front ++ (mid ++ back)) (map (turns_step (plain_items (length front) mid)) steps) ≡ map (step_behind (sum_by (item_gates sizes) front)) steps
      by [] inside = refl
      by (step ∷ steps) inside =
          let here = step_is step (All-head (λ step. All (λ region. All (λ x. x < length (plain_items (length front) mid)) region) step) step steps inside) in
          let rest = by steps (All-tail (λ step. All (λ region. All (λ x. x < length (plain_items (length front) mid)) region) step) step steps inside) in
          flat_map-cons (block_steps sizes called (front ++ (mid ++ back))) (turns_step (plain_items (length front) mid) step) (map (turns_step (plain_items (length front) mid)) steps)
          ∙ (λ i. here i ∷ rest i)

  -- an item that stands alone
  pub record IsFlatItem (whole : List Item) (x o : ℕ) (gates : List Gate) : Type 0 where
    pub steps : List Step
    pub legal : IsLegal gates k d steps
    pub is : all_steps sizes called whole (all_turn_blocks whole (block.Alone x ∷ [])) ≡ map (step_behind o) steps

  single_flat : (whole front : List Item) (i : Item) (back : List Item) → whole ≡ front ++ i ∷ back → IsSingle i → item_width i ≤ d → (places : List Wire) (numbers next : Numbers) → Fine places numbers next →
      ItemFits numbers i → ItemCallFits before i → IsFlatItem whole (length front) (sum_by (item_gates sizes) front) (gates_in (unfold_item us i places next))
  single_flat whole front i back is lone narrow places numbers next fine fits calls = by i lone narrow fits calls found number
    where
      found : slice_get whole (length front) ≡ Some i
      found = ap (λ (xs : List Item). slice_get xs (length front)) is ∙ item_behind front i back

      number : slice_index (map (turn_gates sizes) whole) (length front) ≡ turn_gates sizes i
      number = ap (λ (xs : List Item). slice_index (map (turn_gates sizes) xs) (length front)) is ∙ number_behind (turn_gates sizes) front i back

      place_is : (s : ℕ) → slice_index (map (turn_gates sizes) whole) (length front) ≡ s → (n : ℕ) → flat_place sizes whole (turn (length front) n) ≡ sum_by (item_gates sizes) front + n * s
      place_is s e n =
          (λ j. sum_by (item_gates sizes) (take (length front) (is j)) + n * e j) ∙ ap (λ (xs : List Item). sum_by (item_gates sizes) xs + n * s) (take_front front (i ∷ back))

      alone_is : (j : Item) → slice_get whole (length front) ≡ Some j → all_turn_blocks whole (block.Alone (length front) ∷ []) ≡ single_blocks (length front) (Some j)
      alone_is j at = append-nil (single_blocks (length front) (slice_get whole (length front))) ∙ ap (single_blocks (length front)) at

      by : (j : Item) → IsSingle j → item_width j ≤ d → ItemFits numbers j → ItemCallFits before j → slice_get whole (length front) ≡ Some j → slice_index (map (turn_gates sizes) whole) (length front) ≡ turn_gates sizes j →
          IsFlatItem whole (length front) (sum_by (item_gates sizes) front) (gates_in (unfold_item us j places next))
      by (item.Fresh class n) lone narrow fits calls at num = absurd lone
      by (item.Gate gate) lone narrow fits calls at num = absurd lone
      by (item.Call callee wires) lone narrow fits calls at num = record {
        steps = called callee;
        legal = (placed_call places numbers next fine callee wires fits calls next (passed_there places numbers next fine wires fits)).legal;
        is = ap (all_steps sizes called whole) (alone_is (item.Call callee wires) at)
            ∙ (append-nil (block_steps sizes called whole (turn_call (length front) 0))
            ∙ (λ j. map (step_behind (first j)) (steps_called called (callee_at (at j)))));
      }
        where
          first : flat_place sizes whole (turn (length front) 0) ≡ sum_by (item_gates sizes) front
          first = let e = place_is (sizes callee) num 0 in omega (arith, e)
      by (item.Gates gate turns) lone narrow fits calls at num =
          let once : Numbers → List Event = λ _. Apply (rename_gate (placed places) gate) ∷ [] in
          let each : (next : Numbers) → AreThere next [] → IsFlat k d (gates_in (once next)) 1 alone = λ later there. record { legal = legal_alone (rename_gate (placed places) gate) k d some narrow; many = refl } in
          record {
            steps = turns_steps k d once [] 1 alone each turns;
            legal = (turns_flat k d once [] 1 alone each turns next tt).legal;
            is = ap (all_steps sizes called whole) (alone_is (item.Gates gate turns) at)
                ∙ turns_expand k d once [] 1 alone each sizes called whole (turn_step (length front)) (sum_by (item_gates sizes) front)
                (λ n. (let e : flat_place sizes whole (turn (length front) n) ≡ sum_by (item_gates sizes) front + n * 1 + 0 = (let p = place_is 1 num n in omega (arith, p)) in λ j. ((e j ∷ []) ∷ []) ∷ [])) turns;
          }
      by (item.Calls callee wires turns) lone narrow fits calls at num =
          let once : Numbers → List Event = unfolding_at us callee (map (placed places) wires) in
          let each : (next : Numbers) → AreThere next (map (placed places) wires) → IsFlat k d (gates_in (once next)) (sizes callee) (called callee) = λ later there. placed_call places numbers next fine callee wires fits.0 calls later there in
          record {
            steps = turns_steps k d once (map (placed places) wires) (sizes callee) (called callee) each turns;
            legal = (turns_flat k d once (map (placed places) wires) (sizes callee) (called callee) each turns next (passed_there places numbers next fine wires fits.0)).legal;
            is = ap (all_steps sizes called whole) (alone_is (item.Calls callee wires turns) at)
                ∙ turns_expand k d once (map (placed places) wires) (sizes callee) (called callee) each sizes called whole (turn_call (length front)) (sum_by (item_gates sizes) front)
                (λ n. (λ j. map (step_behind (place_is (sizes callee) num n j)) (steps_called called (callee_at (at j))))) turns;
          }

  module _ (comes : Rank → Rank → Bool) (whole : List Item) (wires : List Wire) (numbers next : Numbers) (fine : Fine wires numbers next) (fits : ItemsFit numbers whole) (calls : CallsFit before whole)
      (narrow : (x : ℕ) → width_in whole x ≤ d) where
    gates_upto : ℕ → List Gate
    gates_upto n = gates_in (unfold_items us (take n whole) wires next)

    record Flat (a b : ℕ) (blocks : List Block) : Type 0 where
      gates : List Gate
      steps : List Step
      more : gates_upto b ≡ gates_upto a ++ gates
      legal : IsLegal gates k d steps
      is : all_steps sizes called whole (all_turn_blocks whole blocks) ≡ map (step_behind (length (gates_upto a))) steps

    gates_of_front : (front rest : List Item) → whole ≡ front ++ rest → gates_upto (length front) ≡ gates_in (unfold_items us front wires next)
    unfolding gates_upto
    gates_of_front front rest is = ap (λ (xs : List Item). gates_in (unfold_items us xs wires next)) (ap (take (length front)) is ∙ take_front front rest)

    size_of_front : (front rest : List Item) → whole ≡ front ++ rest → length (gates_upto (length front)) ≡ sum_by (item_gates sizes) front
    size_of_front front rest is =
        ap length (gates_of_front front rest is)
        ∙ items_size wires numbers next fine front (fits_front numbers front rest (subst (ItemsFit numbers) is fits)) (calls_front before front rest (subst (CallsFit before) is calls))

    gates_more : (front items : List Item) → gates_in (unfold_items us (front ++ items) wires next) ≡
        gates_in (unfold_items us front wires next) ++ gates_in (unfold_items us items (places_after us front wires next) (after_events next (unfold_items us front wires next)))
    gates_more front items = ap gates_in (unfold_items-append us front items wires next)
        ∙ gates_in-append (unfold_items us front wires next) (unfold_items us items (places_after us front wires next) (after_events next (unfold_items us front wires next)))

    upto_more : (front items back : List Item) → whole ≡ front ++ (items ++ back) → (n : ℕ) → n ≡ length front + length items →
        gates_upto n ≡ gates_upto (length front) ++ gates_in (unfold_items us items (places_after us front wires next) (after_events next (unfold_items us front wires next)))
    upto_more front items back is n long =
        let all : whole ≡ (front ++ items) ++ back = is ∙ sym (append_assoc front items back) in
        ap gates_upto (long ∙ sym (length-append front items)) ∙ (gates_of_front (front ++ items) back all
        ∙ (gates_more front items ∙ ap (λ (gs : List Gate). gs ++ gates_in (unfold_items us items (places_after us front wires next) (after_events next (unfold_items us front wires next)))) (sym (gates_of_front front (items ++ back) is))))

    stretch : (front mid back : List Item) → whole ≡ front ++ (mid ++ back) → IsQuiet mid → (blocks : List Block) →
        AreStretchBlocks comes k d (plain_items (length front) mid) (plain_gates mid) blocks → Flat (length front) (length front + length mid) blocks
    stretch front mid back is quiet blocks h = record {
      gates = gates_in (unfold_items us mid (places_after us front wires next) (after_events next (unfold_items us front wires next)));
      steps = h.steps;
      more = upto_more front mid back is (length front + length mid) refl;
      legal = stretch_legal mid quiet (places_after us front wires next) (after_items numbers front) (after_events next (unfold_items us front wires next)) (fine_items us wires numbers next front fine)
          (fits_front (after_items numbers front) mid back (fits_behind numbers front (mid ++ back) (subst (ItemsFit numbers) is fits))) h.steps h.priority.legal;
      is = ap (all_steps sizes called whole) (ap (all_turn_blocks whole) h.blocks_are ∙ stretch_blocks_are whole (plain_items (length front) mid) h.steps)
          ∙ (ap (λ (items : List Item). all_steps sizes called items (map (turns_step (plain_items (length front) mid)) h.steps)) is
          ∙ (stretch_expand front mid back quiet h.steps h.priority.legal
          ∙ ap (λ (n : ℕ). map (step_behind n) h.steps) (sym (size_of_front front (mid ++ back) is))));
    }

    width_is : (front : List Item) (i : Item) (back : List Item) → whole ≡ front ++ i ∷ back → item_width i ≤ d
    width_is front i back is =
        let e : width_in whole (length front) ≡ item_width i = ap (λ (xs : List Item). width_in xs (length front)) is ∙ number_behind item_width front i back in
        let n = narrow (length front) in omega (arith, e, n)

    single : (front : List Item) (i : Item) (back : List Item) → whole ≡ front ++ i ∷ back → IsSingle i → Flat (length front) (length front + 1) (block.Alone (length front) ∷ [])
    single front i back is lone =
        let fit : ItemsFit (after_items numbers front) (i ∷ back) = fits_behind numbers front (i ∷ back) (subst (ItemsFit numbers) is fits) in
        let call : CallsFit before (i ∷ back) = calls_behind before front (i ∷ back) (subst (CallsFit before) is calls) in
        let h : IsFlatItem whole (length front) (sum_by (item_gates sizes) front) (gates_in (unfold_item us i (places_after us front wires next) (after_events next (unfold_items us front wires next)))) =
        single_flat whole front i back is lone (width_is front i back is) (places_after us front wires next) (after_items numbers front) (after_events next (unfold_items us front wires next)) (fine_items us wires numbers next front fine) fit.0 call.0 in
        record {
          gates = gates_in (unfold_item us i (places_after us front wires next) (after_events next (unfold_items us front wires next)));
          steps = h.steps;
          more = upto_more front (i ∷ []) back is (length front + 1) refl
              ∙ ap (λ (es : List Event). gates_upto (length front) ++ gates_in es) (append-nil (unfold_item us i (places_after us front wires next) (after_events next (unfold_items us front wires next))));
          legal = h.legal;
          is = h.is ∙ ap (λ (n : ℕ). map (step_behind n) h.steps) (sym (size_of_front front (i ∷ back) is));
        }

    join : (a b c : ℕ) (bs cs : List Block) → a ≤ b → b ≤ c → Flat a b bs → Flat b c cs → Flat a c (bs ++ cs)
    join a b c bs cs one two first second =
        let long : length (gates_upto b) ≡ length (gates_upto a) + length first.gates = ap length first.more ∙ length-append (gates_upto a) first.gates in
        record {
          gates = first.gates ++ second.gates;
          steps = in_sequence (length first.gates) first.steps second.steps;
          more = second.more ∙ (ap (λ (gs : List Gate). gs ++ second.gates) first.more ∙ append_assoc (gates_upto a) first.gates second.gates);
          legal = legal_sequence first.gates second.gates k d first.steps second.steps first.legal second.legal;
          is = ap (all_steps sizes called whole) (flat_map-append (turn_blocks whole) bs cs)
              ∙ (flat_map-append (block_steps sizes called whole) (all_turn_blocks whole bs) (all_turn_blocks whole cs)
              ∙ ((λ j. first.is j ++ (second.is ∙ (ap (λ (n : ℕ). map (step_behind n) second.steps) long ∙ sym (behind_twice (length (gates_upto a)) (length first.gates) second.steps))) j)
              ∙ sym (map-append (step_behind (length (gates_upto a))) first.steps (map (step_behind (length first.gates)) second.steps))));
        }

    -- THE EXPANSION of a body's blocks is a legal schedule of its flat gates
    pub body_legal : (blocks : List Block) → IsCoarseRule comes k d whole blocks → IsLegal (gates_in (unfold_items us whole wires next)) k d (all_steps sizes called whole (all_turn_blocks whole blocks))
    unfolding gates_upto
    body_legal blocks rule =
        let h : Flat 0 (length whole) blocks = by_parts comes k d whole Flat stretch single join blocks rule in
        let all : gates_in (unfold_items us whole wires next) ≡ h.gates = sym (ap (λ (xs : List Item). gates_in (unfold_items us xs wires next)) (take_whole whole)) ∙ h.more in
        let same : all_steps sizes called whole (all_turn_blocks whole blocks) ≡ h.steps = h.is ∙ behind_zero h.steps in
        subst (λ (gs : List Gate). IsLegal gs k d (all_steps sizes called whole (all_turn_blocks whole blocks))) (sym all)
        (subst (IsLegal h.gates k d) (sym same) h.legal)
