-- Lengths of coarse schedules: no more steps than gates, and the number of steps of the expansion.
use Rattle.std.proofs.Common.{◌≡◌, ℕ, zero, suc, ◌+◌, ◌*◌, ◌<◌, ◌≤◌, Bool, Option, Some, None, List, [], ◌∷◌, ◌++◌, map, length, take, slice_get, refl, sym, ap, ◌∙◌, subst, arith}
use Rattle.std.specs.Prelude.{All}
use Rattle.std.specs.List.{sum_by}
use Rattle.std.specs.Option.{option_map_or}
use Rattle.std.proofs.lemmas.List.{append-nil, length-append, length-map, map-append}
use Rattle.std.proofs.lemmas.List.Concat.{flat_map-append}
use Rattle.std.proofs.lemmas.List.Elements.{All-head, All-tail, All-cons, All-nil, All-append, All-map}
use Rattle.std.proofs.lemmas.List.Sums.{sum_by-cons, sum_by-append}
use Rattle.sc_deck.specs.declared.item.Item.{Item}
use Rattle.sc_deck.specs.declared.item.Item.TheVariants as item
use Rattle.sc_sched.specs.declared.order.Rank.{Rank}
use Rattle.sc_sched.specs.Legal.{Step}
use Rattle.sc_sched.specs.PrioritySchedules.{shop_of_gates}
use Rattle.sc_sched.specs.Schedule.{positions}
use Rattle.sc_sched.specs.Sequences.{step_behind}
use Rattle.sc_sched.proofs.StepLaws.{few_steps}
use Rattle.sc_coarse.specs.declared.block.Block.{Block}
use Rattle.sc_coarse.specs.declared.block.Block.TheVariants as block
use Rattle.sc_coarse.specs.Building.{IsSingle}
use Rattle.sc_coarse.specs.CoarseRule.{item_step, turn_step, turn_call, single_blocks, turn_blocks, all_turn_blocks, AreStretchBlocks, IsCoarseRule}
use Rattle.sc_coarse.specs.CoarseSchedules.{TurnBlock}
use Rattle.sc_coarse.specs.Expansions.{item_gates, flat_place, steps_called, callee_at, block_steps, all_steps}
use Rattle.sc_coarse.specs.Lengths.{item_length, block_length, blocks_length, CallsBelow, IsInBody}
use Rattle.sc_coarse.proofs.FlatParts.{take_front, take_middle}
use Rattle.sc_coarse.proofs.Parts.{IsQuiet, plain_items, plain_gates, by_parts}
use Rattle.sc_coarse.proofs.SingleTurns.{item_behind}

-- the lengths of callees alone count
item_length-same : (f h : ℕ → ℕ) (n : ℕ) → ((j : ℕ) → j < n → f j ≡ h j) → (i : Item) → CallsBelow n i → item_length f i ≡ item_length h i
item_length-same f h n same (item.Fresh class m) below = refl
item_length-same f h n same (item.Gate gate) below = refl
item_length-same f h n same (item.Call callee wires) below = same callee below
item_length-same f h n same (item.Gates gate turns) below = refl
item_length-same f h n same (item.Calls callee wires turns) below = ap (λ (m : ℕ). turns * m) (same callee below)

pub got_all : (P : Item → Type 0) (items : List Item) → All P items → (x : ℕ) (i : Item) → slice_get items x ≡ Some i → P i
got_all P [] all x i at = absurd (cc)
got_all P (j ∷ items) all zero i at = let e : j ≡ i = cc in subst P e (All-head P j items all)
got_all P (j ∷ items) all (suc x) i at = got_all P items (All-tail P j items all) x i at

block_length-same : (f h : ℕ → ℕ) (n : ℕ) → ((j : ℕ) → j < n → f j ≡ h j) → (items : List Item) → All (CallsBelow n) items → (b : Block) → block_length f items b ≡ block_length h items b
block_length-same f h n same items below (block.Step regions) = refl
block_length-same f h n same items below (block.Alone x) = by (slice_get items x) refl
  where
    by : (o : Option Item) → slice_get items x ≡ o → option_map_or (item_length f) o 0 ≡ option_map_or (item_length h) o 0
    by None e = refl
    by (Some i) e = item_length-same f h n same i (got_all (CallsBelow n) items below x i e)

pub blocks_length-same : (f h : ℕ → ℕ) (n : ℕ) → ((j : ℕ) → j < n → f j ≡ h j) → (items : List Item) → All (CallsBelow n) items → (bs : List Block) → blocks_length f items bs ≡ blocks_length h items bs
blocks_length-same f h n same items below [] = refl
blocks_length-same f h n same items below (b ∷ bs) =
    sum_by-cons (block_length f items) b bs ∙ ((λ i. block_length-same f h n same items below b i + blocks_length-same f h n same items below bs i) ∙ sym (sum_by-cons (block_length h items) b bs))

-- how many steps the turns of an item are
turns_many : (sizes : ℕ → ℕ) (called : ℕ → List Step) (items : List Item) (f : ℕ → TurnBlock) (s : ℕ) → ((n : ℕ) → length (block_steps sizes called items (f n)) ≡ s) → (n : ℕ) →
    length (all_steps sizes called items (map f (positions n))) ≡ n * s
turns_many sizes called items f s each zero = omega arith
turns_many sizes called items f s each (suc n) =
    let parts = ap (λ (bs : List TurnBlock). length (all_steps sizes called items bs)) (map-append f (positions n) (n ∷ [])) in
    let split = ap length (flat_map-append (block_steps sizes called items) (map f (positions n)) (f n ∷ [])) in
    let sum = length-append (all_steps sizes called items (map f (positions n))) (all_steps sizes called items (f n ∷ [])) in
    let one = ap length (append-nil (block_steps sizes called items (f n))) in
    let here = each n in
    let rest = turns_many sizes called items f s each n in
    parts ∙ (split ∙ (sum ∙ (let e : length (all_steps sizes called items (map f (positions n))) + length (all_steps sizes called items (f n ∷ [])) ≡ suc n * s = omega (arith, one, here, rest) in e)))

single_many : (sizes : ℕ → ℕ) (called : ℕ → List Step) (items : List Item) (x : ℕ) (o : Option Item) → slice_get items x ≡ o →
    length (all_steps sizes called items (single_blocks x o)) ≡ option_map_or (item_length (λ j. length (called j))) o 0
single_many sizes called items x None at = refl
single_many sizes called items x (Some (item.Fresh class n)) at = refl
single_many sizes called items x (Some (item.Gate gate)) at = refl
single_many sizes called items x (Some (item.Call callee wires)) at =
    ap length (append-nil (block_steps sizes called items (turn_call x 0)))
    ∙ (length-map (steps_called called (callee_at (slice_get items x))) (step_behind (flat_place sizes items (record { item = x; number = 0 })))
    ∙ ap (λ (o : Option Item). length (steps_called called (callee_at o))) at)
single_many sizes called items x (Some (item.Gates gate turns)) at =
    turns_many sizes called items (turn_step x) 1 (λ n. refl) turns ∙ (let e : turns * 1 ≡ turns = omega arith in e)
single_many sizes called items x (Some (item.Calls callee wires turns)) at =
    turns_many sizes called items (turn_call x) (length (called callee))
    (λ n. length-map (steps_called called (callee_at (slice_get items x))) (step_behind (flat_place sizes items (record { item = x; number = n })))
    ∙ ap (λ (o : Option Item). length (steps_called called (callee_at o))) at) turns

-- THE LENGTH of blocks is the number of steps of their expansion
pub steps_many : (sizes : ℕ → ℕ) (called : ℕ → List Step) (items : List Item) (bs : List Block) → length (all_steps sizes called items (all_turn_blocks items bs)) ≡ blocks_length (λ j. length (called j)) items bs
steps_many sizes called items [] = refl
steps_many sizes called items (b ∷ bs) =
    let parts = ap length (ap (all_steps sizes called items) (flat_map-append (turn_blocks items) (b ∷ []) bs) ∙ flat_map-append (block_steps sizes called items) (all_turn_blocks items (b ∷ [])) (all_turn_blocks items bs)) in
    let sum = length-append (all_steps sizes called items (all_turn_blocks items (b ∷ []))) (all_steps sizes called items (all_turn_blocks items bs)) in
    let one = ap (λ (ts : List TurnBlock). length (all_steps sizes called items ts)) (append-nil (turn_blocks items b)) in
    let here = by b in
    let rest = steps_many sizes called items bs in
    let total = sum_by-cons (block_length (λ j. length (called j)) items) b bs in
    parts ∙ (sum ∙ (let e : length (all_steps sizes called items (all_turn_blocks items (b ∷ []))) + length (all_steps sizes called items (all_turn_blocks items bs)) ≡ blocks_length (λ j. length (called j)) items (b ∷ bs) = omega (arith, one, here, rest, total) in e))
  where
    by : (b : Block) → length (all_steps sizes called items (turn_blocks items b)) ≡ block_length (λ j. length (called j)) items b
    by (block.Step regions) = refl
    by (block.Alone x) = single_many sizes called items x (slice_get items x) refl

-- no more steps than gates
steps_only : (lengths : ℕ → ℕ) (items : List Item) (xs : List ℕ) (steps : List Step) → blocks_length lengths items (map (item_step xs) steps) ≡ length steps
steps_only lengths items xs [] = refl
steps_only lengths items xs (step ∷ steps) = let s = sum_by-cons (block_length lengths items) (item_step xs step) (map (item_step xs) steps) in let r = steps_only lengths items xs steps in omega (arith, s, r)

plain_many : (sizes : ℕ → ℕ) (mid : List Item) → IsQuiet mid → sum_by (item_gates sizes) mid ≡ length (plain_gates mid)
plain_many sizes [] q = refl
plain_many sizes (item.Fresh class n ∷ mid) q = let s = sum_by-cons (item_gates sizes) (item.Fresh class n) mid in let r = plain_many sizes mid q in omega (arith, s, r)
plain_many sizes (item.Gate gate ∷ mid) q = let s = sum_by-cons (item_gates sizes) (item.Gate gate) mid in let r = plain_many sizes mid q in omega (arith, s, r)
plain_many sizes (item.Call callee wires ∷ mid) q = absurd q
plain_many sizes (item.Gates gate turns ∷ mid) q = absurd q
plain_many sizes (item.Calls callee wires turns ∷ mid) q = absurd q

mul_more : (n a b : ℕ) → a ≤ b → n * a ≤ n * b
mul_more n a b l = grind (arith, l)

single_few : (lengths sizes : ℕ → ℕ) → ((j : ℕ) → lengths j ≤ sizes j) → (i : Item) → IsSingle i → item_length lengths i ≤ item_gates sizes i
single_few lengths sizes few (item.Fresh class n) lone = absurd lone
single_few lengths sizes few (item.Gate gate) lone = absurd lone
single_few lengths sizes few (item.Call callee wires) lone = let h = few callee in omega arith
single_few lengths sizes few (item.Gates gate turns) lone = omega arith
single_few lengths sizes few (item.Calls callee wires turns) lone = mul_more turns (lengths callee) (sizes callee) (few callee)

module _ (comes : Rank → Rank → Bool) (k d : ℕ) (whole : List Item) (lengths sizes : ℕ → ℕ) (few : (j : ℕ) → lengths j ≤ sizes j) where
  record Fewer (a b : ℕ) (blocks : List Block) : Type 0 where
    bound : blocks_length lengths whole blocks + sum_by (item_gates sizes) (take a whole) ≤ sum_by (item_gates sizes) (take b whole)

  sum_front : (front rest : List Item) → whole ≡ front ++ rest → sum_by (item_gates sizes) (take (length front) whole) ≡ sum_by (item_gates sizes) front
  sum_front front rest is = ap (sum_by (item_gates sizes)) (ap (take (length front)) is ∙ take_front front rest)

  sum_more : (front mid back : List Item) → whole ≡ front ++ (mid ++ back) → sum_by (item_gates sizes) (take (length front + length mid) whole) ≡ sum_by (item_gates sizes) front + sum_by (item_gates sizes) mid
  sum_more front mid back is =
      ap (sum_by (item_gates sizes)) (ap (take (length front + length mid)) is ∙ (take_middle front mid back (length mid) (omega arith) ∙ ap (λ (xs : List Item). front ++ xs) (whole_of mid)))
      ∙ sum_by-append (item_gates sizes) front mid
    where
      whole_of : (xs : List Item) → take (length xs) xs ≡ xs
      whole_of [] = refl
      whole_of (x ∷ xs) = ap (λ (ys : List Item). x ∷ ys) (whole_of xs)

  few_stretch : (front mid back : List Item) → whole ≡ front ++ (mid ++ back) → IsQuiet mid → (blocks : List Block) →
      AreStretchBlocks comes k d (plain_items (length front) mid) (plain_gates mid) blocks → Fewer (length front) (length front + length mid) blocks
  few_stretch front mid back is quiet blocks h = record {
    bound = (let a = sum_front front (mid ++ back) is in let b = sum_more front mid back is in let c = plain_many sizes mid quiet in
        let l : blocks_length lengths whole blocks ≡ length h.steps = ap (blocks_length lengths whole) h.blocks_are ∙ steps_only lengths whole (plain_items (length front) mid) h.steps in
        let n : length h.steps ≤ length (plain_gates mid) = few_steps (shop_of_gates (plain_gates mid) k d (λ x y. comes (h.priority.rank x) (h.priority.rank y))) h.steps h.priority.taken in
        omega (arith, a, b, c, l, n));
  }

  few_single : (front : List Item) (i : Item) (back : List Item) → whole ≡ front ++ i ∷ back → IsSingle i → Fewer (length front) (length front + 1) (block.Alone (length front) ∷ [])
  few_single front i back is lone = record {
    bound = (let a = sum_front front (i ∷ back) is in let b = sum_more front (i ∷ []) back is in
        let c = sum_by-cons (item_gates sizes) i [] in
        let l = sum_by-cons (block_length lengths whole) (block.Alone (length front)) [] in
        let e : block_length lengths whole (block.Alone (length front)) ≡ item_length lengths i =
        ap (λ (o : Option Item). option_map_or (item_length lengths) o 0) (ap (λ (xs : List Item). slice_get xs (length front)) is ∙ item_behind front i back) in
        let n = single_few lengths sizes few i lone in
        omega (arith, a, b, c, l, e, n));
  }

  few_join : (a b c : ℕ) (bs cs : List Block) → a ≤ b → b ≤ c → Fewer a b bs → Fewer b c cs → Fewer a c (bs ++ cs)
  few_join a b c bs cs one two first second = record {
    bound = (let s = sum_by-append (block_length lengths whole) bs cs in let f = first.bound in let g = second.bound in omega (arith, s, f, g));
  }

  -- NO MORE STEPS THAN GATES
  pub length_fits : (blocks : List Block) → IsCoarseRule comes k d whole blocks → blocks_length lengths whole blocks ≤ sum_by (item_gates sizes) whole
  length_fits blocks rule =
      let h : Fewer 0 (length whole) blocks = by_parts comes k d whole Fewer few_stretch few_single few_join blocks rule in
      let e : sum_by (item_gates sizes) (take (length whole) whole) ≡ sum_by (item_gates sizes) whole = ap (sum_by (item_gates sizes)) (all_of whole) in
      let b = h.bound in
      omega (arith, e, b)
    where
      all_of : (xs : List Item) → take (length xs) xs ≡ xs
      all_of [] = refl
      all_of (x ∷ xs) = ap (λ (ys : List Item). x ∷ ys) (all_of xs)

module _ (comes : Rank → Rank → Bool) (k d : ℕ) (whole : List Item) where
  abbrev Within : ℕ → ℕ → List Block → Type 0
  Within a b blocks = All (IsInBody (length whole)) blocks

  in_stretch : (front mid back : List Item) → whole ≡ front ++ (mid ++ back) → IsQuiet mid → (blocks : List Block) →
      AreStretchBlocks comes k d (plain_items (length front) mid) (plain_gates mid) blocks → Within (length front) (length front + length mid) blocks
  in_stretch front mid back is quiet blocks h =
      subst (All (IsInBody (length whole))) (sym h.blocks_are) (All-map (IsInBody (length whole)) (item_step (plain_items (length front) mid)) h.steps (λ i e l. tt))

  in_single : (front : List Item) (i : Item) (back : List Item) → whole ≡ front ++ i ∷ back → IsSingle i → Within (length front) (length front + 1) (block.Alone (length front) ∷ [])
  in_single front i back is lone =
      All-cons (IsInBody (length whole)) (block.Alone (length front)) [] (let e = ap length is in let l = length-append front (i ∷ back) in let r : length front < length whole = omega arith in r) (All-nil (IsInBody (length whole)))

  -- the items that stand alone are there
  pub blocks_inside : (blocks : List Block) → IsCoarseRule comes k d whole blocks → All (IsInBody (length whole)) blocks
  blocks_inside blocks rule = by_parts comes k d whole Within in_stretch in_single (λ a b c bs cs one two first second. All-append (IsInBody (length whole)) bs cs first second) blocks rule
