-- The blocks of an item that stands alone: one for each of its turns.
use Rattle.std.proofs.Common.{◌≡◌, ℕ, zero, suc, ◌+◌, ◌<◌, ◌≤◌, Bool, true, false, cond, Some, List, [], ◌∷◌, ◌++◌, length, map, slice_get, refl, sym, ap, ◌∙◌, subst, arith, inl, inr, zero-add, add-zero}
use Rattle.std.specs.Prelude.{◌==◌, ◌&&◌, ◌⊎◌, All, slice_index}
use Rattle.std.proofs.lemmas.Bool.{cases_lt, eq-eqb, ne_eqb}
use Rattle.std.proofs.lemmas.List.{append-nil, length-append, length-map, map-append}
use Rattle.std.proofs.lemmas.List.Elements.{All-append, All-cons, All-nil}
use Rattle.std.proofs.lemmas.List.Sums.{sum_by-cons, sum_by-append}
use Rattle.sc_deck.specs.declared.item.Item.{Item}
use Rattle.sc_deck.specs.declared.item.Item.TheVariants as item
use Rattle.sc_sched.specs.Schedule.{positions}
use Rattle.sc_coarse.specs.declared.block.Block.TheVariants as block
use Rattle.sc_coarse.specs.Building.{IsSingle}
use Rattle.sc_coarse.specs.CoarseRule.{turn_step, turn_call, single_blocks, all_turn_blocks}
use Rattle.sc_coarse.specs.CoarseSchedules.{Turn, turn, TurnBlock, OneStep, gate_turns, call_turns, item_turns, IsGateTurn, SuitsItems, same_turn, times_in_block, times_in_blocks, block_of}
use Rattle.sc_coarse.proofs.TurnBlocks.{Covers, block_of-old, block_of-new}

same_here : (t : Turn) (x n : ℕ) → t.item ≡ x → t.number ≡ n → same_turn t (turn x n) ≡ true
same_here t x n e f = rw (eq-eqb t.item x e, eq-eqb t.number n f) refl

other_number : (t : Turn) (x n : ℕ) → (t.number ≡ n → ⊥) → same_turn t (turn x n) ≡ false
other_number t x n f = rw (ne_eqb t.number n f) (by (t.item == x))
  where
    by : (b : Bool) → (b && false) ≡ false
    by true = refl
    by false = refl

other_item : (t : Turn) (x n : ℕ) → (t.item ≡ x → ⊥) → same_turn t (turn x n) ≡ false
other_item t x n f = rw (ne_eqb t.item x f) refl

-- 1 where it is the turn, and 0 where it is not
is_one : (b : Bool) → b ≡ true → cond {A = ℕ} b 1 0 ≡ 1
is_one b h = rw h refl

is_none : (b : Bool) → b ≡ false → cond {A = ℕ} b 1 0 ≡ 0
is_none b h = rw h refl

-- blocks of which each is one turn of the item x
pub record IsOneTurn (x : ℕ) (f : ℕ → TurnBlock) : Type 0 where
  pub times : (t : Turn) (n : ℕ) → times_in_block t (f n) ≡ cond (same_turn t (turn x n)) 1 0

pub one_step : (x : ℕ) → IsOneTurn x (turn_step x)
one_step x = record { times = λ t n. by (same_turn t (turn x n)) }
  where
    by : (b : Bool) → 0 + (0 + cond b 1 0) ≡ cond b 1 0
    by true = refl
    by false = refl

pub one_call : (x : ℕ) → IsOneTurn x (turn_call x)
one_call x = record { times = λ t n. refl }

module _ (x : ℕ) (f : ℕ → TurnBlock) (one : IsOneTurn x f) where
  more : (n : ℕ) (t : Turn) → times_in_blocks (map f (positions (suc n))) t ≡ times_in_blocks (map f (positions n)) t + cond (same_turn t (turn x n)) 1 0
  more n t =
      ap (λ (bs : List TurnBlock). times_in_blocks bs t) (map-append f (positions n) (n ∷ []))
      ∙ (sum_by-append (times_in_block t) (map f (positions n)) (f n ∷ [])
      ∙ (let e = sum_by-cons (times_in_block t) (f n) [] in let g = one.times t n in omega arith))

  pub times_not : (n : ℕ) (t : Turn) → (t.item ≡ x → ⊥) ⊎ (n ≤ t.number) → times_in_blocks (map f (positions n)) t ≡ 0
  times_not zero t h = refl
  times_not (suc n) t (inl h) =
      let e = more n t in let r = times_not n t (inl h) in let z = is_none (same_turn t (turn x n)) (other_item t x n h) in omega (arith, e, r, z)
  times_not (suc n) t (inr h) =
      let e = more n t in let r = times_not n t (inr (omega arith)) in
      let z = is_none (same_turn t (turn x n)) (other_number t x n (λ k. omega (arith, k, h))) in omega (arith, e, r, z)

  pub times_one : (n : ℕ) (t : Turn) → t.item ≡ x → t.number < n → times_in_blocks (map f (positions n)) t ≡ 1
  times_one zero t is h = absurd (omega arith)
  times_one (suc n) t is h = elim (cases_lt t.number n) [
    | inl l ↦ (let e = more n t in let r = times_one n t is l in let z = is_none (same_turn t (turn x n)) (other_number t x n (λ k. omega (arith, k, l))) in omega (arith, e, r, z))
    | inr g ↦ (let e = more n t in let r = times_not n t (inr g) in let z = is_one (same_turn t (turn x n)) (same_here t x n is (omega arith)) in omega (arith, e, r, z))
  ]

  -- turn m stands in block m
  pub block_is : (n m : ℕ) → m < n → block_of (map f (positions n)) (turn x m) ≡ m
  block_is zero m h = absurd (omega arith)
  block_is (suc n) m h = elim (cases_lt m n) [
    | inl l ↦ parts ∙ (block_of-old (map f (positions n)) (f n ∷ []) (turn x m) (let e = times_one n (turn x m) refl l in omega arith) ∙ block_is n m l)
    | inr g ↦ (let last : m ≡ n = omega arith in
        let new = block_of-new (map f (positions n)) (f n ∷ []) (turn x m) (times_not n (turn x m) (inr g)) in
        let z : block_of (f n ∷ []) (turn x m) ≡ 0 = rw (one.times (turn x m) n, same_here (turn x m) x n refl last) refl in
        let long = length_positions n in
        let len = length-map (positions n) f in
        parts ∙ (let e : block_of (map f (positions n) ++ f n ∷ []) (turn x m) ≡ m = omega (arith, new, z, long, len, last) in e))
  ]
    where
      parts : block_of (map f (positions (suc n))) (turn x m) ≡ block_of (map f (positions n) ++ f n ∷ []) (turn x m)
      parts = ap (λ (bs : List TurnBlock). block_of bs (turn x m)) (map-append f (positions n) (n ∷ []))

      length_positions : (n : ℕ) → length (positions n) ≡ n
      length_positions zero = refl
      length_positions (suc n) = let e = length-append (positions n) (n ∷ []) in let r = length_positions n in omega arith

  pub all_suit : (P : TurnBlock → Type 0) (n : ℕ) → ((m : ℕ) → m < n → P (f m)) → All P (map f (positions n))
  all_suit P zero h = All-nil P
  all_suit P (suc n) h =
      subst (All P) (sym (map-append f (positions n) (n ∷ [])))
      (All-append P (map f (positions n)) (f n ∷ []) (all_suit P n (λ m l. h m (omega arith))) (All-cons P (f n) [] (h n (omega arith)) (All-nil P)))

  -- the turns of the item at x
  pub single_covers : (whole : List Item) (n : ℕ) → slice_index (map item_turns whole) x ≡ n → ((m : ℕ) → m < n → SuitsItems whole (f m)) → Covers whole x (x + 1) (map f (positions n))
  single_covers whole n many suits = record {
    suits = all_suit (SuitsItems whole) n suits;
    once = λ t l h is. (let e : t.item ≡ x = omega arith in times_one n t e (let k : slice_index (map item_turns whole) t.item ≡ n = ap (slice_index (map item_turns whole)) e ∙ many in omega (arith, is, k)));
    none = λ t h. times_not n t (inl (λ e. apart t h e));
    turns = λ y l m lt a b is. (let e : y ≡ x = omega arith in
        let below : m < n = (let k : slice_index (map item_turns whole) y ≡ n = ap (slice_index (map item_turns whole)) e ∙ many in omega (arith, is, k)) in
        let p : block_of (map f (positions n)) (turn y l) ≡ l = ap (λ (z : ℕ). block_of (map f (positions n)) (turn z l)) e ∙ block_is n l (omega arith) in
        let q : block_of (map f (positions n)) (turn y m) ≡ m = ap (λ (z : ℕ). block_of (map f (positions n)) (turn z m)) e ∙ block_is n m below in
        omega (arith, p, q, lt));
    items = λ t u a b is it lt w. absurd (omega arith);
  }
    where
      apart : (t : Turn) → (t.item < x) ⊎ (x + 1 ≤ t.item) → t.item ≡ x → ⊥
      apart t (inl h) e = omega (arith, h, e)
      apart t (inr h) e = omega (arith, h, e)

-- the item behind some others
pub item_behind : (front : List Item) (i : Item) (back : List Item) → slice_get (front ++ i ∷ back) (length front) ≡ Some i
item_behind [] i back = refl
item_behind (j ∷ front) i back = item_behind front i back

pub number_behind : (f : Item → ℕ) (front : List Item) (i : Item) (back : List Item) → slice_index (map f (front ++ i ∷ back)) (length front) ≡ f i
number_behind f [] i back = refl
number_behind f (j ∷ front) i back = number_behind f front i back

-- AN ITEM THAT STANDS ALONE: its blocks hold its turns
pub single_turns : (whole front : List Item) (i : Item) (back : List Item) → whole ≡ front ++ i ∷ back → IsSingle i → Covers whole (length front) (length front + 1) (all_turn_blocks whole (block.Alone (length front) ∷ []))
single_turns whole front i back is lone =
    subst (Covers whole (length front) (length front + 1)) (sym (append-nil (single_blocks (length front) (slice_get whole (length front))) ∙ ap (single_blocks (length front)) found)) (by i lone found number)
  where
    found : slice_get whole (length front) ≡ Some i
    found = ap (λ (xs : List Item). slice_get xs (length front)) is ∙ item_behind front i back

    number : (f : Item → ℕ) → slice_index (map f whole) (length front) ≡ f i
    number f = ap (λ (xs : List Item). slice_index (map f xs) (length front)) is ∙ number_behind f front i back

    one_region : (items : List Item) (t : Turn) → IsGateTurn items t → SuitsItems items (OneStep ((t ∷ []) ∷ []))
    one_region items t h = All-cons (λ region. All (IsGateTurn items) region) (t ∷ []) [] (All-cons (IsGateTurn items) t [] h (All-nil (IsGateTurn items))) (All-nil (λ region. All (IsGateTurn items) region))

    by : (j : Item) → IsSingle j → slice_get whole (length front) ≡ Some j → ((f : Item → ℕ) → slice_index (map f whole) (length front) ≡ f j) → Covers whole (length front) (length front + 1) (single_blocks (length front) (Some j))
    by (item.Fresh class n) lone at num = absurd lone
    by (item.Gate gate) lone at num = absurd lone
    by (item.Call callee wires) lone at num =
        single_covers (length front) (turn_call (length front)) (one_call (length front)) whole 1 (num item_turns)
        (λ m l. (let e = num call_turns in let r : m < slice_index (map call_turns whole) (length front) = omega (arith, l, e) in r))
    by (item.Gates gate turns) lone at num =
        single_covers (length front) (turn_step (length front)) (one_step (length front)) whole turns (num item_turns ∙ add-zero turns)
        (λ m l. (let e = num gate_turns in let r : m < slice_index (map gate_turns whole) (length front) = omega (arith, l, e) in one_region whole (turn (length front) m) r))
    by (item.Calls callee wires turns) lone at num =
        single_covers (length front) (turn_call (length front)) (one_call (length front)) whole turns (num item_turns ∙ zero-add turns)
        (λ m l. (let e = num call_turns in let r : m < slice_index (map call_turns whole) (length front) = omega (arith, l, e) in r))
