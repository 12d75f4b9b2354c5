-- How often a turn stands in blocks and in which first, and blocks that hold the turns of the items between two positions.
use Rattle.std.proofs.Common.{◌≡◌, ℕ, zero, suc, ◌+◌, ◌<◌, ◌≤◌, true, List, [], ◌∷◌, ◌++◌, length, map, refl, sym, ap, arith, inl, inr, zero-add}
use Rattle.std.specs.Prelude.{◌⊎◌, All, slice_index}
use Rattle.std.proofs.lemmas.Bool.{cases_lt, lt-ltb, le-ltb}
use Rattle.std.proofs.lemmas.List.Elements.{All-append}
use Rattle.std.proofs.lemmas.List.Sums.{sum_by-cons, sum_by-append}
use Rattle.sc_deck.specs.declared.item.Item.{Item}
use Rattle.sc_coarse.specs.CoarseSchedules.{Turn, turn, TurnBlock, item_turns, IsTurn, SuitsItems, items_share, times_in_block, times_in_blocks, block_of, IsCoarseSchedule}

-- the block of a turn in two lists, one after the other
pub block_of-old : (xs ys : List TurnBlock) (t : Turn) → 0 < times_in_blocks xs t → block_of (xs ++ ys) t ≡ block_of xs t
block_of-old [] ys t h = absurd (omega arith)
block_of-old (b ∷ xs) ys t h = elim (cases_lt 0 (times_in_block t b)) [
  | inl l ↦ rw (lt-ltb 0 (times_in_block t b) l) refl
  | inr g ↦ (let sum = sum_by-cons (times_in_block t) b xs in let rest : 0 < times_in_blocks xs t = omega (arith, g, sum, h) in
      rw (le-ltb 0 (times_in_block t b) g) (ap suc (block_of-old xs ys t rest)))
]

pub block_of-new : (xs ys : List TurnBlock) (t : Turn) → times_in_blocks xs t ≡ 0 → block_of (xs ++ ys) t ≡ length xs + block_of ys t
block_of-new [] ys t h = sym (zero-add (block_of ys t))
block_of-new (b ∷ xs) ys t h =
    let sum = sum_by-cons (times_in_block t) b xs in
    let none : times_in_block t b ≤ 0 = omega (arith, sum, h) in
    let rest : times_in_blocks xs t ≡ 0 = omega (arith, sum, h) in
    let e = block_of-new xs ys t rest in
    rw (le-ltb 0 (times_in_block t b) none) (omega arith)

pub block_of-below : (xs : List TurnBlock) (t : Turn) → 0 < times_in_blocks xs t → block_of xs t < length xs
block_of-below [] t h = absurd (omega arith)
block_of-below (b ∷ xs) t h = elim (cases_lt 0 (times_in_block t b)) [
  | inl l ↦ rw (lt-ltb 0 (times_in_block t b) l) (omega arith)
  | inr g ↦ (let sum = sum_by-cons (times_in_block t) b xs in let rest : 0 < times_in_blocks xs t = omega (arith, g, sum, h) in
      let e = block_of-below xs t rest in rw (le-ltb 0 (times_in_block t b) g) (omega arith))
]

-- the blocks hold exactly the turns of the items from position a on and before b, in order
pub record Covers (whole : List Item) (a b : ℕ) (bs : List TurnBlock) : Type 0 where
  pub suits : All (SuitsItems whole) bs
  pub once : (t : Turn) → a ≤ t.item → t.item < b → IsTurn whole t → times_in_blocks bs t ≡ 1
  pub none : (t : Turn) → (t.item < a) ⊎ (b ≤ t.item) → times_in_blocks bs t ≡ 0
  pub turns : (x m n : ℕ) → m < n → a ≤ x → x < b → IsTurn whole (turn x n) → block_of bs (turn x m) < block_of bs (turn x n)
  pub items : (t u : Turn) → a ≤ t.item → u.item < b → IsTurn whole t → IsTurn whole u → t.item < u.item → items_share whole t.item u.item ≡ true →
      block_of bs t < block_of bs u

module _ (whole : List Item) (a b c : ℕ) (bs cs : List TurnBlock) (one : a ≤ b) (two : b ≤ c) (first : Covers whole a b bs) (second : Covers whole b c cs) where
  here : (t : Turn) → a ≤ t.item → t.item < b → IsTurn whole t → block_of (bs ++ cs) t ≡ block_of bs t
  here t l h is = block_of-old bs cs t (let e = first.once t l h is in omega arith)

  there : (t : Turn) → b ≤ t.item → block_of (bs ++ cs) t ≡ length bs + block_of cs t
  there t h = block_of-new bs cs t (first.none t (inr h))

  sum : (t : Turn) → times_in_blocks (bs ++ cs) t ≡ times_in_blocks bs t + times_in_blocks cs t
  sum t = sum_by-append (times_in_block t) bs cs

  once_in : (t : Turn) → a ≤ t.item → t.item < c → IsTurn whole t → times_in_blocks (bs ++ cs) t ≡ 1
  once_in t l h is = elim (cases_lt t.item b) [
    | inl e ↦ (let s = sum t in let f = first.once t l e is in let g = second.none t (inl e) in omega (arith, s, f, g))
    | inr e ↦ (let s = sum t in let f = first.none t (inr e) in let g = second.once t e h is in omega (arith, s, f, g))
  ]

  none_in : (t : Turn) → (t.item < a) ⊎ (c ≤ t.item) → times_in_blocks (bs ++ cs) t ≡ 0
  none_in t (inl e) = let s = sum t in let f = first.none t (inl e) in let g = second.none t (inl (omega arith)) in omega (arith, s, f, g)
  none_in t (inr e) = let s = sum t in let f = first.none t (inr (omega arith)) in let g = second.none t (inr e) in omega (arith, s, f, g)

  turns_in : (x m n : ℕ) → m < n → a ≤ x → x < c → IsTurn whole (turn x n) → block_of (bs ++ cs) (turn x m) < block_of (bs ++ cs) (turn x n)
  turns_in x m n lt l h is = elim (cases_lt x b) [
    | inl e ↦ (let earlier : IsTurn whole (turn x m) = omega (arith, is, lt) in
        let p = here (turn x m) l e earlier in let q = here (turn x n) l e is in let r = first.turns x m n lt l e is in omega (arith, p, q, r))
    | inr e ↦ (let p = there (turn x m) e in let q = there (turn x n) e in let r = second.turns x m n lt e h is in omega (arith, p, q, r))
  ]

  items_in : (t u : Turn) → a ≤ t.item → u.item < c → IsTurn whole t → IsTurn whole u → t.item < u.item → items_share whole t.item u.item ≡ true →
      block_of (bs ++ cs) t < block_of (bs ++ cs) u
  items_in t u l h is it lt w = elim (cases_lt u.item b) [
    | inl e ↦ (let p = here t l (omega arith) is in let q = here u (omega arith) e it in let r = first.items t u l e is it lt w in omega (arith, p, q, r))
    | inr e ↦ (let q = there u e in elim (cases_lt t.item b) [
      | inl f ↦ (let p = here t l f is in let r = block_of-below bs t (let o = first.once t l f is in omega arith) in omega (arith, p, q, r))
      | inr f ↦ (let p = there t f in let r = second.items t u f h is it lt w in omega (arith, p, q, r))
    ])
  ]

  pub covers_join : Covers whole a c (bs ++ cs)
  covers_join = record {
    suits = All-append (SuitsItems whole) bs cs first.suits second.suits;
    once = once_in;
    none = none_in;
    turns = turns_in;
    items = items_in;
  }

-- past the end of a body no item has a turn
pub turn_inside : (whole : List Item) (t : Turn) → IsTurn whole t → t.item < length whole
turn_inside whole t is = by whole t.item is
  where
    by : (items : List Item) (x : ℕ) → t.number < slice_index (map item_turns items) x → x < length items
    by [] x l = absurd (omega arith)
    by (i ∷ items) zero l = omega arith
    by (i ∷ items) (suc x) l = let h = by items x l in omega arith

-- BLOCKS that hold the turns of all items are a coarse schedule
pub covers_all : (whole : List Item) (bs : List TurnBlock) → Covers whole 0 (length whole) bs → IsCoarseSchedule whole bs
covers_all whole bs h = record {
  suits = h.suits;
  once = λ t is. h.once t (omega arith) (turn_inside whole t is) is;
  turns_in_order = λ x m n lt is. h.turns x m n lt (omega arith) (turn_inside whole (turn x n) is) is;
  items_in_order = λ t u is it lt w. h.items t u (omega arith) (turn_inside whole u it) is it lt w;
}
