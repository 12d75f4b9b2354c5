-- Neighbours of folded items differ, and numbers of turns stay in range.
use Rattle.std.proofs.Common.{◌≡◌, ◌≢◌, ℕ, zero, suc, ◌+◌, ◌≤◌, ◌<◌, ◌^◌, Bool, true, false, ◌||◌, List, [], ◌∷◌, ◌++◌, length, ◌⊎◌, inl, inr, refl, sym, ap, ◌∙◌, subst, arith, true≢false, All}
use Rattle.std.specs.Prelude.{if◌then◌else◌, fold}
use Rattle.std.specs.List.{AllByRecursion, list_any}
use Rattle.std.proofs.lemmas.List.Elements.{All-from_recursion, recursion_from_All}
use Rattle.sc_gate.specs.declared.gate.Wire.{Wire}
use Rattle.sc_gate.specs.declared.gate.Gate.{Gate}
use Rattle.sc_gate.specs.SameGates.{same_gate}
use Rattle.sc_deck.specs.declared.item.Item.{Item}
use Rattle.sc_deck.specs.declared.item.Item.TheVariants as item
use Rattle.sc_deck.specs.Items.{ItemInRange}
use Rattle.sc_deck.specs.Turns.{has_turns, turns_of, same_call, same_step, NeighboursDiffer, joined, with_folded, folded}

as_gates : (g : Gate) (n : ℕ) (i : Item) → same_step i (item.Gates g n) ≡ same_step i (item.Gate g)
as_gates g n (item.Fresh class k) = refl
as_gates g n (item.Gate h) = refl
as_gates g n (item.Call d vs) = refl
as_gates g n (item.Gates h m) = refl
as_gates g n (item.Calls d vs m) = refl

as_calls : (c : ℕ) (ws : List Wire) (n : ℕ) (i : Item) → same_step i (item.Calls c ws n) ≡ same_step i (item.Call c ws)
as_calls c ws n (item.Fresh class k) = refl
as_calls c ws n (item.Gate h) = refl
as_calls c ws n (item.Call d vs) = refl
as_calls c ws n (item.Gates h m) = refl
as_calls c ws n (item.Calls d vs m) = refl

-- how an item joins another: not at all, or as one item that differs from the same ones
pub record Joins (k j l : Item) : Type 0 where
  pub is : joined k j ≡ l ∷ []
  pub same : (i : Item) → same_step i l ≡ same_step i k

pub record StaysApart (k j : Item) : Type 0 where
  pub is : joined k j ≡ k ∷ j ∷ []
  pub differ : same_step k j ≡ false

by_test : (b : Bool) (k j l : Item) → ((t : Bool) → b ≡ t → joined k j ≡ (if t then l ∷ [] else k ∷ j ∷ [])) → b ≡ same_step k j → ((i : Item) → same_step i l ≡ same_step i k) → StaysApart k j ⊎ ((l : Item) × Joins k j l)
by_test b k j l test is same = by b refl
  where
    by : (t : Bool) → b ≡ t → StaysApart k j ⊎ ((l : Item) × Joins k j l)
    by true e = inr (l, record { is = test true e; same = same })
    by false e = inl (record { is = test false e; differ = sym is ∙ e })

joining : (k j : Item) → has_turns j ≡ false → StaysApart k j ⊎ ((l : Item) × Joins k j l)
joining (item.Gate g) (item.Gate h) single = by_test (same_gate g h) (item.Gate g) (item.Gate h) (item.Gates g 2) (λ t e. ap (λ (b : Bool). if b then item.Gates g 2 ∷ [] else item.Gate g ∷ item.Gate h ∷ []) e) refl (as_gates g 2)
joining (item.Gates g n) (item.Gate h) single = by_test (same_gate g h) (item.Gates g n) (item.Gate h) (item.Gates g (n + 1)) (λ t e. ap (λ (b : Bool). if b then item.Gates g (n + 1) ∷ [] else item.Gates g n ∷ item.Gate h ∷ []) e) refl (λ i. as_gates g (n + 1) i ∙ sym (as_gates g n i))
joining (item.Call c ws) (item.Call d vs) single = by_test (same_call c ws d vs) (item.Call c ws) (item.Call d vs) (item.Calls c ws 2) (λ t e. ap (λ (b : Bool). if b then item.Calls c ws 2 ∷ [] else item.Call c ws ∷ item.Call d vs ∷ []) e) refl (as_calls c ws 2)
joining (item.Calls c ws n) (item.Call d vs) single = by_test (same_call c ws d vs) (item.Calls c ws n) (item.Call d vs) (item.Calls c ws (n + 1)) (λ t e. ap (λ (b : Bool). if b then item.Calls c ws (n + 1) ∷ [] else item.Calls c ws n ∷ item.Call d vs ∷ []) e) refl (λ i. as_calls c ws (n + 1) i ∙ sym (as_calls c ws n i))
joining (item.Fresh class n) (item.Fresh other m) single = inl (record { is = refl; differ = refl })
joining (item.Fresh class n) (item.Gate h) single = inl (record { is = refl; differ = refl })
joining (item.Fresh class n) (item.Call d vs) single = inl (record { is = refl; differ = refl })
joining (item.Gate g) (item.Fresh class n) single = inl (record { is = refl; differ = refl })
joining (item.Gate g) (item.Call d vs) single = inl (record { is = refl; differ = refl })
joining (item.Gates g n) (item.Fresh class m) single = inl (record { is = refl; differ = refl })
joining (item.Gates g n) (item.Call d vs) single = inl (record { is = refl; differ = refl })
joining (item.Call c ws) (item.Fresh class n) single = inl (record { is = refl; differ = refl })
joining (item.Call c ws) (item.Gate h) single = inl (record { is = refl; differ = refl })
joining (item.Calls c ws n) (item.Fresh class m) single = inl (record { is = refl; differ = refl })
joining (item.Calls c ws n) (item.Gate h) single = inl (record { is = refl; differ = refl })
joining k (item.Gates h m) single = absurd (true≢false single)
joining k (item.Calls d vs m) single = absurd (true≢false single)

front_differs : (i k : Item) (items : List Item) (j : Item) → has_turns j ≡ false → same_step i k ≡ false → NeighboursDiffer (with_folded (k ∷ items) j) → NeighboursDiffer (i ∷ with_folded (k ∷ items) j)
front_differs i k [] j single apart rest = by (joining k j single)
  where
    by : StaysApart k j ⊎ ((l : Item) × Joins k j l) → NeighboursDiffer (i ∷ joined k j)
    by (inl stays) = subst (λ (l : List Item). NeighboursDiffer (i ∷ l)) (sym stays.is) (apart, (stays.differ, tt))
    by (inr (l, joins)) = subst (λ (l : List Item). NeighboursDiffer (i ∷ l)) (sym joins.is) (joins.same i ∙ apart, tt)
front_differs i k (l ∷ items) j single apart rest = (apart, rest)

differ_more : (items : List Item) (j : Item) → has_turns j ≡ false → NeighboursDiffer items → NeighboursDiffer (with_folded items j)
differ_more [] j single differ = tt
differ_more (i ∷ []) j single differ = by (joining i j single)
  where
    by : StaysApart i j ⊎ ((l : Item) × Joins i j l) → NeighboursDiffer (joined i j)
    by (inl stays) = subst NeighboursDiffer (sym stays.is) (stays.differ, tt)
    by (inr (l, joins)) = subst NeighboursDiffer (sym joins.is) tt
differ_more (i ∷ k ∷ items) j single differ = front_differs i k items j single differ.0 (differ_more (k ∷ items) j single differ.1)

or_false : (a b : Bool) → (a || b) ≡ false → (a ≡ false) × (b ≡ false)
or_false true b e = absurd (true≢false e)
or_false false b e = (refl, e)

fold_differs : (done items : List Item) → list_any has_turns items ≡ false → NeighboursDiffer done → NeighboursDiffer (fold with_folded done items)
fold_differs done [] none differ = differ
fold_differs done (i ∷ items) none differ =
    let parts = or_false (has_turns i) (list_any has_turns items) none in
    fold_differs (with_folded done i) items parts.1 (differ_more done i parts.0 differ)

-- NEIGHBOURS of folded items, where none has turns before, are never the same gate or the same call
pub folded-differ : (items : List Item) → list_any has_turns items ≡ false → NeighboursDiffer (folded items)
folded-differ items none = fold_differs [] items none tt

-- an item in range, with so many turns at most
abbrev Small : ℕ → Item → Type 0
Small n i = ItemInRange i × (turns_of i ≤ n)

pair_small : (n : ℕ) (i j : Item) → Small n i → ItemInRange j → turns_of j ≤ n + 1 → AllByRecursion (Small (n + 1)) (i ∷ j ∷ [])
pair_small n i j small range turns = ((small.0, (let h = small.1 in omega arith)), ((range, turns), tt))

gate_small : (b : Bool) (n : ℕ) (g h : Gate) → n + 1 < 2 ^ 64 → Small n (item.Gate g) → ItemInRange (item.Gate h) → AllByRecursion (Small (n + 1)) (if b then item.Gates g 2 ∷ [] else item.Gate g ∷ item.Gate h ∷ [])
gate_small true n g h room small range = (((small.0, (omega arith)), (let h = small.1 in omega arith)), tt)
gate_small false n g h room small range = pair_small n (item.Gate g) (item.Gate h) small range (omega arith)

gates_small : (b : Bool) (n t : ℕ) (g h : Gate) → n + 1 < 2 ^ 64 → Small n (item.Gates g t) → ItemInRange (item.Gate h) → AllByRecursion (Small (n + 1)) (if b then item.Gates g (t + 1) ∷ [] else item.Gates g t ∷ item.Gate h ∷ [])
gates_small true n t g h room small range = (((small.0.0, (let h = small.1 in omega arith)), (let h = small.1 in omega arith)), tt)
gates_small false n t g h room small range = pair_small n (item.Gates g t) (item.Gate h) small range (omega arith)

call_small : (b : Bool) (n c d : ℕ) (ws vs : List Wire) → n + 1 < 2 ^ 64 → Small n (item.Call c ws) → AllByRecursion (Small (n + 1)) (if b then item.Calls c ws 2 ∷ [] else item.Call c ws ∷ item.Call d vs ∷ [])
call_small true n c d ws vs room small = (((omega arith), (let h = small.1 in omega arith)), tt)
call_small false n c d ws vs room small = pair_small n (item.Call c ws) (item.Call d vs) small tt (omega arith)

calls_small : (b : Bool) (n t c d : ℕ) (ws vs : List Wire) → n + 1 < 2 ^ 64 → Small n (item.Calls c ws t) → AllByRecursion (Small (n + 1)) (if b then item.Calls c ws (t + 1) ∷ [] else item.Calls c ws t ∷ item.Call d vs ∷ [])
calls_small true n t c d ws vs room small = (((let h = small.1 in omega arith), (let h = small.1 in omega arith)), tt)
calls_small false n t c d ws vs room small = pair_small n (item.Calls c ws t) (item.Call d vs) small tt (omega arith)

joined_small : (n : ℕ) (i j : Item) → has_turns j ≡ false → n + 1 < 2 ^ 64 → Small n i → ItemInRange j → AllByRecursion (Small (n + 1)) (joined i j)
joined_small n (item.Gate g) (item.Gate h) single room small range = gate_small (same_gate g h) n g h room small range
joined_small n (item.Gates g t) (item.Gate h) single room small range = gates_small (same_gate g h) n t g h room small range
joined_small n (item.Call c ws) (item.Call d vs) single room small range = call_small (same_call c ws d vs) n c d ws vs room small
joined_small n (item.Calls c ws t) (item.Call d vs) single room small range = calls_small (same_call c ws d vs) n t c d ws vs room small
joined_small n (item.Fresh class k) (item.Fresh other m) single room small range = pair_small n (item.Fresh class k) (item.Fresh other m) small range (omega arith)
joined_small n (item.Fresh class k) (item.Gate h) single room small range = pair_small n (item.Fresh class k) (item.Gate h) small range (omega arith)
joined_small n (item.Fresh class k) (item.Call d vs) single room small range = pair_small n (item.Fresh class k) (item.Call d vs) small range (omega arith)
joined_small n (item.Gate g) (item.Fresh class m) single room small range = pair_small n (item.Gate g) (item.Fresh class m) small range (omega arith)
joined_small n (item.Gate g) (item.Call d vs) single room small range = pair_small n (item.Gate g) (item.Call d vs) small range (omega arith)
joined_small n (item.Gates g t) (item.Fresh class m) single room small range = pair_small n (item.Gates g t) (item.Fresh class m) small range (omega arith)
joined_small n (item.Gates g t) (item.Call d vs) single room small range = pair_small n (item.Gates g t) (item.Call d vs) small range (omega arith)
joined_small n (item.Call c ws) (item.Fresh class m) single room small range = pair_small n (item.Call c ws) (item.Fresh class m) small range (omega arith)
joined_small n (item.Call c ws) (item.Gate h) single room small range = pair_small n (item.Call c ws) (item.Gate h) small range (omega arith)
joined_small n (item.Calls c ws t) (item.Fresh class m) single room small range = pair_small n (item.Calls c ws t) (item.Fresh class m) small range (omega arith)
joined_small n (item.Calls c ws t) (item.Gate h) single room small range = pair_small n (item.Calls c ws t) (item.Gate h) small range (omega arith)
joined_small n i (item.Gates h m) single room small range = absurd (true≢false single)
joined_small n i (item.Calls d vs m) single room small range = absurd (true≢false single)

one_turn : (j : Item) → has_turns j ≡ false → turns_of j ≡ 1
one_turn (item.Fresh class n) single = refl
one_turn (item.Gate gate) single = refl
one_turn (item.Call callee wires) single = refl
one_turn (item.Gates gate turns) single = absurd (true≢false single)
one_turn (item.Calls callee wires turns) single = absurd (true≢false single)

more_small : (n : ℕ) (items : List Item) (j : Item) → has_turns j ≡ false → n + 1 < 2 ^ 64 → AllByRecursion (Small n) items → ItemInRange j → AllByRecursion (Small (n + 1)) (with_folded items j)
more_small n [] j single room small range = ((range, (let h = one_turn j single in omega arith)), tt)
more_small n (i ∷ []) j single room small range = joined_small n i j single room small.0 range
more_small n (i ∷ k ∷ items) j single room small range = ((small.0.0, (let h = small.0.1 in omega arith)), more_small n (k ∷ items) j single room small.1 range)

fold_small : (n : ℕ) (done items : List Item) → list_any has_turns items ≡ false → n + length items < 2 ^ 64 → AllByRecursion (Small n) done → AllByRecursion ItemInRange items → AllByRecursion ItemInRange (fold with_folded done items)
fold_small n done [] none room small range = ranges done small
  where
    ranges : (items : List Item) → AllByRecursion (Small n) items → AllByRecursion ItemInRange items
    ranges [] small = tt
    ranges (i ∷ items) small = (small.0.0, ranges items small.1)
fold_small n done (i ∷ items) none room small range =
    let parts = or_false (has_turns i) (list_any has_turns items) none in
    fold_small (n + 1) (with_folded done i) items parts.1 (omega arith) (more_small n done i parts.0 (omega arith) small range.0) range.1

-- FEWER THAN 2 ^ 64 items without turns have folded ones with turns in range
pub folded-in_range : (items : List Item) → list_any has_turns items ≡ false → length items < 2 ^ 64 → All ItemInRange items → All ItemInRange (folded items)
folded-in_range items none few range = All-from_recursion ItemInRange (folded items) (fold_small 0 [] items none (omega arith) tt (recursion_from_All ItemInRange items range))
