-- The numbers of turns of folded items: no more than items.
use Rattle.std.proofs.Common.{ℕ, suc, ◌+◌, ◌<◌, ◌≤◌, ◌^◌, Bool, true, false, cond, FitsSigned, w64, List, [], ◌∷◌, length, arith, All}
use Rattle.std.specs.Prelude.{fold}
use Rattle.std.specs.List.{AllByRecursion}
use Rattle.std.proofs.lemmas.List.Elements.{All-from_recursion}
use Rattle.sc_gate.specs.SameGates.{value_of, same_gate}
use Rattle.sc_deck.specs.declared.item.Item.{Item}
use Rattle.sc_deck.specs.declared.item.Item.TheVariants as item
use Rattle.sc_deck.specs.Items.{ItemInRange}
use Rattle.sc_deck.specs.Turns.{folded, joined, same_call, with_folded}

-- an angle is in range, and there are at most so many turns
abbrev pub InTurns : ℕ → Item → Type 0
InTurns most (item.Fresh class n) = Unit {0}
InTurns most (item.Gate gate) = FitsSigned w64 (value_of gate.kind)
InTurns most (item.Call callee wires) = Unit {0}
InTurns most (item.Gates gate turns) = FitsSigned w64 (value_of gate.kind) × (turns ≤ most)
InTurns most (item.Calls callee wires turns) = turns ≤ most

in_range : (most : ℕ) → most < 2 ^ 64 → (i : Item) → InTurns most i → ItemInRange i
in_range most small (item.Fresh class n) h = tt
in_range most small (item.Gate gate) h = h
in_range most small (item.Call callee wires) h = tt
in_range most small (item.Gates gate turns) h = (h.0, (let t = h.1 in omega arith))
in_range most small (item.Calls callee wires turns) h = omega arith

pub all_in_range : (most : ℕ) → most < 2 ^ 64 → (items : List Item) → AllByRecursion (InTurns most) items → AllByRecursion ItemInRange items
all_in_range most small [] h = tt
all_in_range most small (i ∷ items) h = (in_range most small i h.0, all_in_range most small items h.1)

more_turns : (a b : ℕ) → a ≤ b → (i : Item) → InTurns a i → InTurns b i
more_turns a b le (item.Fresh class n) h = tt
more_turns a b le (item.Gate gate) h = h
more_turns a b le (item.Call callee wires) h = tt
more_turns a b le (item.Gates gate turns) h = (h.0, (let t = h.1 in omega arith))
more_turns a b le (item.Calls callee wires turns) h = omega arith

all_more : (a b : ℕ) → a ≤ b → (items : List Item) → AllByRecursion (InTurns a) items → AllByRecursion (InTurns b) items
all_more a b le [] h = tt
all_more a b le (i ∷ items) h = (more_turns a b le i h.0, all_more a b le items h.1)

either : (most : ℕ) (b : Bool) (one : Item) (i j : Item) → InTurns most one → InTurns most i → InTurns most j → AllByRecursion (InTurns most) (cond b (one ∷ []) (i ∷ j ∷ []))
either most true one i j h k l = (h, tt)
either most false one i j h k l = (k, (l, tt))

joined_turns : (most : ℕ) (i j : Item) → 2 ≤ most → InTurns most i → InTurns most j → AllByRecursion (InTurns (suc most)) (joined i j)
joined_turns most (item.Gate g) (item.Gate h) two a b = either (suc most) (same_gate g h) (item.Gates g 2) (item.Gate g) (item.Gate h) (a, (omega arith)) a b
joined_turns most (item.Gates g n) (item.Gate h) two a b =
    either (suc most) (same_gate g h) (item.Gates g (n + 1)) (item.Gates g n) (item.Gate h) (a.0, (let t = a.1 in omega arith)) (a.0, (let t = a.1 in omega arith)) b
joined_turns most (item.Call c ws) (item.Call d vs) two a b = either (suc most) (same_call c ws d vs) (item.Calls c ws 2) (item.Call c ws) (item.Call d vs) (omega arith) tt tt
joined_turns most (item.Calls c ws n) (item.Call d vs) two a b =
    either (suc most) (same_call c ws d vs) (item.Calls c ws (n + 1)) (item.Calls c ws n) (item.Call d vs) (omega arith) (omega arith) tt
joined_turns most (item.Fresh class n) j two a b = (tt, (more_turns most (suc most) (omega arith) j b, tt))
joined_turns most (item.Gate g) (item.Fresh class n) two a b = (a, (tt, tt))
joined_turns most (item.Gate g) (item.Call d vs) two a b = (a, (tt, tt))
joined_turns most (item.Gate g) (item.Gates h m) two a b = (a, (more_turns most (suc most) (omega arith) (item.Gates h m) b, tt))
joined_turns most (item.Gate g) (item.Calls d vs m) two a b = (a, (more_turns most (suc most) (omega arith) (item.Calls d vs m) b, tt))
joined_turns most (item.Call c ws) (item.Fresh class n) two a b = (tt, (tt, tt))
joined_turns most (item.Call c ws) (item.Gate h) two a b = (tt, (b, tt))
joined_turns most (item.Call c ws) (item.Gates h m) two a b = (tt, (more_turns most (suc most) (omega arith) (item.Gates h m) b, tt))
joined_turns most (item.Call c ws) (item.Calls d vs m) two a b = (tt, (more_turns most (suc most) (omega arith) (item.Calls d vs m) b, tt))
joined_turns most (item.Gates g n) (item.Fresh class k) two a b = (more_turns most (suc most) (omega arith) (item.Gates g n) a, (tt, tt))
joined_turns most (item.Gates g n) (item.Call d vs) two a b = (more_turns most (suc most) (omega arith) (item.Gates g n) a, (tt, tt))
joined_turns most (item.Gates g n) (item.Gates h m) two a b =
    (more_turns most (suc most) (omega arith) (item.Gates g n) a, (more_turns most (suc most) (omega arith) (item.Gates h m) b, tt))
joined_turns most (item.Gates g n) (item.Calls d vs m) two a b =
    (more_turns most (suc most) (omega arith) (item.Gates g n) a, (more_turns most (suc most) (omega arith) (item.Calls d vs m) b, tt))
joined_turns most (item.Calls c ws n) (item.Fresh class k) two a b = (more_turns most (suc most) (omega arith) (item.Calls c ws n) a, (tt, tt))
joined_turns most (item.Calls c ws n) (item.Gate h) two a b = (more_turns most (suc most) (omega arith) (item.Calls c ws n) a, (b, tt))
joined_turns most (item.Calls c ws n) (item.Gates h m) two a b =
    (more_turns most (suc most) (omega arith) (item.Calls c ws n) a, (more_turns most (suc most) (omega arith) (item.Gates h m) b, tt))
joined_turns most (item.Calls c ws n) (item.Calls d vs m) two a b =
    (more_turns most (suc most) (omega arith) (item.Calls c ws n) a, (more_turns most (suc most) (omega arith) (item.Calls d vs m) b, tt))

with_turns : (most : ℕ) (items : List Item) (j : Item) → 2 ≤ most → AllByRecursion (InTurns most) items → InTurns most j → AllByRecursion (InTurns (suc most)) (with_folded items j)
with_turns most [] j two h k = (more_turns most (suc most) (omega arith) j k, tt)
with_turns most (i ∷ []) j two h k = joined_turns most i j two h.0 k
with_turns most (i ∷ l ∷ items) j two h k = (more_turns most (suc most) (omega arith) i h.0, with_turns most (l ∷ items) j two h.1 k)

fold_turns : (most : ℕ) (done items : List Item) → 2 ≤ most → AllByRecursion (InTurns most) done → AllByRecursion (InTurns 2) items
    → AllByRecursion (InTurns (most + length items)) (fold with_folded done items)
fold_turns most done [] two h k = all_more most (most + 0) (omega arith) done h
fold_turns most done (i ∷ items) two h k =
    let all = fold_turns (suc most) (with_folded done i) items (omega arith) (with_turns most done i two h (more_turns 2 most two i k.0)) k.1 in
    all_more (suc most + length items) (most + suc (length items)) (omega arith) (fold with_folded (with_folded done i) items) all

-- FOLDED ITEMS, where there are not too many
pub folded_in_range : (items : List Item) → length items + 2 < 2 ^ 64 → AllByRecursion (InTurns 2) items → All ItemInRange (folded items)
folded_in_range items few h =
    All-from_recursion ItemInRange (folded items) (all_in_range (2 + length items) (omega arith) (folded items) (fold_turns 2 [] items (omega arith) tt h))
