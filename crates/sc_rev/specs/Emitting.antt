-- What the functions that make gates promise one another.
use Rattle.std.specs.Prelude.{◌≡◌, ℕ, zero, suc, ◌+◌, ◌%◌, nat_eq, if◌then◌else◌, List, [], ◌∷◌, ◌++◌, map, Option, Some}
use Rattle.std.specs.declared.alloc.Global.{Global}
use Rattle.std.specs.declared.vec.Vec.{Vec}
use Rattle.sc_syntax.specs.declared.ShiftLink.{ShiftLink}
use Rattle.sc_word.specs.declared.tree.TypedExpr.{TypedExpr}
use Rattle.sc_word.specs.declared.tree.TypedLink.{TypedLink}
use Rattle.sc_word.specs.Pure.{pure_typed_expr, pure_typed_links}
use Rattle.sc_rev.specs.declared.bit_gate.BitGate.{BitGate}
use Rattle.sc_rev.specs.declared.bit_gate.BitGate.TheVariants.{X, Cnot, Toffoli}
use Rattle.sc_rev.specs.declared.bitwise.Cell.{Cell}
use Rattle.sc_rev.specs.declared.bitwise.Cell.TheVariants as kind
use Rattle.sc_rev.specs.declared.draft.Draft.{Draft}
use Rattle.sc_rev.specs.declared.sums.Carry.{Carry}
use Rattle.sc_rev.specs.Cells.{not_cell, and_cell, xor_cell, or_cell, same_cell, and_gate, carry_in, carry_on}
use Rattle.sc_rev.specs.Circuits.{Circuit, mul_rest}
use Rattle.sc_rev.specs.Functions.{circuit_row, circuit_all, shifted}

abbrev pub cell_gates : Cell → ℕ → ℕ → ℕ → List BitGate
cell_gates kind.Not = not_cell
cell_gates kind.And = and_cell
cell_gates kind.Xor = xor_cell
cell_gates kind.Or = or_cell
cell_gates kind.Same = same_cell

-- the draft got the circuit's gates, and this is the circuit's word
pub record Draws (c : Circuit) (a b : Draft) (word : List ℕ) : Type 0 where
  pub gates : b.gates.items ≡ a.gates.items ++ c.gates
  pub next : b.next ≡ c.next
  pub word_is : word ≡ c.word

-- the adder's gates of one index, and the carry after it
abbrev pub row_gates : ℕ → ℕ → ℕ → ℕ → Option ℕ → ℕ → List BitGate
row_gates e f t c from zero = Cnot e t ∷ Cnot f t ∷ carry_in from t
row_gates e f t c from (suc k) = Cnot e t ∷ Cnot f t ∷ and_gate e f c ∷ (carry_on from t c ++ carry_in from t)

abbrev pub next_by : Carry → ℕ → Carry
next_by carry zero = carry
next_by carry (suc k) = record { from = Some carry.wire; wire = carry.wire + 1; left = k }

abbrev pub after_row : Carry → Carry
after_row carry = next_by carry carry.left

-- X where the lowest bit of a value is 1
abbrev pub bit_gates : ℕ → ℕ → List BitGate
bit_gates v t = if nat_eq (v % 2) 1 then X t ∷ [] else []

-- the gates of one index of a choice
abbrev pub one_pick : ℕ → ℕ → ℕ → ℕ → ℕ → List BitGate
one_pick e f g d s = Cnot f d ∷ Cnot g d ∷ Cnot g s ∷ Toffoli e d s ∷ []

-- the wires of words
abbrev pub wires_of : List (Vec ℕ Global) → List (List ℕ)
wires_of [] = []
wires_of (w ∷ words) = w.items ∷ wires_of words

-- a word without gates
abbrev pub only_word : List ℕ → ℕ → Circuit
only_word word n = record { gates = []; word = word; next = n }

-- a chain so far: its circuit was drawn, and the links that are left lead to the whole
pub record InChain (words : List (List ℕ)) (goal : Circuit) (old now : Draft) (word : List ℕ) (rest : List TypedLink) : Type 0 where
  pub made : Circuit
  pub draws : Draws made old now word
  pub leads : circuit_row words made (pure_typed_links rest) ≡ goal

-- shifts so far
pub record InShifts (goal : Circuit) (old now : Draft) (word : List ℕ) (rest : List ShiftLink) : Type 0 where
  pub made : Circuit
  pub draws : Draws made old now word
  pub leads : shifted made rest ≡ goal

-- a product so far: the next part is the i-th
pub record InProduct (es : List ℕ) (goal : Circuit) (old now : Draft) (word : List ℕ) (i : ℕ) (rest : List ℕ) : Type 0 where
  pub made : Circuit
  pub draws : Draws made old now word
  pub leads : mul_rest es i made rest ≡ goal

-- the circuit after gates that are there already
abbrev pub after_gates : List BitGate → Circuit → Circuit
after_gates gates c = record { gates = gates ++ c.gates; word = c.word; next = c.next }

-- bindings so far: their gates, and those of the bindings that are left
pub record InAll (goal : Circuit) (old now : Draft) (words : List (List ℕ)) (rest : List TypedExpr) (returned : TypedExpr) : Type 0 where
  pub made : List BitGate
  pub drawn : now.gates.items ≡ old.gates.items ++ made
  pub leads : after_gates made (circuit_all words now.next (map pure_typed_expr rest) (pure_typed_expr returned)) ≡ goal
