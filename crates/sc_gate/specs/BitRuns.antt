-- What bit runs keep: the wires that no gate changes, and bits that agree on the wires in use.
use Rattle.std.specs.Prelude.{◌≡◌, ◌≢◌, ◌↔◌, ℕ, ◌<◌, Bool, true, List, [], ◌∷◌, Option, Some, None, length}
use Rattle.std.specs.List.{AllByRecursion}
use Rattle.sc_gate.specs.declared.gate.Wire.{Wire}
use Rattle.sc_gate.specs.declared.gate.Kind.{Kind}
use Rattle.sc_gate.specs.declared.gate.Kind.TheVariants as kind
use Rattle.sc_gate.specs.declared.gate.Gate.{Gate}
use Rattle.sc_gate.specs.Gates.{operands}
use Rattle.sc_gate.specs.Runs.{xor, bit_at, number_or_zero}
use Rattle.sc_gate.specs.Wires.{member}

abbrev pub target_by : Kind → ℕ → ℕ → ℕ → Option ℕ
target_by kind.X a b c = Some a
target_by kind.Cnot a b c = Some b
target_by kind.Toffoli a b c = Some c
target_by _ a b c = None

-- the number of the wire that a gate may change in a bit run
abbrev pub target : Gate → Option ℕ
target g = target_by g.kind g.a.number (number_or_zero g.b) (number_or_zero g.c)

-- no gate changes the wire of this number
abbrev pub NoneChanges : ℕ → List Gate → Type 0
NoneChanges w gates = AllByRecursion (λ g. target g ≢ Some w) gates

-- each operand of each gate is one of these wires
abbrev pub UseOnly : List Wire → List Gate → Type 0
UseOnly wires gates = AllByRecursion (λ g. (w : Wire) → member w (operands g) ≡ true → member w wires ≡ true) gates

-- the new names of two of these wires have one number exactly where the wires have one
abbrev pub KeepsApart : (Wire → Wire) → List Wire → Type 0
KeepsApart f wires = (v w : Wire) → member v wires ≡ true → member w wires ≡ true → ((f v).number ≡ (f w).number) ↔ (v.number ≡ w.number)

-- each of these wires has a place in the first bits and its new name one in the second, and both hold one truth value
pub record Matches (f : Wire → Wire) (wires : List Wire) (bits others : List Bool) : Type 0 where
  pub same : (w : Wire) → member w wires ≡ true → bit_at others (f w).number ≡ bit_at bits w.number
  pub there : (w : Wire) → member w wires ≡ true → w.number < length bits
  pub renamed_there : (w : Wire) → member w wires ≡ true → (f w).number < length others

-- the xor of two lists of truth values of one length, bit by bit
abbrev pub xors : List Bool → List Bool → List Bool
xors [] ys = []
xors (x ∷ xs) [] = x ∷ xs
xors (x ∷ xs) (y ∷ ys) = xor x y ∷ xors xs ys
