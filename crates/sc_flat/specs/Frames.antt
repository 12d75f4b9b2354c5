-- What is held of the frames of a walk: their wires, and the places where they stand.
use Rattle.std.specs.Prelude.{ℕ, ◌+◌, List, ◌++◌, map, length}
use Rattle.sc_base.specs.declared.names.Class.{Class}
use Rattle.sc_base.specs.declared.names.Class.TheVariants.{Q, C}
use Rattle.sc_gate.specs.declared.gate.Wire.{Wire}
use Rattle.sc_gate.specs.Numbers.{Numbers}
use Rattle.sc_deck.specs.Renaming.{wire}
use Rattle.sc_deck.specs.Unfolding.{of_class, wires_from}

-- the numbers of the wires that frames hold, apart by class, and how many wires there is room for
pub record Held : Type 0 where
  pub qubits : List ℕ
  pub cbits : List ℕ
  pub room : ℕ

abbrev pub numbers_of : Class → Held → List ℕ
numbers_of Q held = held.qubits
numbers_of C held = held.cbits

-- how many wires are held
abbrev pub held_wires : Held → ℕ
held_wires held = length held.qubits + length held.cbits

-- the numbers behind others of their class
abbrev pub with_numbers : Class → List ℕ → Held → Held
with_numbers Q more held = record held { qubits = held.qubits ++ more }
with_numbers C more held = record held { cbits = held.cbits ++ more }

-- n numbers from a first one on
abbrev pub numbers_from : ℕ → ℕ → List ℕ
numbers_from first n = map (λ (w : Wire). w.number) (wires_from Q first n)

-- the wires of some numbers of qubits and of classical bits
abbrev pub wires_in : List ℕ → List ℕ → List Wire
wires_in qubits cbits = map (wire Q) qubits ++ map (wire C) cbits

-- so many numbers of each class
abbrev pub lengths : List ℕ → List ℕ → Numbers
lengths qubits cbits = record { qubits = length qubits; cbits = length cbits }

-- the numbers of the wires of a class
abbrev pub numbers_in : Class → List Wire → List ℕ
numbers_in class wires = map (λ (w : Wire). w.number) (of_class class wires)

-- with wires behind, those of a class behind the others of it
abbrev pub with_wires : List Wire → Held → Held
with_wires wires held = record held { qubits = held.qubits ++ numbers_in Q wires; cbits = held.cbits ++ numbers_in C wires }
