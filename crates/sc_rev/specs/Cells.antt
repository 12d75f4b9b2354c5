-- The gates of each operation of a classical function on one index, and of the adder. Wires are the numbers of local qubits.
use Rattle.std.specs.Prelude.{ℕ, zero, suc, ◌+◌, nat_eq, if◌then◌else◌, List, [], ◌∷◌, ◌++◌, length, reverse, Option, Some, None}
use Rattle.sc_gate.specs.declared.gate.Kind.TheVariants as kind
use Rattle.sc_gate.specs.declared.gate.Gate.{Gate}
use Rattle.sc_gate.specs.Kinds.{qubit, on_one, on_two, on_three}
use Rattle.sc_rev.specs.declared.bit_gate.BitGate.{BitGate}
use Rattle.sc_rev.specs.declared.bit_gate.BitGate.TheVariants.{X, Cnot, Toffoli}

-- the gate on the qubits of these numbers
abbrev pub gate_of : BitGate → Gate
gate_of (X t) = on_one kind.X (qubit t)
gate_of (Cnot a t) = on_two kind.Cnot (qubit a) (qubit t)
gate_of (Toffoli a b t) = on_three kind.Toffoli (qubit a) (qubit b) (qubit t)

-- so many wires from a first one on
abbrev pub wires_from : ℕ → ℕ → List ℕ
wires_from n zero = []
wires_from n (suc k) = n ∷ wires_from (suc n) k

-- the word is copied onto the wires from o
abbrev pub copies : List ℕ → ℕ → List BitGate
copies [] o = []
copies (r ∷ rs) o = Cnot r o ∷ copies rs (suc o)

-- compute, copy, uncompute
abbrev pub whole : List BitGate → List ℕ → ℕ → List BitGate
whole gs rs o = gs ++ (copies rs o ++ reverse gs)

-- the AND of two wires, which may be one
abbrev pub and_gate : ℕ → ℕ → ℕ → BitGate
and_gate x y t = if nat_eq x y then Cnot x t else Toffoli x y t

-- the same gates for each index: the operands' wires, and the fresh one
abbrev pub each : (ℕ → ℕ → ℕ → List BitGate) → List ℕ → List ℕ → ℕ → List BitGate
each cell [] fs s = []
each cell (e ∷ es) [] s = []
each cell (e ∷ es) (f ∷ fs) s = cell e f s ++ each cell es fs (suc s)

abbrev pub not_cell : ℕ → ℕ → ℕ → List BitGate
not_cell e f s = Cnot e s ∷ X s ∷ []

abbrev pub and_cell : ℕ → ℕ → ℕ → List BitGate
and_cell e f s = and_gate e f s ∷ []

abbrev pub xor_cell : ℕ → ℕ → ℕ → List BitGate
xor_cell e f s = Cnot e s ∷ Cnot f s ∷ []

abbrev pub or_cell : ℕ → ℕ → ℕ → List BitGate
or_cell e f s = and_gate e f s ∷ Cnot e s ∷ Cnot f s ∷ []

abbrev pub same_cell : ℕ → ℕ → ℕ → List BitGate
same_cell e f d = Cnot e d ∷ Cnot f d ∷ X d ∷ []

-- the carry that comes in, to the sum and to the next carry
abbrev pub carry_in : Option ℕ → ℕ → List BitGate
carry_in None s = []
carry_in (Some b) s = Cnot b s ∷ []

abbrev pub carry_on : Option ℕ → ℕ → ℕ → List BitGate
carry_on None s c = []
carry_on (Some b) s c = Toffoli b s c ∷ []

-- the rows of the adder: operands, the next sum wire, the next carry wire, the carry that comes in, the carries that are still to be made
abbrev pub rows : List ℕ → List ℕ → ℕ → ℕ → Option ℕ → ℕ → List BitGate
rows [] fs s c from k = []
rows (e ∷ es) [] s c from k = []
rows (e ∷ es) (f ∷ fs) s c from zero = Cnot e s ∷ Cnot f s ∷ (carry_in from s ++ rows es fs (suc s) c from zero)
rows (e ∷ es) (f ∷ fs) s c from (suc k) = Cnot e s ∷ Cnot f s ∷ and_gate e f c ∷ (carry_on from s c ++ (carry_in from s ++ rows es fs (suc s) (suc c) (Some c) k))

abbrev pub adder : List ℕ → List ℕ → ℕ → ℕ → List BitGate
adder es fs s m = rows es fs s (s + length es) None m
