-- The piece of circuit that each operation makes from its operands' wires: gates, the word's wires, and the next fresh wire.
use Rattle.std.specs.Prelude.{ℕ, zero, suc, ◌+◌, ◌-◌, ◌/◌, ◌%◌, nat_eq, if◌then◌else◌, min, List, [], ◌∷◌, ◌++◌, map, length, take, drop}
use Rattle.sc_rev.specs.declared.bit_gate.BitGate.{BitGate}
use Rattle.sc_rev.specs.declared.bit_gate.BitGate.TheVariants.{X, Cnot, Toffoli}
use Rattle.sc_rev.specs.Cells.{wires_from, each, not_cell, and_cell, same_cell, adder}

pub record Circuit : Type 0 where
  pub gates : List BitGate
  pub word : List ℕ
  pub next : ℕ

-- one after the other
abbrev pub joined : Circuit → Circuit → Circuit
joined a b = record { gates = a.gates ++ b.gates; word = b.word; next = b.next }

-- a piece on the word just made
abbrev pub then_piece : Circuit → (List ℕ → ℕ → Circuit) → Circuit
then_piece a p = joined a (p a.word a.next)

abbrev pub each_piece : (ℕ → ℕ → ℕ → List BitGate) → List ℕ → List ℕ → ℕ → Circuit
each_piece cell es fs n = record { gates = each cell es fs n; word = wires_from n (length es); next = n + length es }

abbrev pub not_piece : List ℕ → ℕ → Circuit
not_piece es n = each_piece not_cell es es n

-- the word is the sum; the carries are k
abbrev pub adder_piece : List ℕ → List ℕ → ℕ → ℕ → Circuit
adder_piece es fs n k = record { gates = adder es fs n k; word = wires_from n (length es); next = n + length es + k }

abbrev pub add_piece : List ℕ → List ℕ → ℕ → Circuit
add_piece es fs n = adder_piece es fs n (length es - 1)

-- ~(~e + f)
abbrev pub sub_piece : List ℕ → List ℕ → ℕ → Circuit
sub_piece es fs n =
    let inverse : Circuit = not_piece es n in
    let sum : Circuit = add_piece inverse.word fs inverse.next in
    joined inverse (joined sum (not_piece sum.word sum.next))

-- the last wire alone
abbrev pub last_wire : Circuit → Circuit
last_wire a = record a { word = (a.next - 1) ∷ [] }

abbrev pub less_piece : List ℕ → List ℕ → ℕ → Circuit
less_piece es fs n =
    let inverse : Circuit = not_piece es n in
    joined inverse (last_wire (adder_piece inverse.word fs inverse.next (length es)))

-- 1 where all the bits are: each wire is the AND of those so far
abbrev pub chain_rest : List ℕ → ℕ → List BitGate
chain_rest [] g = []
chain_rest (d ∷ ds) g = Toffoli g d (suc g) ∷ chain_rest ds (suc g)

abbrev pub chain_gates : List ℕ → ℕ → List BitGate
chain_gates [] g = []
chain_gates (d ∷ ds) g = Cnot d g ∷ chain_rest ds g

abbrev pub all_piece : List ℕ → ℕ → Circuit
all_piece ds n = record { gates = chain_gates ds n; word = (n + length ds - 1) ∷ []; next = n + length ds }

abbrev pub equal_piece : List ℕ → List ℕ → ℕ → Circuit
equal_piece es fs n =
    let same : Circuit = each_piece same_cell es fs n in
    joined same (all_piece same.word same.next)

abbrev pub literal_gates : ℕ → ℕ → ℕ → List BitGate
literal_gates zero v s = []
literal_gates (suc w) v s = (if nat_eq (v % 2) 1 then X s ∷ [] else []) ++ literal_gates w (v / 2) (suc s)

abbrev pub literal_piece : ℕ → ℕ → ℕ → Circuit
literal_piece w v n = record { gates = literal_gates w v n; word = wires_from n w; next = n + w }

abbrev pub pick_gates : ℕ → List ℕ → List ℕ → ℕ → ℕ → List BitGate
pick_gates e [] gs d s = []
pick_gates e (f ∷ fs) [] d s = []
pick_gates e (f ∷ fs) (g ∷ gs) d s = Cnot f d ∷ Cnot g d ∷ Cnot g s ∷ Toffoli e d s ∷ pick_gates e fs gs (suc d) (suc s)

abbrev pub pick_piece : ℕ → List ℕ → List ℕ → ℕ → Circuit
pick_piece e fs gs n = record { gates = pick_gates e fs gs n (n + length fs); word = wires_from (n + length fs) (length fs); next = n + length fs + length fs }

abbrev pub left_piece : ℕ → List ℕ → ℕ → Circuit
left_piece by es n =
    let k : ℕ = min by (length es) in
    record { gates = []; word = wires_from n k ++ take (length es - k) es; next = n + k }

abbrev pub right_piece : ℕ → List ℕ → ℕ → Circuit
right_piece by es n =
    let k : ℕ = min by (length es) in
    record { gates = []; word = drop k es ++ wires_from n k; next = n + k }

abbrev pub ext_piece : ℕ → List ℕ → ℕ → Circuit
ext_piece w es n = record { gates = []; word = es ++ wires_from n (w - length es); next = n + (w - length es) }

abbrev pub low_piece : ℕ → List ℕ → ℕ → Circuit
low_piece w es n = record { gates = []; word = take w es; next = n }

-- the i-th part of a product: the AND of the lower wires with f, from the i-th wire on
abbrev pub part_piece : List ℕ → ℕ → ℕ → ℕ → Circuit
part_piece es f i n =
    let low : List ℕ = take (length es - i) es in
    record { gates = each and_cell low (map (λ e. f) low) (n + i); word = wires_from n (length es); next = n + length es }

abbrev pub mul_rest : List ℕ → ℕ → Circuit → List ℕ → Circuit
mul_rest es i a [] = a
mul_rest es i a (f ∷ fs) =
    let m : Circuit = part_piece es f i a.next in
    mul_rest es (suc i) (joined a (joined m (add_piece a.word m.word m.next))) fs

abbrev pub mul_piece : List ℕ → List ℕ → ℕ → Circuit
mul_piece es [] n = record { gates = []; word = []; next = n }
mul_piece es (f ∷ fs) n = mul_rest es 1 (part_piece es f 0 n) fs
