-- The rows of a call's wires stand for the wires that the callee's parameters are put on.
use Rattle.std.proofs.Common.{◌≡◌, ℕ, suc, ◌+◌, ◌-◌, ◌<◌, ◌≤◌, List, [], ◌∷◌, map, length, cond, refl, ap, ◌∙◌, arith, length-append}
use Rattle.sc_base.specs.declared.names.Class.{Class}
use Rattle.sc_base.specs.declared.names.Class.TheVariants.{Q, C}
use Rattle.sc_gate.specs.declared.gate.Wire.{Wire}
use Rattle.sc_gate.specs.Numbers.{Numbers, number_of, IsThere}
use Rattle.sc_gate.specs.Wires.{same_class}
use Rattle.sc_deck.specs.Unfolding.{of_class}
use Rattle.sc_path.specs.Places.{row_in, row_number, rows_for}
use Rattle.sc_path.specs.Tables.{param}
use Rattle.sc_path.proofs.PowerLemmas.{param_low, param_high}

unfoldable wire_in : Class → ℕ → Wire
wire_in class number = record { class = class; number = number }

by_class : (c : Class) (qubits cbits n : ℕ) (numbers : Numbers) → numbers.qubits ≡ qubits → n < number_of c numbers → param qubits (row_in c qubits n) ≡ record { class = c; number = n }
by_class Q qubits cbits n numbers e h = param_low qubits n (omega arith)
by_class C qubits cbits n numbers e h =
    let l : qubits ≤ qubits + n = omega arith in
    let q : qubits + n - qubits ≡ n = omega arith in
    param_high qubits (qubits + n) l ∙ ap (λ (x : ℕ). record { class = C; number = x }) q

-- the wire of the row of a local wire
pub param_row : (numbers : Numbers) (w : Wire) → IsThere numbers w → param numbers.qubits (row_number numbers.qubits w) ≡ w
param_row numbers w there = by_class w.class numbers.qubits numbers.cbits w.number numbers refl there

row_below_by : (c : Class) (n : ℕ) (numbers : Numbers) → n < number_of c numbers → row_in c numbers.qubits n < numbers.qubits + numbers.cbits
row_below_by Q n numbers h = omega arith
row_below_by C n numbers h = omega arith

pub row_below : (numbers : Numbers) (w : Wire) → IsThere numbers w → row_number numbers.qubits w < numbers.qubits + numbers.cbits
row_below numbers w there = row_below_by w.class w.number numbers there

length_map : (f : Wire → ℕ) (ws : List Wire) → length (map f ws) ≡ length ws
length_map f [] = refl
length_map f (w ∷ ws) = ap suc (length_map f ws)

-- a call has as many rows as wires
pub rows_many : (qubits : ℕ) (wires : List Wire) → length (rows_for qubits wires) ≡ length wires
rows_many qubits wires =
    let a = length-append (map (row_number qubits) (of_class Q wires)) (map (row_number qubits) (of_class C wires)) in
    let b = length_map (row_number qubits) (of_class Q wires) in
    let c = length_map (row_number qubits) (of_class C wires) in
    let d = both_classes wires in
    omega arith
  where
    both_classes : (ws : List Wire) → length (of_class Q ws) + length (of_class C ws) ≡ length ws
    both_classes [] = refl
    both_classes (w ∷ ws) = by w.class (both_classes ws)
      where
        by : (c : Class) → length (of_class Q ws) + length (of_class C ws) ≡ length ws → length (cond (same_class Q c) (w ∷ of_class Q ws) (of_class Q ws)) + length (cond (same_class C c) (w ∷ of_class C ws) (of_class C ws)) ≡ suc (length ws)
        by Q h = omega arith
        by C h = omega arith
