-- How long the texts of wires, angles and gates are at most.
use Rattle.std.proofs.Common.{ℕ, ◌+◌, ◌/◌, ◌%◌, ◌^◌, ◌<◌, ◌≤◌, ℤ, pos, negsuc, FitsSigned, w64, ◌∷◌, length, arith, length-append}
use Rattle.std.specs.Prelude.{decimal, map, option_to_list}
use Rattle.std.proofs.lemmas.Fmt.{length-decimal-le}
use Rattle.sc_base.specs.declared.names.GateName.{GateName}
use Rattle.sc_base.specs.declared.names.GateName.TheVariants as name
use Rattle.sc_base.specs.GateNames.{gate_text}
use Rattle.sc_base.specs.Decimals.{twelve_digits, units_text, fixed_text}
use Rattle.sc_base.proofs.DecimalLemmas.{length-twelve_digits}
use Rattle.sc_gate.specs.declared.gate.Gate.{Gate}
use Rattle.sc_gate.specs.Gates.{name_of}
use Rattle.sc_gate.specs.Lines.{wire_text, value_texts, after_commas, gate_line}
use Rattle.sc_gate.proofs.LineLemmas.{line_in_parts}

-- a number of 32 bits
pub short_number : (n : ℕ) → n < 2 ^ 32 → length (decimal n) ≤ 10
short_number n small = length-decimal-le 10 n (omega arith) (omega (arith, small)) (omega (arith, small))

short_units : (n : ℕ) → n ≤ 2 ^ 63 → length (units_text n) ≤ 20
unfolding units_text
short_units n small =
    let whole = length-decimal-le 7 (n / 10 ^ 12) (omega arith) (omega (arith, small)) (omega (arith, small)) in
    omega (arith, length-append (decimal (n / 10 ^ 12)) (46 ∷ twelve_digits (n % 10 ^ 12)), length-twelve_digits (n % 10 ^ 12) (omega arith), whole)

-- an angle
pub short_fixed : (z : ℤ) → FitsSigned w64 z → length (fixed_text z) ≤ 21
short_fixed (pos n) fits =
    let text = short_units n (omega (arith, fits.sfits)) in
    omega (arith, text)
short_fixed (negsuc n) fits =
    let text = short_units (n + 1) (omega (arith, fits.sfits)) in
    omega (arith, text)

short_name : (n : GateName) → length (gate_text n) ≤ 7
short_name name.X = omega arith
short_name name.Y = omega arith
short_name name.Z = omega arith
short_name name.H = omega arith
short_name name.S = omega arith
short_name name.T = omega arith
short_name name.Sdag = omega arith
short_name name.Tdag = omega arith
short_name name.Cnot = omega arith
short_name name.Toffoli = omega arith
short_name name.Fredkin = omega arith
short_name name.Rx = omega arith
short_name name.Ry = omega arith
short_name name.Rz = omega arith
short_name name.PrepX = omega arith
short_name name.PrepZ = omega arith
short_name name.MeasX = omega arith
short_name name.MeasZ = omega arith

-- a line from its parts
pub short_line : (g : Gate) → length (wire_text g.a) ≤ 11 → length (after_commas (map wire_text (option_to_list g.b))) ≤ 12 →
    length (after_commas (map wire_text (option_to_list g.c))) ≤ 12 → length (after_commas (value_texts g.kind)) ≤ 22 → length (gate_line g) ≤ 66
short_line g a b c value =
    let name = short_name (name_of g.kind) in
    rw (line_in_parts g) (simp length-append (omega (arith, name, a, b, c, value)))
