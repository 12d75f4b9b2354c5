-- What a text begins with, where a gate line may stand.
use Rattle.std.specs.Prelude.{◌≡◌, ℕ, FitsSigned, IsSome, Option, List, ◌∷◌, ◌++◌, map, option_to_list}
use Rattle.std.specs.Int.{w64}
use Rattle.sc_base.specs.declared.names.Class.{Class}
use Rattle.sc_base.specs.declared.names.GateName.{GateName}
use Rattle.sc_base.specs.Numerals.{EndsNumber}
use Rattle.sc_gate.specs.declared.gate.Wire.{Wire}
use Rattle.sc_gate.specs.declared.gate.Kind.{Kind}
use Rattle.sc_gate.specs.declared.gate.Gate.{Gate}
use Rattle.sc_gate.specs.Gates.{name_of, operands}
use Rattle.sc_gate.specs.Lines.{class_letter, wire_text, value_texts, after_commas, gate_line}
use Rattle.sc_gate.specs.Numbers.{Numbers, IsThere, AreThere}
use Rattle.sc_gate.specs.SameGates.{value_of}
use Rattle.sc_gate.specs.Texts.{HasLine}

-- so many wires
abbrev pub counts : ℕ → ℕ → Numbers
counts qubits cbits = record { qubits = qubits; cbits = cbits }

-- a gate that may stand over so many wires: well formed, with an angle of 64 bits, and over wires that are there
pub record IsNextGate (wires : Numbers) (g : Gate) : Type 0 where
  pub has_line : HasLine g
  pub there : AreThere wires (operands g)

-- the text begins with the line of such a gate
pub record GateFront (wires : Numbers) (text : List ℕ) (g : Gate) (rest : List ℕ) : Type 0 where
  pub joined : text ≡ gate_line g ++ rest
  pub gate : IsNextGate wires g

-- the text begins with a wire that is there, and no digit follows it
pub record WireFront (wires : Numbers) (text : List ℕ) (w : Wire) (rest : List ℕ) : Type 0 where
  pub joined : text ≡ wire_text w ++ rest
  pub there : IsThere wires w
  pub ends : EndsNumber rest

-- the same behind a comma
pub record NextWireFront (wires : Numbers) (text : List ℕ) (w : Wire) (rest : List ℕ) : Type 0 where
  pub joined : text ≡ 44 ∷ (wire_text w ++ rest)
  pub there : IsThere wires w
  pub ends : EndsNumber rest

-- neither a digit nor a comma and a wire stands here
pub record EndsWires (text : List ℕ) : Type 0 where
  pub no_digit : EndsNumber text
  pub no_wire : (class : Class) (more : List ℕ) → text ≡ 44 ∷ class_letter class ∷ more → ⊥

abbrev pub both_of : Option Wire → Option Wire → List Wire
both_of b c = option_to_list b ++ option_to_list c

-- the text begins with up to two more wires, each behind a comma
pub record MoreWiresFront (wires : Numbers) (text : List ℕ) (b c : Option Wire) (rest : List ℕ) : Type 0 where
  pub joined : text ≡ after_commas (map wire_text (both_of b c)) ++ rest
  pub there : AreThere wires (both_of b c)
  pub in_order : IsSome c → IsSome b

-- the text begins with the angle or start value of a kind of this name
pub record KindFront (name : GateName) (text : List ℕ) (k : Kind) (rest : List ℕ) : Type 0 where
  pub joined : text ≡ after_commas (value_texts k) ++ rest
  pub named : name_of k ≡ name
  pub in_range : FitsSigned w64 (value_of k)
