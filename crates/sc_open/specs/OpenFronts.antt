-- What single functions of the reader take from a line.
use Rattle.std.specs.Prelude.{◌≡◌, ℕ, ◌<◌, Bool, true, false, nat_eq, if◌then◌else◌, FitsSigned, Option, Some, None, List, ◌∷◌, ◌++◌}
use Rattle.std.specs.Int.{w64}
use Rattle.sc_base.specs.declared.names.Class.{Class}
use Rattle.sc_base.specs.declared.names.Class.TheVariants.{C}
use Rattle.sc_base.specs.declared.names.GateName.{GateName}
use Rattle.sc_base.specs.declared.names.GateName.TheVariants as name
use Rattle.sc_gate.specs.declared.gate.Wire.{Wire}
use Rattle.sc_gate.specs.declared.gate.Kind.{Kind}
use Rattle.sc_gate.specs.declared.gate.Kind.TheVariants as kind
use Rattle.sc_gate.specs.Gates.{name_of}
use Rattle.sc_gate.specs.Numbers.{Numbers}
use Rattle.sc_gate.specs.SameGates.{value_of}
use Rattle.sc_open.specs.declared.line.Line.{Line}
use Rattle.sc_open.specs.Lowering.{back_line}
use Rattle.sc_open.specs.OpenTexts.{line_word, angle_text, operand_text, line_text}
use Rattle.sc_open.specs.OpenStages.{is_open_kind, IsNextLine}

-- a line begins with the word of this name
abbrev pub has_word : GateName → Bool
has_word name.Fredkin = false
has_word name.PrepX = false
has_word name.MeasX = false
has_word _ = true

-- the name of which a line that begins with `c` and this byte may have the word
abbrev pub likely_controlled : ℕ → Option GateName
likely_controlled second =
    if nat_eq second 120 then Some name.Cnot else (if nat_eq second 99 then Some name.Toffoli else None)

-- the same behind `r`
abbrev pub likely_turned : ℕ → GateName
likely_turned second =
    if nat_eq second 120 then name.Rx
    else (if nat_eq second 121 then name.Ry else (if nat_eq second 122 then name.Rz else name.PrepZ))

-- the name of which a line that begins with these two bytes may have the word
abbrev pub likely_name : ℕ → ℕ → Option GateName
likely_name first second =
    if nat_eq first 120 then Some name.X
    else (if nat_eq first 121 then Some name.Y
    else (if nat_eq first 122 then Some name.Z
    else (if nat_eq first 104 then Some name.H
    else (if nat_eq first 115 then Some (if nat_eq second 32 then name.S else name.Sdag)
    else (if nat_eq first 116 then Some (if nat_eq second 32 then name.T else name.Tdag)
    else (if nat_eq first 99 then likely_controlled second
    else (if nat_eq first 114 then Some (likely_turned second)
    else (if nat_eq first 109 then Some name.MeasZ else None))))))))

-- a wire of this class and below this number
pub record IsOneOf (class : Class) (size : ℕ) (w : Wire) : Type 0 where
  pub class_is : w.class ≡ class
  pub below : w.number < size

-- the text begins with such a wire
pub record OperandFront (class : Class) (size : ℕ) (text : List ℕ) (w : Wire) (rest : List ℕ) : Type 0 where
  pub joined : text ≡ operand_text w ++ rest
  pub one : IsOneOf class size w

-- where there is a wire, it is such a one
abbrev pub IsOneOfSome : Class → ℕ → Option Wire → Type 0
IsOneOfSome class size None = Unit {0}
IsOneOfSome class size (Some w) = IsOneOf class size w

-- no comma stands here
abbrev pub HasNoComma : List ℕ → Type 0
HasNoComma text = (more : List ℕ) → text ≡ 44 ∷ more → ⊥

-- a name whose kinds have an angle
abbrev pub is_rotation : GateName → Bool
is_rotation name.Rx = true
is_rotation name.Ry = true
is_rotation name.Rz = true
is_rotation _ = false

-- a kind of a line that is no measurement
abbrev pub is_gate_kind : Kind → Bool
is_gate_kind (kind.PrepZ false) = true
is_gate_kind k = is_open_kind k

-- the text begins with what stands behind the word of this kind's name
pub record AngleFront (n : GateName) (text : List ℕ) (k : Kind) (rest : List ℕ) : Type 0 where
  pub joined : text ≡ angle_text k ++ rest
  pub named : name_of k ≡ n
  pub kind_is : is_gate_kind k ≡ true
  pub in_range : FitsSigned w64 (value_of k)

-- the text is what stands behind the word of this name in a line that may stand here
pub record IsBehindWord (wires : Numbers) (spare : Bool) (n : GateName) (text : List ℕ) (l : Line) : Type 0 where
  pub named : name_of (back_line l).kind ≡ n
  pub text_is : line_word n ++ text ≡ line_text l
  pub next_line : IsNextLine wires spare l

-- where the outcome of a measurement may go
abbrev pub IsBit : ℕ → Bool → Option Wire → Type 0
IsBit cbits spare None = spare ≡ true
IsBit cbits spare (Some bit) = IsOneOf C cbits bit
