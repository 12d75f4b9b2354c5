-- What the code keeps: for each wire the last gate that stays, and for each gate that stays the ones before it on its wires.
use Rattle.std.specs.Prelude.{◌≡◌, ℕ, suc, Bool, false, if◌then◌else◌, Option, None, Some, List, [], ◌∷◌, ◌++◌, length, slice_get, ◌<◌, IfSome, slice_set}
use Rattle.sc_gate.specs.declared.gate.Wire.{Wire}
use Rattle.sc_gate.specs.declared.gate.Gate.{Gate}
use Rattle.sc_gate.specs.Gates.{operands}
use Rattle.sc_gate.specs.Wires.{same_wire, member}
use Rattle.sc_gate.specs.declared.wire_table.OperandNumbers.{OperandNumbers}
use Rattle.sc_gate.specs.WireTables.{number_at, numbers_by}
use Rattle.sc_cancel.specs.declared.keeping.Kept.{Kept}

-- the position of the last gate that stays and has the wire
abbrev pub last_on : List (Option Gate) → Wire → Option ℕ
last_on [] w = None
last_on (None ∷ marks) w = last_on marks w
last_on (Some g ∷ marks) w = if member w (operands g) then Some (length marks) else last_on marks w

-- for each position where a gate stays, in reading order, the last ones before it on its wires
abbrev pub linked : List (Option Gate) → List (Option OperandNumbers)
linked [] = []
linked (None ∷ marks) = linked marks ++ None ∷ []
linked (Some g ∷ marks) = linked marks ++ Some (numbers_by (last_on marks) g) ∷ []

pub record IsKept (kept : Kept) (marks : List (Option Gate)) : Type 0 where
  pub table : (w : Wire) → number_at kept.table w ≡ last_on marks w
  pub links : kept.links.items ≡ linked marks

-- the links at a position
abbrev pub joined : Option (Option OperandNumbers) → Option OperandNumbers
joined None = None
joined (Some o) = o

abbrev pub links_at : List (Option OperandNumbers) → ℕ → Option OperandNumbers
links_at all q = joined (slice_get all q)

abbrev pub is_operand : Option Wire → Wire → Bool
is_operand None w = false
is_operand (Some v) w = same_wire v w

-- the number of a wire where the operands of the gate have these and every other wire has its old one
abbrev pub relinked : OperandNumbers → Gate → Wire → Option ℕ → Option ℕ
relinked links gate w old =
    if same_wire gate.a w then links.a else (if is_operand gate.b w then links.b else (if is_operand gate.c w then links.c else old))

-- the operand is not there, or its number is this one
abbrev pub is_there : Option Wire → Option ℕ → ℕ → Type 0
is_there None number q = Unit {0}
is_there (Some w) number q = number ≡ Some q

-- each operand has this number
pub record AreAll (links : OperandNumbers) (gate : Gate) (q : ℕ) : Type 0 where
  pub a : links.a ≡ Some q
  pub b : is_there gate.b links.b q
  pub c : is_there gate.c links.c q

-- each number has 32 bits and is not the greatest of them
pub record AreSmall (links : OperandNumbers) : Type 0 where
  pub a : IfSome links.a (λ n. n < 4294967295)
  pub b : IfSome links.b (λ n. n < 4294967295)
  pub c : IfSome links.c (λ n. n < 4294967295)

-- the gate stays, as the last one, with these links before it
pub record IsWith (old : Kept) (gate : Gate) (before : OperandNumbers) (new : Kept) : Type 0 where
  pub table : (w : Wire) → number_at new.table w ≡ (if member w (operands gate) then Some (length old.links.items) else number_at old.table w)
  pub links : new.links.items ≡ old.links.items ++ Some before ∷ []

-- neither the gate stays nor the one at q, which had these links
pub record IsWithout (old : Kept) (gate : Gate) (q : ℕ) (before : OperandNumbers) (new : Kept) : Type 0 where
  pub table : (w : Wire) → number_at new.table w ≡ relinked before gate w (number_at old.table w)
  pub links : new.links.items ≡ slice_set old.links.items q None ++ None ∷ []

-- the positions where something stands, counted from p
abbrev pub places : {X : Type 0} → ℕ → List (Option X) → List ℕ
places p [] = []
places p (None ∷ all) = places (suc p) all
places p (Some x ∷ all) = p ∷ places (suc p) all
