-- The last gate before a position on a wire.
use Rattle.std.specs.Prelude.{◌≡◌, ℕ, zero, suc, ◌<◌, Bool, true, false, if◌then◌else◌, Option, Some, None, List, slice_get}
use Rattle.sc_gate.specs.declared.gate.Wire.{Wire}
use Rattle.sc_gate.specs.declared.gate.Gate.{Gate}
use Rattle.sc_gate.specs.Gates.{operands}
use Rattle.sc_gate.specs.Wires.{member}

-- the gate, where there is one, has the wire
abbrev pub has_wire : Option Gate → Wire → Bool
has_wire None w = false
has_wire (Some gate) w = member w (operands gate)

abbrev pub has_at : List Gate → ℕ → Wire → Bool
has_at gates x w = has_wire (slice_get gates x) w

-- the position of the last gate before position n that has the wire
abbrev pub last_on : List Gate → Wire → ℕ → Option ℕ
last_on gates w zero = None
last_on gates w (suc n) = if has_wire (slice_get gates n) w then Some n else last_on gates w n

-- the gate at p has the wire, and none from there up to n has
pub record IsLastOn (gates : List Gate) (w : Wire) (n p : ℕ) : Type 0 where
  pub below : p < n
  pub has : has_at gates p w ≡ true
  pub last : (q : ℕ) → p < q → q < n → has_at gates q w ≡ false
