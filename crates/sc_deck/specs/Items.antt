-- Items of a body: fresh wires, a gate, or a call of another body by its number, and gates and calls that are repeated.
use Rattle.std.specs.Prelude.{ℕ, ◌≤◌, ◌<◌, ◌^◌, FitsSigned, Option, Some, None, List}
use Rattle.std.specs.Int.{w64}
use Rattle.std.specs.List.{filter_map}
use Rattle.sc_gate.specs.declared.gate.Wire.{Wire}
use Rattle.sc_gate.specs.declared.gate.Gate.{Gate}
use Rattle.sc_gate.specs.Gates.{operands, AreDistinct, IsWellFormed}
use Rattle.sc_gate.specs.SameGates.{value_of}
use Rattle.sc_deck.specs.declared.item.Item.{Item}
use Rattle.sc_deck.specs.declared.item.Item.TheVariants as item
use Rattle.sc_gate.specs.Numbers.{Numbers, with_more, AreThere}

-- the body that an item calls
abbrev pub callee_of : Item → Option ℕ
callee_of (item.Fresh class n) = None
callee_of (item.Gate gate) = None
callee_of (item.Call callee wires) = Some callee
callee_of (item.Gates gate turns) = None
callee_of (item.Calls callee wires turns) = Some callee

-- the bodies that items call, a repeated call counting once
abbrev pub callees_of : List Item → List ℕ
callees_of items = filter_map callee_of items

-- the wires after an item, of so many before it
abbrev pub after_item : Numbers → Item → Numbers
after_item numbers (item.Fresh class n) = with_more class n numbers
after_item numbers (item.Gate gate) = numbers
after_item numbers (item.Call callee wires) = numbers
after_item numbers (item.Gates gate turns) = numbers
after_item numbers (item.Calls callee wires turns) = numbers

pub record GateFits (numbers : Numbers) (gate : Gate) : Type 0 where
  pub well_formed : IsWellFormed gate
  pub there : AreThere numbers (operands gate)

pub record WiresFit (numbers : Numbers) (wires : List Wire) : Type 0 where
  pub distinct : AreDistinct wires
  pub there : AreThere numbers wires

-- an item may stand where there are so many wires
abbrev pub ItemFits : Numbers → Item → Type 0
ItemFits numbers (item.Fresh class n) = 1 ≤ n
ItemFits numbers (item.Gate gate) = GateFits numbers gate
ItemFits numbers (item.Call callee wires) = WiresFit numbers wires
ItemFits numbers (item.Gates gate turns) = GateFits numbers gate × (2 ≤ turns)
ItemFits numbers (item.Calls callee wires turns) = WiresFit numbers wires × (2 ≤ turns)

-- an angle is in range, and so is a number of turns
abbrev pub ItemInRange : Item → Type 0
ItemInRange (item.Fresh class n) = Unit {0}
ItemInRange (item.Gate gate) = FitsSigned w64 (value_of gate.kind)
ItemInRange (item.Call callee wires) = Unit {0}
ItemInRange (item.Gates gate turns) = FitsSigned w64 (value_of gate.kind) × (turns < 2 ^ 64)
ItemInRange (item.Calls callee wires turns) = turns < 2 ^ 64
