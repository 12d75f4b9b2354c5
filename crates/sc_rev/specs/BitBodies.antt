-- The gates of a body's own items, and the body of a classical function.
use Rattle.std.specs.Prelude.{ℕ, zero, suc, List, [], ◌∷◌, ◌++◌, map, Option, Some, None}
use Rattle.std.specs.List.{filter_map}
use Rattle.sc_base.specs.declared.names.Class.TheVariants.{Q}
use Rattle.sc_gate.specs.declared.gate.Gate.{Gate}
use Rattle.sc_deck.specs.declared.item.Item.{Item}
use Rattle.sc_deck.specs.declared.item.Item.TheVariants as item
use Rattle.sc_deck.specs.Bodies.{Contents}
use Rattle.sc_word.specs.Scratch.{fn_scratch}
use Rattle.sc_word.specs.Typed.{TypedWords}
use Rattle.sc_rev.specs.Functions.{operands_of, gates_of}

-- the gate of an item that is one gate, applied once
abbrev pub gate_in : Item → Option Gate
gate_in (item.Gate gate) = Some gate
gate_in _ = None

abbrev pub gates_in : List Item → List Gate
gates_in items = filter_map gate_in items

-- one item for all scratch, where there is any
abbrev pub scratch_items : ℕ → List Item
scratch_items zero = []
scratch_items (suc n) = item.Fresh Q (suc n) ∷ []

abbrev pub gate_items : List Gate → List Item
gate_items gates = map item.Gate gates

-- so many parameter qubits, and the scratch
abbrev pub scratch_body : ℕ → ℕ → Contents
scratch_body operands scratch = record { params = record { qubits = operands; cbits = 0 }; items = scratch_items scratch }

-- THE BODY OF A CLASSICAL FUNCTION: its parameters are the qubits of the words in order and of the output, and its items the scratch
-- and then the gates
abbrev pub reversible_body : TypedWords → Contents
reversible_body t = record {
  params = record { qubits = operands_of t; cbits = 0 };
  items = scratch_items (fn_scratch t) ++ gate_items (gates_of t);
}
