-- The bodies of classical functions, as the code makes them.
use Rattle.std.specs.Prelude.{◌≡◌, ◌≤◌, nat_lt, false, List, [], ◌∷◌, map, length, Ok, Err}
use Rattle.sc_base.specs.declared.Class.TheVariants.{Q}
use Rattle.sc_gate.specs.declared.gate.Wire.{Wire}
use Rattle.sc_gate.specs.Numbers.{Numbers, no_wires, both}
use Rattle.sc_syntax.specs.declared.Name.{Name}
use Rattle.sc_deck.specs.declared.Arg.TheVariants as arg
use Rattle.sc_deck.specs.declared.Item.{Item}
use Rattle.sc_deck.specs.declared.Item.TheVariants as item
use Rattle.sc_deck.specs.declared.Key.{Key}
use Rattle.sc_deck.specs.Bodies.{Contents, wires_of}
use Rattle.sc_deck.specs.Items.{ItemFits, after_item}
use Rattle.sc_deck.specs.Keys.{param_classes, params_of}
use Rattle.sc_deck.specs.Modules.{Module}
use Rattle.sc_deck.specs.Unfolding.{numbered}
use Rattle.sc_meaning.specs.declared.choice.Choice.{Choice}
use Rattle.sc_meaning.specs.declared.fault.ElabFault.{ElabFault}
use Rattle.sc_meaning.specs.Definitions.{Function}
use Rattle.sc_elab.specs.Folding.{written}
use Rattle.sc_elab.specs.Frames.{made}
use Rattle.sc_meaning.specs.Instances.{chosen}
use Rattle.sc_meaning.specs.Local.{Half, ran}
use Rattle.sc_meaning.specs.Outcomes.{Outcome}
use Rattle.sc_meaning.specs.Run.{function_body}

-- the arguments are arrays of qubits of the function's widths
abbrev pub HasWidths : Function → Key → Type 0
HasWidths f key = key.args ≡ map (λ w. arg.Many Q w) f.widths

-- the run of the function on the wires and numbers that the key says
abbrev pub function_on : Name → Function → Key → Outcome Numbers
function_on name f key = function_body name f (numbered (param_classes key) no_wires) (params_of key)

-- fresh wires, or the gates that stand for a gate; a function's body has no other items
abbrev pub chosen_items : Choice → Item → List Item
chosen_items choice (item.Fresh class n) = item.Fresh class n ∷ []
chosen_items choice (item.Gate gate) = map item.Gate (chosen choice gate)
chosen_items choice _ = []

-- an item may stand behind so many wires, and there are at most 65,536 with it
abbrev pub FitsBehind : Numbers → Item → Type 0
FitsBehind numbers i = ItemFits numbers i × (both (after_item numbers i) ≤ 65536)

-- the code makes the items of a body without calls
abbrev pub MakesBody : Choice → Outcome Numbers → Contents → Type 0
MakesBody choice outcome body =
    (ws : List Wire) (rest : List Half) (deck : List Module) (keys : List Key) → nat_lt 65536 (length keys) ≡ false →
    ran choice (made ws [] rest deck keys) outcome ≡ Ok (wires_of body, made ws (written body.items) rest deck keys)

-- such a body is refused
abbrev pub MakesNone : Choice → Outcome Numbers → ElabFault → Type 0
MakesNone choice outcome fault =
    (ws : List Wire) (rest : List Half) (deck : List Module) (keys : List Key) → nat_lt 65536 (length keys) ≡ false →
    ran choice (made ws [] rest deck keys) outcome ≡ Err fault
