use Rattle.std.proofs.Common.{◌-◌, length}
use Rattle.sc_parse.specs.Form.{sub, ◌∣◌}
use Rattle.sc_parse.specs.Form as symbol
use Rattle.sc_parse.specs.Input.{input}
use Rattle.sc_parse.specs.Trees.{each, part}
use Rattle.sc_parse.proofs.Repeats.{Repeated}
use Rattle.sc_parse.proofs.reader.Reader.parts.Given as goal

abbrev pub invariant-items : goal.invariant-items
invariant-items l = Repeated (sub symbol.Module ∣ sub symbol.Words) l.depth (input l.self) l.initial.at l.at (each part l.items)

abbrev pub decreases-items : goal.decreases-items
decreases-items l = length (input l.self) - l.at
