use Rattle.std.proofs.Common.{◌-◌, length}
use Rattle.sc_parse.specs.Form.{sub}
use Rattle.sc_parse.specs.Form as symbol
use Rattle.sc_parse.specs.Input.{input}
use Rattle.sc_parse.specs.Trees.{each, bind}
use Rattle.sc_parse.proofs.Repeats.{Repeated}
use Rattle.sc_parse.proofs.reader.Reader.binds.Given as goal

abbrev pub invariant-items : goal.invariant-items
invariant-items l = Repeated (sub symbol.Bind) l.depth (input l.self) l.initial.at l.at (each bind l.items)

abbrev pub decreases-items : goal.decreases-items
decreases-items l = length (input l.self) - l.at
