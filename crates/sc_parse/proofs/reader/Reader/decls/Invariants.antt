use Rattle.std.proofs.Common.{◌-◌, length}
use Rattle.sc_parse.specs.Form.{sub}
use Rattle.sc_parse.specs.Form as symbol
use Rattle.sc_parse.specs.Input.{input}
use Rattle.sc_parse.specs.Trees.{decl}
use Rattle.sc_parse.proofs.Lists.{Listed}
use Rattle.sc_parse.proofs.reader.Reader.decls.Given as goal

abbrev pub invariant-items : goal.invariant-items
invariant-items l = Listed (sub symbol.Decl) decl l.depth (input l.self) l.initial.at l.at l.initial.items l.items

abbrev pub decreases-items : goal.decreases-items
decreases-items l = length (input l.self) - l.at
