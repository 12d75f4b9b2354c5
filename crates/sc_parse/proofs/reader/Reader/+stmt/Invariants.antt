use Rattle.std.proofs.Common.{◌+◌, ◌-◌, ◌*◌, length}
use Rattle.sc_parse.specs.Form.{sub}
use Rattle.sc_parse.specs.Form as symbol
use Rattle.sc_parse.specs.Input.{input}
use Rattle.sc_parse.specs.Trees.{each, stmt}
use Rattle.sc_parse.proofs.Repeats.{Repeated}
use Rattle.sc_parse.proofs.reader.Reader.+stmt.Given as goal

abbrev pub decreases-stmt : goal.decreases-stmt
decreases-stmt l = 16 * (length (input l.self.now) - l.at.now) + 1

abbrev pub decreases-stmts : goal.decreases-stmts
decreases-stmts l = 16 * (length (input l.self.now) - l.at.now) + 2

abbrev pub decreases-block : goal.decreases-block
decreases-block l = 16 * (length (input l.self.now) - l.at.now) + 0

abbrev pub decreases-if_else : goal.decreases-if_else
decreases-if_else l = 16 * (length (input l.self.now) - l.at.now) + 0

abbrev pub decreases-while_loop : goal.decreases-while_loop
decreases-while_loop l = 16 * (length (input l.self.now) - l.at.now) + 0

abbrev pub decreases-for_loop : goal.decreases-for_loop
decreases-for_loop l = 16 * (length (input l.self.now) - l.at.now) + 0

abbrev pub invariant-stmts-items : goal.invariant-stmts-items
invariant-stmts-items l = Repeated (sub symbol.Stmt) l.depth (input l.self) l.initial.at l.at (each stmt l.items.items)

abbrev pub decreases-stmts-items : goal.decreases-stmts-items
decreases-stmts-items l = length (input l.self) - l.at
