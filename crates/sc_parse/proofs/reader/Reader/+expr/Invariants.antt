use Rattle.std.proofs.Common.{◌+◌, ◌-◌, ◌*◌, length}
use Rattle.sc_parse.specs.Input.{input}
use Rattle.sc_parse.proofs.Chains.{Chained, Climbs}
use Rattle.sc_parse.proofs.reader.Reader.+expr.Given as goal

abbrev pub decreases-expr : goal.decreases-expr
decreases-expr l = 32 * (length (input l.self.now) - l.at.now) + 6

abbrev pub decreases-operand : goal.decreases-operand
decreases-operand l = 32 * (length (input l.self.now) - l.at.now) + 5

abbrev pub decreases-chain : goal.decreases-chain
decreases-chain l = 32 * (length (input l.self.now) - l.at.now) + 4

abbrev pub decreases-links : goal.decreases-links
decreases-links l = 32 * (length (input l.self.now) - l.at.now) + 3

abbrev pub decreases-unary : goal.decreases-unary
decreases-unary l = 32 * (length (input l.self.now) - l.at.now) + 2

abbrev pub decreases-prim : goal.decreases-prim
decreases-prim l = 32 * (length (input l.self.now) - l.at.now) + 1

abbrev pub decreases-index : goal.decreases-index
decreases-index l = 32 * (length (input l.self.now) - l.at.now)

abbrev pub invariant-links-links : goal.invariant-links-links
invariant-links-links l = Chained l.level l.depth (input l.self) l.initial.at l.at l.links.items

abbrev pub decreases-links-links : goal.decreases-links-links
decreases-links-links l = length (input l.self) - l.at

abbrev pub invariant-chain-climb : goal.invariant-chain-climb
invariant-chain-climb l = Climbs l.level l.depth (input l.self) l.initial.at l.at l.initial.made l.made

abbrev pub decreases-chain-climb : goal.decreases-chain-climb
decreases-chain-climb l = length (input l.self) - l.at
