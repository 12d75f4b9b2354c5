use Rattle.std.proofs.Common.{◌+◌, ◌-◌, ◌*◌, length}
use Rattle.sc_parse.specs.Input.{input}
use Rattle.sc_parse.specs.WordLevels.{tightest}
use Rattle.sc_parse.proofs.WordChains.{WordChained, WordClimbs, Shifted}
use Rattle.sc_parse.proofs.reader.Reader.+word.Given as goal

abbrev pub decreases-word_expr : goal.decreases-word_expr
decreases-word_expr l = 32 * (length (input l.self.now) - l.at.now) + 20

abbrev pub decreases-word_operand : goal.decreases-word_operand
decreases-word_operand l = 32 * (length (input l.self.now) - l.at.now) + 2 * tightest l.level + 6

abbrev pub decreases-word_chain : goal.decreases-word_chain
decreases-word_chain l = 32 * (length (input l.self.now) - l.at.now) + 2 * tightest l.level + 5

abbrev pub decreases-word_base : goal.decreases-word_base
decreases-word_base l = 32 * (length (input l.self.now) - l.at.now) + 2 * tightest l.level + 4

abbrev pub decreases-word_links : goal.decreases-word_links
decreases-word_links l = 32 * (length (input l.self.now) - l.at.now) + 3

abbrev pub decreases-word_shift : goal.decreases-word_shift
decreases-word_shift l = 32 * (length (input l.self.now) - l.at.now) + 7

abbrev pub decreases-word_unary : goal.decreases-word_unary
decreases-word_unary l = 32 * (length (input l.self.now) - l.at.now) + 2

abbrev pub decreases-word_prim : goal.decreases-word_prim
decreases-word_prim l = 32 * (length (input l.self.now) - l.at.now) + 1

abbrev pub decreases-word_picked : goal.decreases-word_picked
decreases-word_picked l = 32 * (length (input l.self.now) - l.at.now) + 2

abbrev pub decreases-word_sized : goal.decreases-word_sized
decreases-word_sized l = 32 * (length (input l.self.now) - l.at.now)

abbrev pub invariant-word_links-links : goal.invariant-word_links-links
invariant-word_links-links l = WordChained l.level l.depth (input l.self) l.initial.at l.at l.links.items

abbrev pub decreases-word_links-links : goal.decreases-word_links-links
decreases-word_links-links l = length (input l.self) - l.at

abbrev pub invariant-word_chain-climb : goal.invariant-word_chain-climb
invariant-word_chain-climb l = WordClimbs l.level l.depth (input l.self) l.initial.at l.at l.initial.made l.made

abbrev pub decreases-word_chain-climb : goal.decreases-word_chain-climb
decreases-word_chain-climb l = length (input l.self) - l.at

abbrev pub invariant-word_shift-shifts : goal.invariant-word_shift-shifts
invariant-word_shift-shifts l = Shifted l.depth (input l.self) l.initial.at l.at l.links

abbrev pub decreases-word_shift-shifts : goal.decreases-word_shift-shifts
decreases-word_shift-shifts l = length (input l.self) - l.at
