use Rattle.std.proofs.Common.{arith}
use Rattle.sc_words.proofs.WordsValues.{number_none, number_some}
use Rattle.sc_words.proofs.words.times.read_number.Goals as goal

pub returns-in_default : goal.returns-in_default
returns-in_default c = number_none c.args.low c.args.high c.args.text.now (λ short numeral least most. c.in_default.ensures (numeral, omega (arith, most, c.ranges.high)))

pub returns : goal.returns
returns c = number_some c.args.low c.args.high c.in-Some.number c.args.text.now c.if-text-gt-MOST_DIGITS.false c.in-Some.ensures c.if-number-low.false c.if-number-high.false
