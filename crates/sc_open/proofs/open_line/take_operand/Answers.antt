use Rattle.std.proofs.Common.{◌<◌, arith}
use Rattle.sc_open.proofs.Words.{number_there}
use Rattle.sc_open.proofs.open_line.take_operand.Goals as goal

pub returns-in_default-take_text-clause-none : goal.returns-in_default-take_text-clause-none
returns-in_default-take_text-clause-none c = λ w rest p.
    c.in_default-take_text.ensures.none rest
    (number_there c.args.class c.args.size c.args.bytes.now c.in-Some.digits.now c.in-Some-take_number.number c.in-Some-take_number.after_number.now w rest (omega arith)
    c.in-Some.ensures.some c.in-Some-take_number.ensures.some c.in-Some-take_number.ensures.small c.in-Some-take_number.ensures.ends p).1

pub returns-then-number-size-clause-none : goal.returns-then-number-size-clause-none
returns-then-number-size-clause-none c = λ w rest p.
    let same = (number_there c.args.class c.args.size c.args.bytes.now c.in-Some.digits.now c.in-Some-take_number.number c.in-Some-take_number.after_number.now w rest (omega arith)
    c.in-Some.ensures.some c.in-Some-take_number.ensures.some c.in-Some-take_number.ensures.small c.in-Some-take_number.ensures.ends p).0 in
    let below : w.number < c.args.size = p.one.below in
    omega (arith, same, below, c.if-number-size.true)
