use Rattle.std.proofs.Common.{refl, codes}
use Rattle.sc_open.proofs.LineParts.{alike, differ}
use Rattle.sc_open.proofs.StageLaws.{size_small, size_there, size_unique, size_read, no_size_read}
use Rattle.sc_open.proofs.reader.read_size.Goals as goal

pub returns-in_default-take_number-clause-none : goal.returns-in_default-take_number-clause-none
returns-in_default-take_number-clause-none c = λ size is same.
    c.in_default-take_number.ensures.none size (codes "];\n") (size_small size is) refl (size_there c.args.front.now c.args.bytes.now c.in-Some.digits.now size c.in-Some.ensures.some same)

pub returns-then-eq-clause-some : goal.returns-then-eq-clause-some
returns-then-eq-clause-some c =
    size_read c.args.front.now c.args.bytes.now c.in-Some.digits.now c.in-Some-take_number.size c.in-Some-take_number.rest.now c.allowed_size.result c.in-Some.ensures.some
    c.in-Some-take_number.ensures.some (alike c.in-Some-take_number.rest.now c.as_slice.result.now (codes "];\n") c.eq.result c.eq.ensures c.if-eq.true c.as_slice.ensures) c.allowed_size.ensures.some

pub returns-then-eq-clause-none : goal.returns-then-eq-clause-none
returns-then-eq-clause-none c =
    no_size_read c.args.front.now c.args.bytes.now c.in-Some.digits.now c.in-Some-take_number.size c.in-Some-take_number.rest.now c.allowed_size.result c.in-Some.ensures.some
    c.in-Some-take_number.ensures.some c.in-Some-take_number.ensures.small c.in-Some-take_number.ensures.ends c.allowed_size.ensures.none

pub returns-else-eq-clause-none : goal.returns-else-eq-clause-none
returns-else-eq-clause-none c = λ size is same.
    differ c.in-Some-take_number.rest.now c.as_slice.result.now (codes "];\n") c.eq.result c.eq.ensures c.if-eq.false c.as_slice.ensures
    (size_unique c.args.front.now c.args.bytes.now c.in-Some.digits.now c.in-Some-take_number.size size c.in-Some-take_number.rest.now c.in-Some.ensures.some
    c.in-Some-take_number.ensures.some c.in-Some-take_number.ensures.small c.in-Some-take_number.ensures.ends is same).1
