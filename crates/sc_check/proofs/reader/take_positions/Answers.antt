use Rattle.std.proofs.Common.{arith}
use Rattle.sc_check.proofs.ReaderLemmas.{front_more, front_no_number, front_too_large, front_no_end}
use Rattle.sc_check.proofs.reader.take_positions.Goals as goal

pub returns-in_default-take_number-clause-none : goal.returns-in_default-take_number-clause-none
returns-in_default-take_number-clause-none c =
    front_no_number c.args.gates c.args.bytes.now _ c.loop-after_space.rest.now c.in-Some.after_space.now (omega arith) c.loop-after_space.invariant c.in-Some.ensures.some c.in_default-take_number.ensures.none

pub returns-then-position-gates-clause-none : goal.returns-then-position-gates-clause-none
returns-then-position-gates-clause-none c =
    front_too_large c.args.gates c.args.bytes.now _ c.loop-after_space.rest.now c.in-Some.after_space.now c.in-Some-take_number.position c.in-Some-take_number.more.now (omega arith) c.in-Some-take_number.ensures.small (omega arith)
    c.loop-after_space.invariant c.in-Some.ensures.some c.in-Some-take_number.ensures.some c.in-Some-take_number.ensures.ends

pub loop-after_space-preserved : goal.loop-after_space-preserved
loop-after_space-preserved c = rw c.in_ok-push.ensures.ok
    (front_more c.args.gates c.args.bytes.now _ c.loop-after_space.rest.now c.in-Some.after_space.now c.in-Some-take_number.position c.in-Some-take_number.more.now (omega arith) (omega arith)
    c.loop-after_space.invariant c.in-Some.ensures.some c.in-Some-take_number.ensures.some c.in-Some-take_number.ensures.ends)

pub returns-clause-none : goal.returns-clause-none
returns-clause-none c =
    front_no_end c.args.gates c.args.bytes.now _ c.loop-after_space.rest.now c.loop-after_space.invariant c.in_default.ensures.none c.in-None.ensures.none
