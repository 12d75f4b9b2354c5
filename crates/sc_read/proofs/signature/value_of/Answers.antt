use Rattle.std.proofs.lemmas.Int.{to_z-of_z}
use Rattle.std.proofs.Common.{w64}
use Rattle.sc_read.proofs.HierArgs.{double_read, int_read}
use Rattle.sc_read.proofs.signature.value_of.Goals as goal

pub returns-in-Some-clause-some : goal.returns-in-Some-clause-some
returns-in-Some-clause-some c = double_read c.args.text.now c.in-Some.value c.in-Some.ensures.some.0 c.in-Some.ensures.some.1

pub returns-in-Some-int_of-clause-some : goal.returns-in-Some-int_of-clause-some
returns-in-Some-int_of-clause-some c =
    rw (to_z-of_z w64 c.in-Some-int_of.value c.in-Some-int_of.ensures.some.1)
    (int_read c.args.text.now c.in-Some-int_of.value c.in-Some-int_of.ensures.some.0 c.in-Some-int_of.ensures.some.1)
