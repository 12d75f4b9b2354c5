use Rattle.std.proofs.Common.{◌<◌, arith, rules, length}
use Rattle.std.proofs.lemmas.Bool.Decides.{nat_tests}
use Rattle.sc_read.proofs.HierArgs.{no_int}
use Rattle.sc_read.proofs.signature.int_of.Goals as goal

pub returns-in_default-clause-none : goal.returns-in_default-clause-none
returns-in_default-clause-none c =
    let some : 0 < length c.in-Some.rest.now = first_of (grind (arith, nat_tests), search rules) in
    no_int c.args.text.now c.in-Some.value c.in-Some.rest.now c.in-Some.ensures.some some
