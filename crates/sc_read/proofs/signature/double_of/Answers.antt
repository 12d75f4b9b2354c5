use Rattle.std.proofs.Common.{◌<◌, arith, rules, length, FitsSigned, w64}
use Rattle.std.proofs.lemmas.Bool.Decides.{nat_tests}
use Rattle.sc_read.proofs.HierArgs.{no_double}
use Rattle.sc_read.proofs.signature.double_of.Goals as goal

pub returns-in_default-clause-none : goal.returns-in_default-clause-none
returns-in_default-clause-none c =
    let some : 0 < length c.in-Some.rest.now = first_of (grind (arith, nat_tests), search rules) in
    let fits : FitsSigned w64 c.in-Some.value.0 = search rules in
    no_double c.args.text.now c.in-Some.value.0 c.in-Some.rest.now fits c.in-Some.ensures.some some
