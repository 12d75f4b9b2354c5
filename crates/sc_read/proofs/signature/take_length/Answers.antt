use Rattle.std.proofs.Common.{arith, subst}
use Rattle.sc_base.specs.declared.reader.Whole.{Whole}
use Rattle.sc_base.specs.Numerals.{IsValueOf}
use Rattle.sc_read.proofs.HierArgs.{no_length, length_there}
use Rattle.sc_read.proofs.signature.take_length.Goals as goal

pub returns-then-length-eq0-clause-none : goal.returns-then-length-eq0-clause-none
returns-then-length-eq0-clause-none c =
    let found = c.in-Some.ensures.some in
    no_length c.args.bytes.now found.0 c.in-Some.rest.now c.in-Fits.length found.1 (subst (λ (z : Whole). IsValueOf found.0 z) c.in-Fits.is found.2) (omega arith)

pub returns-else-length-eq0-clause-some : goal.returns-else-length-eq0-clause-some
returns-else-length-eq0-clause-some c =
    let found = c.in-Some.ensures.some in
    length_there c.args.bytes.now found.0 c.in-Some.rest.now c.in-Fits.length c.min.result found.1 (subst (λ (z : Whole). IsValueOf found.0 z) c.in-Fits.is found.2) (omega arith) c.min.ensures
