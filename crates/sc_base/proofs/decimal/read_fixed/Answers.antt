use Rattle.std.proofs.Common.{arith}
use Rattle.sc_base.proofs.DecimalLemmas.{decimal_unique}
use Rattle.sc_base.proofs.decimal.read_fixed.Goals as goal

pub returns-in_err-units-clause-none : goal.returns-in_err-units-clause-none
returns-in_err-units-clause-none c =
    rw c.from_residual.ensures (λ units d. omega (arith, c.in_err-units.ensures.none units d))

pub returns-then-units-clause-none : goal.returns-then-units-clause-none
returns-then-units-clause-none c = λ units d.
    let same = decimal_unique c.args.bytes.now units _ d c.in_ok-units.ensures.some in
    omega arith
