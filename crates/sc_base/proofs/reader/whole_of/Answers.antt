use Rattle.std.proofs.Common.{◌≡◌, ◌<◌, length, get_or, arith}
use Rattle.std.proofs.lemmas.Bool.Decides.{nat_tests}
use Rattle.sc_base.proofs.NumeralLemmas.{whole_from, read_fits}
use Rattle.sc_base.proofs.reader.whole_of.Goals as goal
use Rattle.sc_base.proofs.reader.whole_of.Goals.{else-digits-gt1-via-then-digits-gt1+else-digits-eq48, else-digits-gt1-via-else-digits-gt1}

pub returns-in-Some-clause-value : goal.returns-in-Some-clause-value
returns-in-Some-clause-value c =
    let some : 0 < length c.args.digits.now = grind (arith, nat_tests) in
    let alone : get_or c.args.digits.now 0 0 ≡ 48 → length c.args.digits.now ≡ 1 = elim c.else-digits-gt1.branch [
      | else-digits-gt1-via-then-digits-gt1+else-digits-eq48 w ↦ λ first. absurd (w.if-digits-eq48.false first)
      | else-digits-gt1-via-else-digits-gt1 w ↦ λ first. omega (arith, some, w.if-digits-gt1.false)
    ] in
    read_fits c.args.digits.now c.read_u64.result c.in-Some.number (whole_from c.args.digits.now c.requires some alone) c.read_u64.ensures c.in-Some.is
