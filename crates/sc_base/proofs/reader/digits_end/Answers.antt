use Rattle.std.proofs.Common.{sym, ◌∙◌}
use Rattle.sc_base.proofs.NumeralLemmas.{digits_more}
use Rattle.sc_base.proofs.reader.digits_end.Goals as goal

pub loop-i-preserved : goal.loop-i-preserved
loop-i-preserved c = digits_more c.args.bytes.now c.loop-i.i _ c.loop-i-test.true c.loop-i.invariant (sym c.is_ascii_digit.ensures.value ∙ c.if-not-is_ascii_digit.false)
