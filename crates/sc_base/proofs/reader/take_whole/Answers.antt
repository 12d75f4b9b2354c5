use Rattle.std.proofs.Common.{sym, subst}
use Rattle.sc_base.specs.Numerals.{IsWhole}
use Rattle.sc_base.proofs.NumeralLemmas.{front_digits}
use Rattle.sc_base.proofs.reader.take_whole.Goals as goal

pub returns-in-None-clause-none : goal.returns-in-None-clause-none
returns-in-None-clause-none c = λ digits rest front.
    let same = front_digits c.args.bytes.now c.digits_end-end.result digits rest c.digits_end-end.ensures.digits c.digits_end-end.ensures.ends
    front.whole.numeral.1 front.ends front.joined in
    c.in-None.ensures.none (subst IsWhole (sym same.0) front.whole)
