use Rattle.std.proofs.Common.{◌++◌, sym, ap, ◌∙◌, Some, arith}
use Rattle.sc_base.specs.declared.names.Class.TheVariants.{Q}
use Rattle.sc_base.proofs.NumeralLemmas.{tail_is}
use Rattle.sc_open.specs.OpenTexts.{operand_text}
use Rattle.sc_open.proofs.Words.{operand_one_way}
use Rattle.sc_open.proofs.open_line.take_next.Goals as goal

pub returns-in-Some-take_operand-clause-only : goal.returns-in-Some-take_operand-clause-only
returns-in-Some-take_operand-clause-only c = λ w more one same.
    let r = operand_one_way Q c.args.size c.in-Some.after_comma.now c.in-Some-take_operand.wire w c.in-Some-take_operand.rest.now more (omega arith) c.in-Some-take_operand.ensures.some
    (record { joined = tail_is 44 44 c.in-Some.after_comma.now (operand_text w ++ more) (sym c.in-Some.ensures.some ∙ same); one = one }) in
    (ap Some r.0, r.1)
