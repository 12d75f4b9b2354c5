use Rattle.std.proofs.Common.{sym, ◌∙◌}
use Rattle.std.proofs.lemmas.Result.{err_from_is_err_and}
use Rattle.sc_parse.proofs.Steps.{reads_left, reads_right, fails_left, fails_right}
use Rattle.sc_parse.proofs.reader.Reader.part.Goals as goal

pub returns-in_err-made-clause-cases : goal.returns-in_err-made-clause-cases
returns-in_err-made-clause-cases c =
    let p = err_from_is_err_and c.from_residual.result c.from_residual.ensures.1 in let b = sym c.begins.ensures ∙ c.if-begins.true in
    rw (p.1, p.2) (fails_left b (c.in_err-made.ensures.cases))

pub returns-then-begins-clause-cases : goal.returns-then-begins-clause-cases
returns-then-begins-clause-cases c = let b = sym c.begins.ensures ∙ c.if-begins.true in reads_left b c.in_ok-made.ensures.cases

pub returns-in_err-made-2-clause-cases : goal.returns-in_err-made-2-clause-cases
returns-in_err-made-2-clause-cases c =
    let p = err_from_is_err_and c.from_residual-in_err-made-2.result c.from_residual-in_err-made-2.ensures.1 in let b = sym c.begins.ensures ∙ c.if-begins.false in
    rw (p.1, p.2) (fails_right b (c.in_err-made-2.ensures.cases))

pub returns-clause-cases : goal.returns-clause-cases
returns-clause-cases c = let b = sym c.begins.ensures ∙ c.if-begins.false in reads_right b c.in_ok-made-2.ensures.cases
