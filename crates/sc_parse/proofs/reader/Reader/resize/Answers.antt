use Rattle.std.proofs.Common.{sym, ◌∙◌}
use Rattle.std.proofs.lemmas.Result.{err_from_is_err_and}
use Rattle.sc_parse.proofs.Steps.{fails_left, fails_right, takes_left, takes_right}
use Rattle.sc_parse.proofs.reader.Reader.resize.Goals as goal

pub returns-in_err-token : goal.returns-in_err-token
returns-in_err-token c =
    let p = err_from_is_err_and c.from_residual.result c.from_residual.ensures.1 in
    rw (p.1, p.2) (fails_left (sym c.is_at.ensures ∙ c.if-is_at.true) c.in_err-token.ensures)

pub returns-then-is_at : goal.returns-then-is_at
returns-then-is_at c = (takes_left (sym c.is_at.ensures ∙ c.if-is_at.true) c.in_ok-token.ensures.0, c.in_ok-token.ensures.1)

pub returns-in_err-token-2 : goal.returns-in_err-token-2
returns-in_err-token-2 c =
    let p = err_from_is_err_and c.from_residual-in_err-token-2.result c.from_residual-in_err-token-2.ensures.1 in
    rw (p.1, p.2) (fails_right (sym c.is_at.ensures ∙ c.if-is_at.false) c.in_err-token-2.ensures)

pub returns : goal.returns
returns c = (takes_right (sym c.is_at.ensures ∙ c.if-is_at.false) c.in_ok-token-2.ensures.0, c.in_ok-token-2.ensures.1)
