use Rattle.std.proofs.Common.{sym, ◌∙◌}
use Rattle.std.proofs.lemmas.Result.{err_from_is_err_and}
use Rattle.sc_parse.proofs.Steps.{reads_left, reads_right, reads_empty, fails_left}
use Rattle.sc_parse.proofs.reader.Reader.optional_expr.Goals as goal

pub returns-then-not-begins : goal.returns-then-not-begins
returns-then-not-begins c = let b = sym c.begins.ensures ∙ c.if-not-begins.true in reads_right b (reads_empty c.requires.within)

pub returns-in_err-test : goal.returns-in_err-test
returns-in_err-test c =
    let p = err_from_is_err_and c.from_residual.result c.from_residual.ensures.1 in let b = sym c.begins.ensures ∙ c.if-not-begins.false in
    rw (p.1, p.2) (fails_left b (c.in_err-test.ensures))

pub returns : goal.returns
returns c = let b = sym c.begins.ensures ∙ c.if-not-begins.false in reads_left b c.in_ok-test.ensures
