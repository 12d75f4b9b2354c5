use Rattle.std.proofs.Common.{sym, ◌∙◌}
use Rattle.std.proofs.lemmas.Result.{err_from_is_err_and}
use Rattle.sc_parse.proofs.Steps.{reads_left, reads_right, reads_empty, fails_left}
use Rattle.sc_parse.proofs.reader.Reader.start.Goals as goal

pub returns-then-not-begins : goal.returns-then-not-begins
returns-then-not-begins c = let b = sym c.begins.ensures ∙ c.if-not-begins.true in reads_right b (reads_empty c.requires.within)

pub returns-in_err-start : goal.returns-in_err-start
returns-in_err-start c =
    let p = err_from_is_err_and c.from_residual.result c.from_residual.ensures.1 in let b = sym c.begins.ensures ∙ c.if-not-begins.false in
    rw (p.1, p.2) (fails_left b (c.in_err-start.ensures))

pub returns-in_err-boxed : goal.returns-in_err-boxed
returns-in_err-boxed c =
    let p = err_from_is_err_and c.from_residual-in_err-boxed.result c.from_residual-in_err-boxed.ensures.1 in
    rw (p.1, p.2, c.in_err-boxed.ensures.err) (record { why = tt })

pub returns : goal.returns
returns c = let b = sym c.begins.ensures ∙ c.if-not-begins.false in rw c.in_ok-boxed.ensures.ok (reads_left b c.in_ok-start.ensures)
