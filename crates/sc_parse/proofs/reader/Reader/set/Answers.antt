use Rattle.std.proofs.Common.{sym, ◌∙◌}
use Rattle.std.proofs.lemmas.Result.{err_from_is_err_and}
use Rattle.sc_parse.proofs.Steps.{reads_sub, reads_both, reads_left, reads_right, fails_sub, fails_first, fails_second, fails_left, fails_right}
use Rattle.sc_parse.proofs.reader.Reader.set.Goals as goal

pub returns-in_err-name : goal.returns-in_err-name
returns-in_err-name c =
    let p = err_from_is_err_and c.from_residual.result c.from_residual.ensures.1 in let b = sym c.begins.ensures ∙ c.if-begins.true in
    rw (p.1, p.2) (fails_sub (fails_left b (fails_first (c.in_err-name.ensures))))

pub returns-in_err-made : goal.returns-in_err-made
returns-in_err-made c =
    let p = err_from_is_err_and c.from_residual-in_err-made.result c.from_residual-in_err-made.ensures.1 in let b = sym c.begins.ensures ∙ c.if-begins.true in
    rw (p.1, p.2) (fails_sub (fails_left b (fails_second c.in_ok-name.ensures.reads (c.in_err-made.ensures.cases))))

pub returns-then-begins : goal.returns-then-begins
returns-then-begins c = let b = sym c.begins.ensures ∙ c.if-begins.true in reads_sub (reads_left b (reads_both c.in_ok-name.ensures.reads c.in_ok-made.ensures.cases.reads)) c.in_ok-made.ensures.cases.builds

pub returns-in_err-made-2 : goal.returns-in_err-made-2
returns-in_err-made-2 c =
    let p = err_from_is_err_and c.from_residual-in_err-made-2.result c.from_residual-in_err-made-2.ensures.1 in let b = sym c.begins.ensures ∙ c.if-begins.false in
    rw (p.1, p.2) (fails_sub (fails_right b (c.in_err-made-2.ensures.cases)))

pub returns : goal.returns
returns c = let b = sym c.begins.ensures ∙ c.if-begins.false in reads_sub (reads_right b c.in_ok-made-2.ensures.cases.reads) c.in_ok-made-2.ensures.cases.builds
