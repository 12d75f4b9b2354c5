use Rattle.std.proofs.Common.{refl, sym, ◌∙◌}
use Rattle.std.proofs.lemmas.Result.{err_from_is_err_and}
use Rattle.sc_parse.proofs.Steps.{reads_sub, reads_both, reads_left, reads_right, reads_empty, fails_sub, fails_first, fails_second, fails_left}
use Rattle.sc_parse.specs.Derives.{single_is, word_param_is}
use Rattle.sc_parse.proofs.reader.Reader.word_param.Goals as goal

pub returns-in_err-name : goal.returns-in_err-name
returns-in_err-name c =
    let p = err_from_is_err_and c.from_residual.result c.from_residual.ensures.1 in
    rw (p.1, p.2) (fails_sub (fails_first (c.in_err-name.ensures)))

pub returns-then-not-is_mark : goal.returns-then-not-is_mark
returns-then-not-is_mark c = let b = sym c.is_mark.ensures ∙ c.if-not-is_mark.true in reads_sub (reads_both c.in_ok-name.ensures.reads (reads_right b (reads_empty c.in_ok-name.ensures.reads.within))) single_is

pub returns-in_err-mark : goal.returns-in_err-mark
returns-in_err-mark c =
    let p = err_from_is_err_and c.from_residual-in_err-mark.result c.from_residual-in_err-mark.ensures.1 in let b = sym c.is_mark.ensures ∙ c.if-not-is_mark.false in
    rw (p.1, p.2) (fails_sub (fails_second c.in_ok-name.ensures.reads (fails_left b (fails_first (c.in_err-mark.ensures)))))

pub returns-in_err-width : goal.returns-in_err-width
returns-in_err-width c =
    let p = err_from_is_err_and c.from_residual-in_err-width.result c.from_residual-in_err-width.ensures.1 in let b = sym c.is_mark.ensures ∙ c.if-not-is_mark.false in
    rw (p.1, p.2) (fails_sub (fails_second c.in_ok-name.ensures.reads (fails_left b (fails_second c.in_ok-mark.ensures.takes.reads (fails_first (c.in_err-width.ensures))))))

pub returns-in_err-mark-2 : goal.returns-in_err-mark-2
returns-in_err-mark-2 c =
    let p = err_from_is_err_and c.from_residual-in_err-mark-2.result c.from_residual-in_err-mark-2.ensures.1 in let b = sym c.is_mark.ensures ∙ c.if-not-is_mark.false in
    rw (p.1, p.2) (fails_sub (fails_second c.in_ok-name.ensures.reads (fails_left b (fails_second c.in_ok-mark.ensures.takes.reads (fails_second c.in_ok-width.ensures.reads (c.in_err-mark-2.ensures))))))

pub returns : goal.returns
returns c = let b = sym c.is_mark.ensures ∙ c.if-not-is_mark.false in reads_sub (reads_both c.in_ok-name.ensures.reads (reads_left b (reads_both c.in_ok-mark.ensures.takes.reads (reads_both c.in_ok-width.ensures.reads (c.in_ok-mark-2.ensures.takes.reads))))) (word_param_is refl)
