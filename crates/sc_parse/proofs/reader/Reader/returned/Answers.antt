use Rattle.std.proofs.Common.{refl, sym, ◌∙◌}
use Rattle.std.proofs.lemmas.Result.{err_from_is_err_and}
use Rattle.sc_parse.proofs.Steps.{reads_both, reads_left, reads_right, reads_empty, fails_first, fails_second, fails_left}
use Rattle.sc_parse.proofs.Parts.{kept_end}
use Rattle.sc_parse.proofs.Parts.{keeps}
use Rattle.sc_parse.proofs.reader.Reader.returned.Goals as goal

pub returns-then-not-is_word : goal.returns-then-not-is_word
returns-then-not-is_word c = let b = sym c.is_word.ensures ∙ c.if-not-is_word.true in keeps (reads_right b (reads_empty c.requires)) refl

pub returns-in_err-word : goal.returns-in_err-word
returns-in_err-word c =
    let p = err_from_is_err_and c.from_residual.result c.from_residual.ensures.1 in let b = sym c.is_word.ensures ∙ c.if-not-is_word.false in
    rw (p.1, p.2) (fails_left b (fails_first (c.in_err-word.ensures)))

pub returns-in_err-skip_int : goal.returns-in_err-skip_int
returns-in_err-skip_int c =
    let p = err_from_is_err_and c.from_residual-in_err-skip_int.result c.from_residual-in_err-skip_int.ensures.1 in let b = sym c.is_word.ensures ∙ c.if-not-is_word.false in
    rw (p.1, p.2) (fails_left b (fails_second c.in_ok-word.ensures.takes.reads (fails_first (c.in_err-skip_int.ensures))))

pub returns-in_err-mark : goal.returns-in_err-mark
returns-in_err-mark c =
    let p = err_from_is_err_and c.from_residual-in_err-mark.result c.from_residual-in_err-mark.ensures.1 in let b = sym c.is_word.ensures ∙ c.if-not-is_word.false in
    rw (p.1, p.2) (fails_left b (fails_second c.in_ok-word.ensures.takes.reads (fails_second c.in_ok-skip_int.ensures.reads (c.in_err-mark.ensures))))

pub returns : goal.returns
returns c = let b = sym c.is_word.ensures ∙ c.if-not-is_word.false in keeps (reads_left b (reads_both c.in_ok-word.ensures.takes.reads (reads_both c.in_ok-skip_int.ensures.reads (c.in_ok-mark.ensures.takes.reads)))) (kept_end c.in_ok-skip_int.ensures.parts c.in_ok-mark.ensures.it ∙ c.in_ok-skip_int.ensures.same)
