use Rattle.std.proofs.Common.{refl, sym, ◌∙◌, [], ◌∷◌}
use Rattle.std.proofs.lemmas.Result.{err_from_is_err_and}
use Rattle.sc_parse.specs.Trees.{token, expr}
use Rattle.sc_parse.proofs.Steps.{reads_both, reads_left, reads_right, reads_empty, fails_first, fails_second, fails_left}
use Rattle.sc_parse.proofs.reader.Reader.start_value.Goals as goal

pub returns-then-not-is_mark : goal.returns-then-not-is_mark
returns-then-not-is_mark c = let b = sym c.is_mark.ensures ∙ c.if-not-is_mark.true in record { parts = []; reads = reads_right b (reads_empty c.requires.within); same = refl }

pub returns-in_err-mark : goal.returns-in_err-mark
returns-in_err-mark c =
    let p = err_from_is_err_and c.from_residual.result c.from_residual.ensures.1 in let b = sym c.is_mark.ensures ∙ c.if-not-is_mark.false in
    rw (p.1, p.2) (fails_left b (fails_first (c.in_err-mark.ensures)))

pub returns-in_err-value : goal.returns-in_err-value
returns-in_err-value c =
    let p = err_from_is_err_and c.from_residual-in_err-value.result c.from_residual-in_err-value.ensures.1 in let b = sym c.is_mark.ensures ∙ c.if-not-is_mark.false in
    rw (p.1, p.2) (fails_left b (fails_second c.in_ok-mark.ensures.takes.reads (c.in_err-value.ensures)))

pub returns : goal.returns
returns c = let b = sym c.is_mark.ensures ∙ c.if-not-is_mark.false in record { parts = token c.in_ok-mark.ensures.it ∷ expr c.in_ok-value.value ∷ []; reads = reads_left b (reads_both c.in_ok-mark.ensures.takes.reads (c.in_ok-value.ensures)); same = refl }
