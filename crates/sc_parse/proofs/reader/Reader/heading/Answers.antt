use Rattle.std.proofs.Common.{refl, sym, ◌∙◌}
use Rattle.std.proofs.lemmas.Result.{err_from_is_err_and}
use Rattle.sc_parse.proofs.Steps.{reads_both, reads_left, reads_right, fails_first, fails_second, fails_left, fails_right}
use Rattle.sc_parse.proofs.Parts.{keeps}
use Rattle.sc_parse.proofs.reader.Reader.heading.Goals as goal

pub returns-in_err-word-clause-cases : goal.returns-in_err-word-clause-cases
returns-in_err-word-clause-cases c =
    let p = err_from_is_err_and c.from_residual.result c.from_residual.ensures.1 in let a = sym c.is_word.ensures ∙ c.if-is_word.true in
    rw (p.1, p.2) (fails_left a (fails_first (c.in_err-word.ensures)))

pub returns-in_err-name-clause-cases : goal.returns-in_err-name-clause-cases
returns-in_err-name-clause-cases c =
    let p = err_from_is_err_and c.from_residual-in_err-name.result c.from_residual-in_err-name.ensures.1 in let a = sym c.is_word.ensures ∙ c.if-is_word.true in
    rw (p.1, p.2) (fails_left a (fails_second c.in_ok-word.ensures.takes.reads (c.in_err-name.ensures)))

pub returns-then-is_word-clause-cases : goal.returns-then-is_word-clause-cases
returns-then-is_word-clause-cases c = let a = sym c.is_word.ensures ∙ c.if-is_word.true in keeps (reads_left a (reads_both c.in_ok-word.ensures.takes.reads (c.in_ok-name.ensures.reads))) refl

pub returns-in_err-word-2-clause-cases : goal.returns-in_err-word-2-clause-cases
returns-in_err-word-2-clause-cases c =
    let p = err_from_is_err_and c.from_residual-in_err-word-2.result c.from_residual-in_err-word-2.ensures.1 in let a = sym c.is_word.ensures ∙ c.if-is_word.false in let b = sym c.is_word-2.ensures ∙ c.if-is_word-2.true in
    rw (p.1, p.2) (fails_right a (fails_left b (fails_first (c.in_err-word-2.ensures))))

pub returns-in_err-name-2-clause-cases : goal.returns-in_err-name-2-clause-cases
returns-in_err-name-2-clause-cases c =
    let p = err_from_is_err_and c.from_residual-in_err-name-2.result c.from_residual-in_err-name-2.ensures.1 in let a = sym c.is_word.ensures ∙ c.if-is_word.false in let b = sym c.is_word-2.ensures ∙ c.if-is_word-2.true in
    rw (p.1, p.2) (fails_right a (fails_left b (fails_second c.in_ok-word-2.ensures.takes.reads (c.in_err-name-2.ensures))))

pub returns-then-is_word-2-clause-cases : goal.returns-then-is_word-2-clause-cases
returns-then-is_word-2-clause-cases c = let a = sym c.is_word.ensures ∙ c.if-is_word.false in let b = sym c.is_word-2.ensures ∙ c.if-is_word-2.true in keeps (reads_right a (reads_left b (reads_both c.in_ok-word-2.ensures.takes.reads (c.in_ok-name-2.ensures.reads)))) refl

pub returns-in_err-word-3-clause-cases : goal.returns-in_err-word-3-clause-cases
returns-in_err-word-3-clause-cases c =
    let p = err_from_is_err_and c.from_residual-in_err-word-3.result c.from_residual-in_err-word-3.ensures.1 in let a = sym c.is_word.ensures ∙ c.if-is_word.false in let b = sym c.is_word-2.ensures ∙ c.if-is_word-2.false in
    rw (p.1, p.2) (fails_right a (fails_right b (fails_first (c.in_err-word-3.ensures))))

pub returns-in_err-name-3-clause-cases : goal.returns-in_err-name-3-clause-cases
returns-in_err-name-3-clause-cases c =
    let p = err_from_is_err_and c.from_residual-in_err-name-3.result c.from_residual-in_err-name-3.ensures.1 in let a = sym c.is_word.ensures ∙ c.if-is_word.false in let b = sym c.is_word-2.ensures ∙ c.if-is_word-2.false in
    rw (p.1, p.2) (fails_right a (fails_right b (fails_second c.in_ok-word-3.ensures.takes.reads (c.in_err-name-3.ensures))))

pub returns-clause-cases : goal.returns-clause-cases
returns-clause-cases c = let a = sym c.is_word.ensures ∙ c.if-is_word.false in let b = sym c.is_word-2.ensures ∙ c.if-is_word-2.false in keeps (reads_right a (reads_right b (reads_both c.in_ok-word-3.ensures.takes.reads (c.in_ok-name-3.ensures.reads)))) refl
