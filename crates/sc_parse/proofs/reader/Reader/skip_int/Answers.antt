use Rattle.std.proofs.Common.{refl, sym, ◌∙◌}
use Rattle.std.proofs.lemmas.Result.{err_from_is_err_and}
use Rattle.sc_parse.proofs.Steps.{reads_left, reads_right, reads_empty, fails_left}
use Rattle.sc_parse.proofs.Parts.{keeps}
use Rattle.sc_parse.proofs.reader.Reader.skip_int.Goals as goal

pub returns-then-not-is_at : goal.returns-then-not-is_at
returns-then-not-is_at c = let b = sym c.is_at.ensures ∙ c.if-not-is_at.true in keeps (reads_right b (reads_empty c.requires)) refl

pub returns-in_err-take : goal.returns-in_err-take
returns-in_err-take c =
    let p = err_from_is_err_and c.from_residual.result c.from_residual.ensures.1 in let b = sym c.is_at.ensures ∙ c.if-not-is_at.false in
    rw (p.1, p.2) (fails_left b (c.in_err-take.ensures))

pub returns : goal.returns
returns c = let b = sym c.is_at.ensures ∙ c.if-not-is_at.false in keeps (reads_left b c.in_ok-take.ensures.0.reads) refl
