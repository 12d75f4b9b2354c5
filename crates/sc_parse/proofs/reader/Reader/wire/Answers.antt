use Rattle.std.proofs.Common.{refl, sym, ◌∙◌}
use Rattle.std.proofs.lemmas.Result.{err_from_is_err_and}
use Rattle.sc_parse.specs.Derives.{wire_is}
use Rattle.sc_parse.proofs.Steps.{fails_sub, fails_left, fails_right, takes_sub, takes_left, takes_right}
use Rattle.sc_parse.proofs.reader.Reader.wire.Goals as goal

pub returns-in_err-place : goal.returns-in_err-place
returns-in_err-place c =
    let p = err_from_is_err_and c.from_residual.result c.from_residual.ensures.1 in let b0 = sym c.is_word.ensures ∙ c.if-is_word.true in
    rw (p.1, p.2) (fails_sub (fails_left b0 (c.in_err-place.ensures)))

pub returns-then-is_word : goal.returns-then-is_word
returns-then-is_word c = let b0 = sym c.is_word.ensures ∙ c.if-is_word.true in takes_sub (takes_left b0 c.in_ok-place.ensures.takes) (rw (← c.in_ok-place.ensures.stands) (wire_is c.in_ok-place.ensures.is refl))

pub returns-in_err-place-2 : goal.returns-in_err-place-2
returns-in_err-place-2 c =
    let p = err_from_is_err_and c.from_residual-in_err-place-2.result c.from_residual-in_err-place-2.ensures.1 in let b0 = sym c.is_word.ensures ∙ c.if-is_word.false in
    rw (p.1, p.2) (fails_sub (fails_right b0 (c.in_err-place-2.ensures)))

pub returns : goal.returns
returns c = let b0 = sym c.is_word.ensures ∙ c.if-is_word.false in takes_sub (takes_right b0 (c.in_ok-place-2.ensures.takes)) (rw (← c.in_ok-place-2.ensures.stands) (wire_is c.in_ok-place-2.ensures.is refl))
