use Rattle.std.proofs.Common.{refl, sym, ◌∙◌, [], ◌∷◌}
use Rattle.std.proofs.lemmas.Result.{err_from_is_err_and}
use Rattle.std.specs.Option.{is_some}
use Rattle.sc_parse.specs.Trees.{token, expr, set_of, step_of}
use Rattle.sc_parse.proofs.Steps.{reads_both, fails_first, fails_second, fails_left, fails_right}
use Rattle.sc_parse.proofs.Parts.{after_left, after_right}
use Rattle.sc_parse.proofs.reader.Reader.set_rest.Goals as goal

pub returns-in_err-made-clause-cases : goal.returns-in_err-made-clause-cases
returns-in_err-made-clause-cases c =
    let p = err_from_is_err_and c.from_residual.result c.from_residual.ensures.1 in let a = sym c.is_mark.ensures ∙ c.if-is_mark.true in
    rw (p.1, p.2) (fails_left a (c.in_err-made.ensures.cases))

pub returns-then-is_mark-clause-cases : goal.returns-then-is_mark-clause-cases
returns-then-is_mark-clause-cases c = let a = sym c.is_mark.ensures ∙ c.if-is_mark.true in after_left a c.in_ok-made.ensures.cases

pub returns-in_err-made-2-clause-cases : goal.returns-in_err-made-2-clause-cases
returns-in_err-made-2-clause-cases c =
    let p = err_from_is_err_and c.from_residual-in_err-made-2.result c.from_residual-in_err-made-2.ensures.1 in let a = sym c.is_mark.ensures ∙ c.if-is_mark.false in let b = sym c.is_mark-2.ensures ∙ c.if-is_mark-2.true in
    rw (p.1, p.2) (fails_right a (fails_left b (c.in_err-made-2.ensures.cases)))

pub returns-then-is_mark-2-clause-cases : goal.returns-then-is_mark-2-clause-cases
returns-then-is_mark-2-clause-cases c = let a = sym c.is_mark.ensures ∙ c.if-is_mark.false in let b = sym c.is_mark-2.ensures ∙ c.if-is_mark-2.true in after_right a (after_left b c.in_ok-made-2.ensures.cases)

pub returns-in_err-mark-clause-cases : goal.returns-in_err-mark-clause-cases
returns-in_err-mark-clause-cases c =
    let p = err_from_is_err_and c.from_residual-in_err-mark.result c.from_residual-in_err-mark.ensures.1 in let a = sym c.is_mark.ensures ∙ c.if-is_mark.false in let b = sym c.is_mark-2.ensures ∙ c.if-is_mark-2.false in let d = sym c.is_one_of.ensures ∙ c.if-is_one_of.true in
    rw (p.1, p.2) (fails_right a (fails_right b (fails_left d (fails_first (c.in_err-mark.ensures)))))

pub returns-in_err-value-clause-cases : goal.returns-in_err-value-clause-cases
returns-in_err-value-clause-cases c =
    let p = err_from_is_err_and c.from_residual-in_err-value.result c.from_residual-in_err-value.ensures.1 in let a = sym c.is_mark.ensures ∙ c.if-is_mark.false in let b = sym c.is_mark-2.ensures ∙ c.if-is_mark-2.false in let d = sym c.is_one_of.ensures ∙ c.if-is_one_of.true in
    rw (p.1, p.2) (fails_right a (fails_right b (fails_left d (fails_second c.in_ok-mark.ensures.token.takes.reads (c.in_err-value.ensures)))))

pub set-made-requires : goal.set-made-requires
set-made-requires c = c.in_ok-mark.ensures.among (λ m. is_some (set_of m)) refl

pub returns-then-is_one_of-clause-cases : goal.returns-then-is_one_of-clause-cases
returns-then-is_one_of-clause-cases c = let a = sym c.is_mark.ensures ∙ c.if-is_mark.false in let b = sym c.is_mark-2.ensures ∙ c.if-is_mark-2.false in let d = sym c.is_one_of.ensures ∙ c.if-is_one_of.true in after_right a (after_right b (after_left d (record { parts = token c.in_ok-mark.ensures.token.it ∷ expr c.in_ok-value.value ∷ []; reads = reads_both c.in_ok-mark.ensures.token.takes.reads (c.in_ok-value.ensures); builds = c.set-made.ensures _ c.in_ok-mark.ensures.token.is c.in_ok-mark.ensures.token.stands })))

pub returns-in_err-mark-2-clause-cases : goal.returns-in_err-mark-2-clause-cases
returns-in_err-mark-2-clause-cases c =
    let p = err_from_is_err_and c.from_residual-in_err-mark-2.result c.from_residual-in_err-mark-2.ensures.1 in let a = sym c.is_mark.ensures ∙ c.if-is_mark.false in let b = sym c.is_mark-2.ensures ∙ c.if-is_mark-2.false in let d = sym c.is_one_of.ensures ∙ c.if-is_one_of.false in
    rw (p.1, p.2) (fails_right a (fails_right b (fails_right d (c.in_err-mark-2.ensures))))

pub stepped-made-requires : goal.stepped-made-requires
stepped-made-requires c = c.in_ok-mark-2.ensures.among (λ m. is_some (step_of m)) refl

pub returns-clause-cases : goal.returns-clause-cases
returns-clause-cases c = let a = sym c.is_mark.ensures ∙ c.if-is_mark.false in let b = sym c.is_mark-2.ensures ∙ c.if-is_mark-2.false in let d = sym c.is_one_of.ensures ∙ c.if-is_one_of.false in after_right a (after_right b (after_right d (record { parts = token c.in_ok-mark-2.ensures.token.it ∷ []; reads = c.in_ok-mark-2.ensures.token.takes.reads; builds = c.stepped-made.ensures _ c.in_ok-mark-2.ensures.token.is c.in_ok-mark-2.ensures.token.stands })))
