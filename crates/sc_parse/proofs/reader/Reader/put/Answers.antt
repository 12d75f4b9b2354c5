use Rattle.std.proofs.Common.{refl, sym, ◌∙◌, [], ◌∷◌}
use Rattle.std.proofs.lemmas.Result.{err_from_is_err_and}
use Rattle.sc_parse.specs.Trees.{token, expr, meas}
use Rattle.sc_parse.proofs.Steps.{reads_both, reads_left, reads_right, fails_first, fails_second, fails_left, fails_right}
use Rattle.sc_parse.proofs.reader.Reader.put.Goals as goal

pub returns-in_err-place-clause-cases : goal.returns-in_err-place-clause-cases
returns-in_err-place-clause-cases c =
    let p = err_from_is_err_and c.from_residual.result c.from_residual.ensures.1 in
    rw (p.1, p.2) (fails_first (c.in_err-place.ensures))

pub returns-in_err-gate-clause-cases : goal.returns-in_err-gate-clause-cases
returns-in_err-gate-clause-cases c =
    let p = err_from_is_err_and c.from_residual-in_err-gate.result c.from_residual-in_err-gate.ensures.1 in let b = sym c.begins.ensures ∙ c.if-begins.true in
    rw (p.1, p.2) (fails_second c.in_ok-place.ensures.takes.reads (fails_left b (c.in_err-gate.ensures)))

pub returns-then-begins-clause-cases : goal.returns-then-begins-clause-cases
returns-then-begins-clause-cases c = let b = sym c.begins.ensures ∙ c.if-begins.true in record { parts = token c.in_ok-place.ensures.it ∷ meas c.in_ok-gate.gate c.in_ok-gate.from ∷ []; reads = reads_both c.in_ok-place.ensures.takes.reads (reads_left b c.in_ok-gate.ensures); builds = c.measured-made.ensures _ refl }

pub returns-in_err-value-clause-cases : goal.returns-in_err-value-clause-cases
returns-in_err-value-clause-cases c =
    let p = err_from_is_err_and c.from_residual-in_err-value.result c.from_residual-in_err-value.ensures.1 in let b = sym c.begins.ensures ∙ c.if-begins.false in
    rw (p.1, p.2) (fails_second c.in_ok-place.ensures.takes.reads (fails_right b (c.in_err-value.ensures)))

pub returns-clause-cases : goal.returns-clause-cases
returns-clause-cases c = let b = sym c.begins.ensures ∙ c.if-begins.false in record { parts = token c.in_ok-place.ensures.it ∷ expr c.in_ok-value.value ∷ []; reads = reads_both c.in_ok-place.ensures.takes.reads (reads_right b c.in_ok-value.ensures); builds = c.set-made.ensures _ c.in_ok-place.ensures.is c.in_ok-place.ensures.stands }
