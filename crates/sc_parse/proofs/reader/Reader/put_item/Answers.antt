use Rattle.std.proofs.Common.{refl, [], ◌∷◌}
use Rattle.std.proofs.lemmas.Result.{err_from_is_err_and}
use Rattle.sc_parse.specs.Trees.{token, expr, meas}
use Rattle.sc_parse.proofs.Steps.{reads_both, fails_first, fails_second}
use Rattle.sc_parse.proofs.reader.Reader.put_item.Goals as goal

pub returns-in_err-mark-clause-cases : goal.returns-in_err-mark-clause-cases
returns-in_err-mark-clause-cases c =
    let p = err_from_is_err_and c.from_residual.result c.from_residual.ensures.1 in
    rw (p.1, p.2) (fails_first (c.in_err-mark.ensures))

pub returns-in_err-index-clause-cases : goal.returns-in_err-index-clause-cases
returns-in_err-index-clause-cases c =
    let p = err_from_is_err_and c.from_residual-in_err-index.result c.from_residual-in_err-index.ensures.1 in
    rw (p.1, p.2) (fails_second c.in_ok-mark.ensures.takes.reads (fails_first (c.in_err-index.ensures)))

pub returns-in_err-mark-2-clause-cases : goal.returns-in_err-mark-2-clause-cases
returns-in_err-mark-2-clause-cases c =
    let p = err_from_is_err_and c.from_residual-in_err-mark-2.result c.from_residual-in_err-mark-2.ensures.1 in
    rw (p.1, p.2) (fails_second c.in_ok-mark.ensures.takes.reads (fails_second c.in_ok-index.ensures (fails_first (c.in_err-mark-2.ensures))))

pub returns-in_err-mark-3-clause-cases : goal.returns-in_err-mark-3-clause-cases
returns-in_err-mark-3-clause-cases c =
    let p = err_from_is_err_and c.from_residual-in_err-mark-3.result c.from_residual-in_err-mark-3.ensures.1 in
    rw (p.1, p.2) (fails_second c.in_ok-mark.ensures.takes.reads (fails_second c.in_ok-index.ensures (fails_second c.in_ok-mark-2.ensures.takes.reads (fails_first (c.in_err-mark-3.ensures)))))

pub returns-in_err-gate-clause-cases : goal.returns-in_err-gate-clause-cases
returns-in_err-gate-clause-cases c =
    let p = err_from_is_err_and c.from_residual-in_err-gate.result c.from_residual-in_err-gate.ensures.1 in
    rw (p.1, p.2) (fails_second c.in_ok-mark.ensures.takes.reads (fails_second c.in_ok-index.ensures (fails_second c.in_ok-mark-2.ensures.takes.reads (fails_second c.in_ok-mark-3.ensures.takes.reads (c.in_err-gate.ensures)))))

pub returns-clause-cases : goal.returns-clause-cases
returns-clause-cases c = record { parts = token c.in_ok-mark.ensures.it ∷ expr c.in_ok-index.index ∷ token c.in_ok-mark-2.ensures.it ∷ token c.in_ok-mark-3.ensures.it ∷ meas c.in_ok-gate.gate c.in_ok-gate.from ∷ []; reads = reads_both c.in_ok-mark.ensures.takes.reads (reads_both c.in_ok-index.ensures (reads_both c.in_ok-mark-2.ensures.takes.reads (reads_both c.in_ok-mark-3.ensures.takes.reads (c.in_ok-gate.ensures)))); builds = c.measured-made.ensures _ refl }
