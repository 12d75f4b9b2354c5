use Rattle.std.proofs.Common.{refl}
use Rattle.std.proofs.lemmas.Result.{err_from_is_err_and}
use Rattle.sc_parse.proofs.Steps.{reads_sub, reads_both, fails_sub, fails_first, fails_second}
use Rattle.sc_parse.specs.Derives.{bind_is}
use Rattle.sc_parse.proofs.reader.Reader.bind.Goals as goal

pub returns-in_err-name-clause-cases : goal.returns-in_err-name-clause-cases
returns-in_err-name-clause-cases c =
    let p = err_from_is_err_and c.from_residual.result c.from_residual.ensures.1 in
    rw (p.1, p.2) (fails_sub (fails_first (c.in_err-name.ensures)))

pub returns-in_err-mark-clause-cases : goal.returns-in_err-mark-clause-cases
returns-in_err-mark-clause-cases c =
    let p = err_from_is_err_and c.from_residual-in_err-mark.result c.from_residual-in_err-mark.ensures.1 in
    rw (p.1, p.2) (fails_sub (fails_second c.in_ok-name.ensures.reads (fails_first (c.in_err-mark.ensures))))

pub returns-in_err-value-clause-cases : goal.returns-in_err-value-clause-cases
returns-in_err-value-clause-cases c =
    let p = err_from_is_err_and c.from_residual-in_err-value.result c.from_residual-in_err-value.ensures.1 in
    rw (p.1, p.2) (fails_sub (fails_second c.in_ok-name.ensures.reads (fails_second c.in_ok-mark.ensures.takes.reads (fails_first (c.in_err-value.ensures)))))

pub returns-in_err-mark-2-clause-cases : goal.returns-in_err-mark-2-clause-cases
returns-in_err-mark-2-clause-cases c =
    let p = err_from_is_err_and c.from_residual-in_err-mark-2.result c.from_residual-in_err-mark-2.ensures.1 in
    rw (p.1, p.2) (fails_sub (fails_second c.in_ok-name.ensures.reads (fails_second c.in_ok-mark.ensures.takes.reads (fails_second c.in_ok-value.ensures (c.in_err-mark-2.ensures)))))

pub returns-clause-cases : goal.returns-clause-cases
returns-clause-cases c = reads_sub (reads_both c.in_ok-name.ensures.reads (reads_both c.in_ok-mark.ensures.takes.reads (reads_both c.in_ok-value.ensures (c.in_ok-mark-2.ensures.takes.reads)))) (bind_is refl)
