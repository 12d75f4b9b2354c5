use Rattle.std.proofs.lemmas.Result.{err_from_is_err_and}
use Rattle.sc_parse.proofs.Steps.{reads_sub, reads_both, fails_sub, fails_first, fails_second}
use Rattle.sc_parse.specs.Derives.{module_is}
use Rattle.sc_parse.proofs.Parts.{kept_module}
use Rattle.sc_parse.proofs.reader.Reader.module.Goals as goal

pub returns-in_err-name-clause-cases : goal.returns-in_err-name-clause-cases
returns-in_err-name-clause-cases c =
    let p = err_from_is_err_and c.from_residual.result c.from_residual.ensures.1 in
    rw (p.1, p.2) (fails_sub (fails_first (c.in_err-name.ensures.cases)))

pub returns-in_err-mark-clause-cases : goal.returns-in_err-mark-clause-cases
returns-in_err-mark-clause-cases c =
    let p = err_from_is_err_and c.from_residual-in_err-mark.result c.from_residual-in_err-mark.ensures.1 in
    rw (p.1, p.2) (fails_sub (fails_second c.in_ok-name.ensures.cases.reads (fails_first (c.in_err-mark.ensures))))

pub returns-in_err-params-clause-cases : goal.returns-in_err-params-clause-cases
returns-in_err-params-clause-cases c =
    let p = err_from_is_err_and c.from_residual-in_err-params.result c.from_residual-in_err-params.ensures.1 in
    rw (p.1, p.2) (fails_sub (fails_second c.in_ok-name.ensures.cases.reads (fails_second c.in_ok-mark.ensures.takes.reads (fails_first (c.in_err-params.ensures)))))

pub returns-in_err-mark-2-clause-cases : goal.returns-in_err-mark-2-clause-cases
returns-in_err-mark-2-clause-cases c =
    let p = err_from_is_err_and c.from_residual-in_err-mark-2.result c.from_residual-in_err-mark-2.ensures.1 in
    rw (p.1, p.2) (fails_sub (fails_second c.in_ok-name.ensures.cases.reads (fails_second c.in_ok-mark.ensures.takes.reads (fails_second c.in_ok-params.ensures.reads (fails_first (c.in_err-mark-2.ensures))))))

pub returns-in_err-mark-3-clause-cases : goal.returns-in_err-mark-3-clause-cases
returns-in_err-mark-3-clause-cases c =
    let p = err_from_is_err_and c.from_residual-in_err-mark-3.result c.from_residual-in_err-mark-3.ensures.1 in
    rw (p.1, p.2) (fails_sub (fails_second c.in_ok-name.ensures.cases.reads (fails_second c.in_ok-mark.ensures.takes.reads (fails_second c.in_ok-params.ensures.reads (fails_second c.in_ok-mark-2.ensures.takes.reads (fails_first (c.in_err-mark-3.ensures)))))))

pub returns-in_err-body-clause-cases : goal.returns-in_err-body-clause-cases
returns-in_err-body-clause-cases c =
    let p = err_from_is_err_and c.from_residual-in_err-body.result c.from_residual-in_err-body.ensures.1 in
    rw (p.1, p.2) (fails_sub (fails_second c.in_ok-name.ensures.cases.reads (fails_second c.in_ok-mark.ensures.takes.reads (fails_second c.in_ok-params.ensures.reads (fails_second c.in_ok-mark-2.ensures.takes.reads (fails_second c.in_ok-mark-3.ensures.takes.reads (fails_first (c.in_err-body.ensures))))))))

pub returns-in_err-returned-clause-cases : goal.returns-in_err-returned-clause-cases
returns-in_err-returned-clause-cases c =
    let p = err_from_is_err_and c.from_residual-in_err-returned.result c.from_residual-in_err-returned.ensures.1 in
    rw (p.1, p.2) (fails_sub (fails_second c.in_ok-name.ensures.cases.reads (fails_second c.in_ok-mark.ensures.takes.reads (fails_second c.in_ok-params.ensures.reads (fails_second c.in_ok-mark-2.ensures.takes.reads (fails_second c.in_ok-mark-3.ensures.takes.reads (fails_second c.in_ok-body.ensures (fails_first (c.in_err-returned.ensures)))))))))

pub returns-in_err-mark-4-clause-cases : goal.returns-in_err-mark-4-clause-cases
returns-in_err-mark-4-clause-cases c =
    let p = err_from_is_err_and c.from_residual-in_err-mark-4.result c.from_residual-in_err-mark-4.ensures.1 in
    rw (p.1, p.2) (fails_sub (fails_second c.in_ok-name.ensures.cases.reads (fails_second c.in_ok-mark.ensures.takes.reads (fails_second c.in_ok-params.ensures.reads (fails_second c.in_ok-mark-2.ensures.takes.reads (fails_second c.in_ok-mark-3.ensures.takes.reads (fails_second c.in_ok-body.ensures (fails_second c.in_ok-returned.ensures.reads (c.in_err-mark-4.ensures)))))))))

pub returns-clause-cases : goal.returns-clause-cases
returns-clause-cases c = reads_sub (reads_both c.in_ok-name.ensures.cases.reads (reads_both c.in_ok-mark.ensures.takes.reads (reads_both c.in_ok-params.ensures.reads (reads_both c.in_ok-mark-2.ensures.takes.reads (reads_both c.in_ok-mark-3.ensures.takes.reads (reads_both c.in_ok-body.ensures (reads_both c.in_ok-returned.ensures.reads (c.in_ok-mark-4.ensures.takes.reads)))))))) (module_is (rw c.from_vec.ensures (kept_module c.in_ok-name.ensures.cases.parts c.in_ok-params.ensures.parts c.in_ok-returned.ensures.parts c.in_ok-body.body.items c.in_ok-mark.ensures.it c.in_ok-mark-2.ensures.it c.in_ok-mark-3.ensures.it c.in_ok-mark-4.ensures.it c.in_ok-name.name c.in_ok-params.params c.in_ok-name.ensures.cases.same c.in_ok-params.ensures.same c.in_ok-returned.ensures.same)))
