use Rattle.std.proofs.Common.{◌∙◌, [], ◌∷◌, ◌++◌}
use Rattle.std.proofs.lemmas.Result.{err_from_is_err_and}
use Rattle.sc_parse.specs.Trees.{token}
use Rattle.sc_parse.proofs.Steps.{reads_both, fails_first, fails_second}
use Rattle.sc_parse.proofs.Parts.{kept_end}
use Rattle.sc_parse.proofs.reader.Reader.call_rest.Goals as goal

pub returns-in_err-mark-clause-cases : goal.returns-in_err-mark-clause-cases
returns-in_err-mark-clause-cases c =
    let p = err_from_is_err_and c.from_residual.result c.from_residual.ensures.1 in
    rw (p.1, p.2) (fails_first (c.in_err-mark.ensures))

pub returns-in_err-args-clause-cases : goal.returns-in_err-args-clause-cases
returns-in_err-args-clause-cases c =
    let p = err_from_is_err_and c.from_residual-in_err-args.result c.from_residual-in_err-args.ensures.1 in
    rw (p.1, p.2) (fails_second c.in_ok-mark.ensures.takes.reads (fails_first (c.in_err-args.ensures)))

pub returns-in_err-mark-2-clause-cases : goal.returns-in_err-mark-2-clause-cases
returns-in_err-mark-2-clause-cases c =
    let p = err_from_is_err_and c.from_residual-in_err-mark-2.result c.from_residual-in_err-mark-2.ensures.1 in
    rw (p.1, p.2) (fails_second c.in_ok-mark.ensures.takes.reads (fails_second c.in_ok-args.ensures.reads (c.in_err-mark-2.ensures)))

pub returns-clause-cases : goal.returns-clause-cases
returns-clause-cases c = record { it = c.in_ok-mark.ensures.it; is = c.in_ok-mark.ensures.is; parts = c.in_ok-args.ensures.parts ++ token c.in_ok-mark-2.ensures.it ∷ []; reads = reads_both c.in_ok-mark.ensures.takes.reads (reads_both c.in_ok-args.ensures.reads (c.in_ok-mark-2.ensures.takes.reads)); same = kept_end c.in_ok-args.ensures.parts c.in_ok-mark-2.ensures.it ∙ c.in_ok-args.ensures.same }
