use Rattle.std.proofs.Common.{◌∙◌}
use Rattle.std.proofs.lemmas.Result.{err_from_is_err_and}
use Rattle.sc_parse.specs.Derives.{numbers_is}
use Rattle.sc_parse.proofs.Steps.{reads_both, fails_first, fails_second}
use Rattle.sc_parse.proofs.Parts.{makes, kept_end}
use Rattle.sc_parse.proofs.reader.Reader.declared_numbers.Goals as goal

pub returns-in_err-sort-clause-cases : goal.returns-in_err-sort-clause-cases
returns-in_err-sort-clause-cases c =
    let p = err_from_is_err_and c.from_residual.result c.from_residual.ensures.1 in
    rw (p.1, p.2) (fails_first (c.in_err-sort.ensures.cases))

pub returns-in_err-mark-clause-cases : goal.returns-in_err-mark-clause-cases
returns-in_err-mark-clause-cases c =
    let p = err_from_is_err_and c.from_residual-in_err-mark.result c.from_residual-in_err-mark.ensures.1 in
    rw (p.1, p.2) (fails_second c.in_ok-sort.ensures.cases.reads (c.in_err-mark.ensures))

pub returns-clause-cases : goal.returns-clause-cases
returns-clause-cases c = makes (reads_both c.in_ok-sort.ensures.cases.reads c.in_ok-mark.ensures.takes.reads) (numbers_is (kept_end c.in_ok-sort.ensures.cases.parts c.in_ok-mark.ensures.it ∙ c.in_ok-sort.ensures.cases.same))
