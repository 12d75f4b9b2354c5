use Rattle.std.proofs.Common.{refl}
use Rattle.std.proofs.lemmas.Result.{err_from_is_err_and}
use Rattle.std.specs.Option.{is_some}
use Rattle.sc_parse.specs.Trees.{step_of}
use Rattle.sc_parse.proofs.Steps.{reads_both, fails_first, fails_second}
use Rattle.sc_parse.proofs.Parts.{makes}
use Rattle.sc_parse.proofs.reader.Reader.step_up.Goals as goal

pub returns-in_err-mark-clause-cases : goal.returns-in_err-mark-clause-cases
returns-in_err-mark-clause-cases c =
    let p = err_from_is_err_and c.from_residual.result c.from_residual.ensures.1 in
    rw (p.1, p.2) (fails_first (c.in_err-mark.ensures))

pub returns-in_err-name-clause-cases : goal.returns-in_err-name-clause-cases
returns-in_err-name-clause-cases c =
    let p = err_from_is_err_and c.from_residual-in_err-name.result c.from_residual-in_err-name.ensures.1 in
    rw (p.1, p.2) (fails_second c.in_ok-mark.ensures.token.takes.reads (c.in_err-name.ensures))

pub step-made-requires : goal.step-made-requires
step-made-requires c = c.in_ok-mark.ensures.among (λ m. is_some (step_of m)) refl

pub returns-clause-cases : goal.returns-clause-cases
returns-clause-cases c = makes (reads_both c.in_ok-mark.ensures.token.takes.reads (c.in_ok-name.ensures.reads)) (c.step-made.ensures _ c.in_ok-mark.ensures.token.is c.in_ok-mark.ensures.token.stands)
