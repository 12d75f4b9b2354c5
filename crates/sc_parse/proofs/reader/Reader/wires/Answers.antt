use Rattle.std.proofs.Common.{◌∙◌, ap, List, ◌∷◌}
use Rattle.std.proofs.lemmas.Result.{err_from_is_err_and}
use Rattle.sc_parse.specs.Trees.{Tree, wire}
use Rattle.sc_parse.specs.Derives.{wires_is}
use Rattle.sc_parse.proofs.Steps.{reads_both, fails_first, fails_second}
use Rattle.sc_parse.proofs.Parts.{makes, kept_end}
use Rattle.sc_parse.proofs.reader.Reader.wires.Goals as goal

pub returns-in_err-class-clause-cases : goal.returns-in_err-class-clause-cases
returns-in_err-class-clause-cases c =
    let p = err_from_is_err_and c.from_residual.result c.from_residual.ensures.1 in
    rw (p.1, p.2) (fails_first (fails_first (c.in_err-class.ensures)))

pub returns-in_err-decls-clause-cases : goal.returns-in_err-decls-clause-cases
returns-in_err-decls-clause-cases c =
    let p = err_from_is_err_and c.from_residual-in_err-decls.result c.from_residual-in_err-decls.ensures.1 in
    rw (p.1, p.2) (fails_first (fails_second c.in_ok-class.ensures.reads (c.in_err-decls.ensures)))

pub returns-in_err-mark-clause-cases : goal.returns-in_err-mark-clause-cases
returns-in_err-mark-clause-cases c =
    let p = err_from_is_err_and c.from_residual-in_err-mark.result c.from_residual-in_err-mark.ensures.1 in
    rw (p.1, p.2) (fails_second (reads_both c.in_ok-class.ensures.reads c.in_ok-decls.ensures.reads) (c.in_err-mark.ensures))

pub returns-clause-cases : goal.returns-clause-cases
returns-clause-cases c = makes (reads_both (reads_both c.in_ok-class.ensures.reads c.in_ok-decls.ensures.reads) c.in_ok-mark.ensures.takes.reads) (wires_is (ap (λ (l : List Tree). wire c.in_ok-class.class c.in_ok-class.place ∷ l) (kept_end c.in_ok-decls.ensures.parts c.in_ok-mark.ensures.it ∙ c.in_ok-decls.ensures.same)))
