use Rattle.std.proofs.Common.{ap, List, ◌∷◌}
use Rattle.std.proofs.lemmas.Result.{err_from_is_err_and}
use Rattle.sc_parse.specs.Trees.{Tree, name}
use Rattle.sc_parse.specs.Derives.{decl_is}
use Rattle.sc_parse.proofs.Steps.{reads_sub, reads_both, fails_sub, fails_first, fails_second}
use Rattle.sc_parse.proofs.reader.Reader.decl.Goals as goal

pub returns-in_err-name : goal.returns-in_err-name
returns-in_err-name c =
    let p = err_from_is_err_and c.from_residual.result c.from_residual.ensures.1 in
    rw (p.1, p.2) (fails_sub (fails_first (c.in_err-name.ensures)))

pub returns-in_err-size : goal.returns-in_err-size
returns-in_err-size c =
    let p = err_from_is_err_and c.from_residual-in_err-size.result c.from_residual-in_err-size.ensures.1 in
    rw (p.1, p.2) (fails_sub (fails_second c.in_ok-name.ensures.reads (c.in_err-size.ensures)))

pub returns : goal.returns
returns c = reads_sub (reads_both c.in_ok-name.ensures.reads (c.in_ok-size.ensures.reads)) (decl_is (ap (λ (l : List Tree). name c.in_ok-name.name ∷ l) c.in_ok-size.ensures.same))
