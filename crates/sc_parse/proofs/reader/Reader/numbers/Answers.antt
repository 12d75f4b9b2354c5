use Rattle.std.proofs.Common.{ap, List, ◌∷◌}
use Rattle.std.proofs.lemmas.Result.{err_from_is_err_and}
use Rattle.sc_parse.specs.Trees.{Tree, num}
use Rattle.sc_parse.proofs.Steps.{reads_both, fails_first, fails_second}
use Rattle.sc_parse.proofs.reader.Reader.numbers.Goals as goal

pub returns-in_err-sort-clause-cases : goal.returns-in_err-sort-clause-cases
returns-in_err-sort-clause-cases c =
    let p = err_from_is_err_and c.from_residual.result c.from_residual.ensures.1 in
    rw (p.1, p.2) (fails_first (c.in_err-sort.ensures))

pub returns-in_err-inits-clause-cases : goal.returns-in_err-inits-clause-cases
returns-in_err-inits-clause-cases c =
    let p = err_from_is_err_and c.from_residual-in_err-inits.result c.from_residual-in_err-inits.ensures.1 in
    rw (p.1, p.2) (fails_second c.in_ok-sort.ensures.reads (c.in_err-inits.ensures))

pub returns-clause-cases : goal.returns-clause-cases
returns-clause-cases c = record { parts = num c.in_ok-sort.sort c.in_ok-sort.place ∷ c.in_ok-inits.ensures.parts; reads = reads_both c.in_ok-sort.ensures.reads c.in_ok-inits.ensures.reads; same = ap (λ (l : List Tree). num c.in_ok-sort.sort c.in_ok-sort.place ∷ l) c.in_ok-inits.ensures.same }
