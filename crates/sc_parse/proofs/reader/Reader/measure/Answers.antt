use Rattle.std.proofs.Common.{◌∙◌, ap, List, ◌∷◌}
use Rattle.std.proofs.lemmas.Result.{err_from_is_err_and}
use Rattle.sc_parse.specs.Trees.{Tree, name}
use Rattle.sc_parse.specs.Derives.{meas_is}
use Rattle.sc_parse.proofs.Forget.{fits_of}
use Rattle.sc_parse.proofs.Sorts.{measuring_sort}
use Rattle.sc_parse.proofs.Steps.{reads_sub, reads_both, fails_sub, fails_first, fails_second}
use Rattle.sc_parse.proofs.Parts.{kept_end, measuring_gate}
use Rattle.sc_parse.proofs.reader.Reader.measure.Goals as goal

pub returns-in_err-token : goal.returns-in_err-token
returns-in_err-token c =
    let p = err_from_is_err_and c.from_residual.result c.from_residual.ensures.1 in
    rw (p.1, p.2) (fails_sub (fails_first (c.in_err-token.ensures)))

pub returns-in_err-mark : goal.returns-in_err-mark
returns-in_err-mark c =
    let p = err_from_is_err_and c.from_residual-in_err-mark.result c.from_residual-in_err-mark.ensures.1 in
    rw (p.1, p.2) (fails_sub (fails_second c.in_ok-token.ensures.0.reads (fails_first (c.in_err-mark.ensures))))

pub returns-in_err-name : goal.returns-in_err-name
returns-in_err-name c =
    let p = err_from_is_err_and c.from_residual-in_err-name.result c.from_residual-in_err-name.ensures.1 in
    rw (p.1, p.2) (fails_sub (fails_second c.in_ok-token.ensures.0.reads (fails_second c.in_ok-mark.ensures.takes.reads (fails_first (c.in_err-name.ensures)))))

pub returns-in_err-index : goal.returns-in_err-index
returns-in_err-index c =
    let p = err_from_is_err_and c.from_residual-in_err-index.result c.from_residual-in_err-index.ensures.1 in
    rw (p.1, p.2) (fails_sub (fails_second c.in_ok-token.ensures.0.reads (fails_second c.in_ok-mark.ensures.takes.reads (fails_second c.in_ok-name.ensures.reads (fails_first (c.in_err-index.ensures))))))

pub returns-in_err-mark-2 : goal.returns-in_err-mark-2
returns-in_err-mark-2 c =
    let p = err_from_is_err_and c.from_residual-in_err-mark-2.result c.from_residual-in_err-mark-2.ensures.1 in
    rw (p.1, p.2) (fails_sub (fails_second c.in_ok-token.ensures.0.reads (fails_second c.in_ok-mark.ensures.takes.reads (fails_second c.in_ok-name.ensures.reads (fails_second c.in_ok-index.ensures.reads (c.in_err-mark-2.ensures))))))

pub unreachable-requires : goal.unreachable-requires
unreachable-requires c = let g = measuring_sort _ _ (fits_of c.in_ok-token.ensures.0.reads.derives) in c.in_default.not-Gate g.0 g.1

pub returns : goal.returns
returns c = reads_sub (reads_both c.in_ok-token.ensures.0.reads (reads_both c.in_ok-mark.ensures.takes.reads (reads_both c.in_ok-name.ensures.reads (reads_both c.in_ok-index.ensures.reads (c.in_ok-mark-2.ensures.takes.reads))))) (meas_is c.in-Gate.is (measuring_gate _ _ c.in-Gate.gate c.in-Gate.is (fits_of c.in_ok-token.ensures.0.reads.derives)) (ap (λ (l : List Tree). name c.in_ok-name.name ∷ l) (kept_end c.in_ok-index.ensures.parts c.in_ok-mark-2.ensures.it ∙ c.in_ok-index.ensures.same)))
