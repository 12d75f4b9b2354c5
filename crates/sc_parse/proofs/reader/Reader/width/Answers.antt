use Rattle.std.proofs.Common.{rules, FitsSigned, w64}
use Rattle.std.proofs.lemmas.Int.{to_z-of_z}
use Rattle.std.proofs.lemmas.Result.{err_from_is_err_and}
use Rattle.sc_parse.specs.Derives.{width_is}
use Rattle.sc_parse.proofs.Forget.{fits_of}
use Rattle.sc_parse.proofs.Sorts.{int_sort}
use Rattle.sc_parse.proofs.Steps.{fails_sub, takes_sub}
use Rattle.sc_parse.proofs.reader.Reader.width.Goals as goal

pub returns-in_err-token : goal.returns-in_err-token
returns-in_err-token c =
    let p = err_from_is_err_and c.from_residual.result c.from_residual.ensures.1 in
    rw (p.1, p.2) (fails_sub c.in_err-token.ensures)

pub unreachable-requires : goal.unreachable-requires
unreachable-requires c =
    let n = int_sort _ _ (fits_of c.in_ok-token.ensures.0.reads.derives) in
    c.in_default.not-Int n.0 n.1

pub returns : goal.returns
returns c =
    let fits : FitsSigned w64 c.in-Int.value = search rules in
    rw (to_z-of_z w64 c.in-Int.value fits) (takes_sub c.in_ok-token.ensures.0 (width_is c.in-Int.is))
