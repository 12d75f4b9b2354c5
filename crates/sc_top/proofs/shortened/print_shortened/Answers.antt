use Rattle.std.proofs.Common.{flat_map}
use Rattle.std.proofs.lemmas.Result.{err_from_is_err_and}
use Rattle.sc_top.specs.Watching.{comment_line}
use Rattle.sc_top.proofs.OtherLemmas.{prints_stops, prints_then}
use Rattle.sc_top.proofs.shortened.print_shortened.Goals as goal

pub returns-in_err-write_kept : goal.returns-in_err-write_kept
returns-in_err-write_kept g c =
    let p = err_from_is_err_and c.from_residual.result c.from_residual.ensures.1 in
    let kept = rw (c.as_slice.ensures, c.as_slice-2.ensures) at c.write_kept.ensures.prefix in
    rw (p.1, p.2, ← c.kept.view_is) (prints_stops (flat_map comment_line c.kept.inside.told) _ c.write_kept.ensures.«open» kept c.write_kept.ensures.cause.later c.in_err-write_kept.ensures.cause.failed)

pub returns : goal.returns
returns g c =
    let kept = rw (c.as_slice.ensures, c.as_slice-2.ensures) at c.in_ok-write_kept.ensures.appended in
    let told = rw c.as_slice-3.ensures at c.print_lines.ensures in
    rw (← c.kept.view_is) (prints_then c.print_lines.result kept c.write_kept.ensures.cause.later told)
