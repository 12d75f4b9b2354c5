use Rattle.std.proofs.Common.{◌<◌, length, arith, None}
use Rattle.sc_path.proofs.Rows.{look_next}
use Rattle.sc_path.proofs.table.weight_of.Goals as goal

pub loop-entry-preserved : goal.loop-entry-preserved
loop-entry-preserved c =
    let h : c.loop-entry.entry-index < length c.args.row.now = omega arith in
    look_next c.args.row.now c.loop-entry.entry-index (record { start = None; weight = 0 }) c.args.start c.loop-entry.found c.found_with-found.result h c.loop-entry.invariant c.found_with-found.ensures
