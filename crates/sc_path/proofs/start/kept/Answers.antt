use Rattle.std.proofs.Common.{◌<◌, length, arith, None}
use Rattle.sc_path.specs.declared.row.Entry.{Entry}
use Rattle.sc_path.proofs.EndLemmas.{kept_next}
use Rattle.sc_path.proofs.RowOrder.{before_at, before_rest}
use Rattle.sc_path.proofs.start.kept.Goals as goal

abbrev no_entry : Entry
no_entry = record { start = None; weight = 0 }

pub push_kept-requires : goal.push_kept-requires
push_kept-requires c = before_at c.loop-entry.out c.args.row.now c.loop-entry.entry-index no_entry (omega arith) c.loop-entry.invariant.before

pub loop-entry-preserved : goal.loop-entry-preserved
loop-entry-preserved c =
    let h : c.loop-entry.entry-index < length c.args.row.now = omega arith in
    record {
      looks = λ s. kept_next c.args.row.now c.loop-entry.out c.push_kept.new.out c.loop-entry.entry-index no_entry s h (c.loop-entry.invariant.looks s) (c.in-Ok.ensures.kept s);
      before = before_rest c.loop-entry.out c.push_kept.new.out c.args.row.now c.loop-entry.entry-index no_entry h c.requires c.in-Ok.ensures.before c.loop-entry.invariant.before;
      weights = c.in-Ok.ensures.weights c.loop-entry.invariant.weights;
    }
