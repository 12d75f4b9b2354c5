use Rattle.std.proofs.Common.{◌+◌, ◌<◌, ℕ, length, get_or, arith, refl, sym, ap, ◌∙◌, subst}
use Rattle.sc_path.specs.Rows.{place, AreBefore}
use Rattle.sc_path.proofs.EndLemmas.{last_next}
use Rattle.sc_path.proofs.RowOrder.{start_place, before_less}
use Rattle.sc_path.proofs.start.last_row.Goals as goal

pub push_kept-requires : goal.push_kept-requires
push_kept-requires c = subst (λ (p : ℕ). AreBefore p c.loop-at.out) (sym (ap place c.start_at.ensures ∙ start_place c.loop-at.at)) c.loop-at.invariant.before

pub loop-at-preserved : goal.loop-at-preserved
loop-at-preserved c =
    let h : c.loop-at.at < length c.args.last.now = omega arith in
    let e = ap place c.start_at.ensures ∙ start_place c.loop-at.at in
    record {
      looks = λ s. last_next c.args.last.now c.loop-at.out c.push_kept.new.out c.loop-at.at (record { start = c.start_at.result; weight = get_or c.args.last.now c.loop-at.at 0 }) s h c.start_at.ensures refl (c.loop-at.invariant.looks s) (c.in-Ok.ensures.kept s);
      before = c.in-Ok.ensures.before (c.loop-at.at + 1) (omega arith) (before_less c.loop-at.at (c.loop-at.at + 1) c.loop-at.out (omega arith) c.loop-at.invariant.before);
      weights = c.in-Ok.ensures.weights c.loop-at.invariant.weights;
    }
