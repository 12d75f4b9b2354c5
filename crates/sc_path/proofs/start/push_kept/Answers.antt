use Rattle.std.proofs.Common.{◌<◌, List, sym, subst, ap, ◌∙◌, arith}
use Rattle.sc_path.specs.declared.row.Entry.{Entry}
use Rattle.sc_path.specs.Rows.{look, AreBefore, HaveWeights}
use Rattle.sc_path.proofs.EndLemmas.{kept_one}
use Rattle.sc_path.proofs.Gate.{on_ok}
use Rattle.sc_path.proofs.RowOrder.{before_push, weights_push}
use Rattle.sc_path.proofs.start.push_kept.Goals as goal

pub returns-clause-kept : goal.returns-clause-kept
returns-clause-kept c = on_ok c.push.result c.push.ensures.ok (λ e s. ap (λ (x : List Entry). look x s) e ∙ kept_one c.args.out.now c.args.entry s (omega arith))

pub returns-clause-before : goal.returns-clause-before
returns-clause-before c = on_ok c.push.result c.push.ensures.ok (λ e p h b. subst (AreBefore p) (sym e) (before_push p c.args.out.now c.args.entry h b))

pub returns-clause-weights : goal.returns-clause-weights
returns-clause-weights c = on_ok c.push.result c.push.ensures.ok (λ e w. let h : 0 < c.args.entry.weight = omega arith in subst HaveWeights (sym e) (weights_push c.args.out.now c.args.entry h w))
