use Rattle.sc_base.proofs.OutputLemmas.{wrote_then, prefix_then, prefix_more, prefix_whole}
use Rattle.sc_top.proofs.report.write_report.Goals as goal

pub returns-in_err-write_totals-clause-prefix : goal.returns-in_err-write_totals-clause-prefix
returns-in_err-write_totals-clause-prefix g c = prefix_more _ (prefix_more _ c.write_totals.ensures.prefix)

pub returns-in_err-write_weight-clause-prefix : goal.returns-in_err-write_weight-clause-prefix
returns-in_err-write_weight-clause-prefix g c = prefix_more _ (prefix_then c.in_ok-write_totals.ensures.appended c.write_weight.ensures.prefix)

pub returns-in_err-write_kinds-clause-prefix : goal.returns-in_err-write_kinds-clause-prefix
returns-in_err-write_kinds-clause-prefix g c = prefix_then (wrote_then c.in_ok-write_totals.ensures.appended c.in_ok-write_weight.ensures.appended) c.write_kinds.ensures.prefix

pub returns-clause-appended : goal.returns-clause-appended
returns-clause-appended g c = wrote_then (wrote_then c.in_ok-write_totals.ensures.appended c.in_ok-write_weight.ensures.appended) c.in_ok-write_kinds.ensures.appended

pub returns-clause-prefix : goal.returns-clause-prefix
returns-clause-prefix g c = prefix_whole (wrote_then (wrote_then c.in_ok-write_totals.ensures.appended c.in_ok-write_weight.ensures.appended) c.in_ok-write_kinds.ensures.appended)
