use Rattle.sc_base.proofs.OutputLemmas.{wrote_then, prefix_then, prefix_more, prefix_whole}
use Rattle.sc_sched.proofs.text.write_schedule.Goals as goal

pub returns-in_err-write_head-clause-prefix : goal.returns-in_err-write_head-clause-prefix
returns-in_err-write_head-clause-prefix g c = prefix_more _ (prefix_more _ c.write_head.ensures.prefix)

pub returns-in_err-write_steps-clause-prefix : goal.returns-in_err-write_steps-clause-prefix
returns-in_err-write_steps-clause-prefix g c = prefix_more _ (prefix_then c.in_ok-write_head.ensures.appended (rw c.as_slice.ensures at c.write_steps.ensures.prefix))

pub returns-in_err-write_all-clause-prefix : goal.returns-in_err-write_all-clause-prefix
returns-in_err-write_all-clause-prefix g c = prefix_then (wrote_then c.in_ok-write_head.ensures.appended (rw c.as_slice.ensures at c.in_ok-write_steps.ensures.appended)) c.write_all.ensures.prefix

pub returns-clause-appended : goal.returns-clause-appended
returns-clause-appended g c = wrote_then (wrote_then c.in_ok-write_head.ensures.appended (rw c.as_slice.ensures at c.in_ok-write_steps.ensures.appended)) c.in_ok-write_all.ensures.appended

pub returns-clause-prefix : goal.returns-clause-prefix
returns-clause-prefix g c = prefix_whole (wrote_then (wrote_then c.in_ok-write_head.ensures.appended (rw c.as_slice.ensures at c.in_ok-write_steps.ensures.appended)) c.in_ok-write_all.ensures.appended)
