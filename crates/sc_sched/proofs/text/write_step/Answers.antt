use Rattle.sc_base.proofs.OutputLemmas.{wrote_then, prefix_then, prefix_more, prefix_whole}
use Rattle.sc_sched.proofs.text.write_step.Goals as goal

pub returns-in_err-write_all-clause-prefix : goal.returns-in_err-write_all-clause-prefix
returns-in_err-write_all-clause-prefix g c = prefix_more _ c.write_all.ensures.prefix

pub returns-in_err-write_regions-clause-prefix : goal.returns-in_err-write_regions-clause-prefix
returns-in_err-write_regions-clause-prefix g c = prefix_then c.in_ok-write_all.ensures.appended c.write_regions.ensures.prefix

pub returns-clause-appended : goal.returns-clause-appended
returns-clause-appended g c = wrote_then c.in_ok-write_all.ensures.appended c.in_ok-write_regions.ensures.appended

pub returns-clause-prefix : goal.returns-clause-prefix
returns-clause-prefix g c = prefix_whole (wrote_then c.in_ok-write_all.ensures.appended c.in_ok-write_regions.ensures.appended)
