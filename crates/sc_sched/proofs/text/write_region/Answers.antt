use Rattle.std.specs.Prelude.{codes}
use Rattle.sc_base.proofs.OutputLemmas.{wrote_then, prefix_then, prefix_more, prefix_whole}
use Rattle.sc_sched.specs.Text.{after_spaces}
use Rattle.sc_sched.proofs.text.write_region.Goals as goal

pub returns-in_err-write_all-clause-prefix : goal.returns-in_err-write_all-clause-prefix
returns-in_err-write_all-clause-prefix g c = prefix_more (codes "\n") (prefix_more (after_spaces c.args.region.now) c.write_all.ensures.prefix)

pub returns-in_err-write_positions-clause-prefix : goal.returns-in_err-write_positions-clause-prefix
returns-in_err-write_positions-clause-prefix g c = prefix_more (codes "\n") (prefix_then c.in_ok-write_all.ensures.appended c.write_positions.ensures.prefix)

pub returns-in_err-write_all-2-clause-prefix : goal.returns-in_err-write_all-2-clause-prefix
returns-in_err-write_all-2-clause-prefix g c = prefix_then (wrote_then c.in_ok-write_all.ensures.appended c.in_ok-write_positions.ensures.appended) c.write_all-2.ensures.prefix

pub returns-clause-appended : goal.returns-clause-appended
returns-clause-appended g c = wrote_then (wrote_then c.in_ok-write_all.ensures.appended c.in_ok-write_positions.ensures.appended) c.in_ok-write_all-2.ensures.appended

pub returns-clause-prefix : goal.returns-clause-prefix
returns-clause-prefix g c = prefix_whole (wrote_then (wrote_then c.in_ok-write_all.ensures.appended c.in_ok-write_positions.ensures.appended) c.in_ok-write_all-2.ensures.appended)
