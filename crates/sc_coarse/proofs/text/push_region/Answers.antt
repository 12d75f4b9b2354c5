use Rattle.std.specs.Prelude.{codes}
use Rattle.sc_hier.proofs.GatherLemmas.{gathers_then, prefix_before, prefix_after, prefix_all}
use Rattle.sc_sched.specs.Text.{after_spaces}
use Rattle.sc_coarse.proofs.text.push_region.Goals as goal

pub returns-in_err-push-clause-prefix : goal.returns-in_err-push-clause-prefix
returns-in_err-push-clause-prefix g c = prefix_before (codes "\n") (prefix_before (after_spaces c.args.region.now) c.push.ensures.prefix)

pub returns-in_err-push_positions-clause-prefix : goal.returns-in_err-push_positions-clause-prefix
returns-in_err-push_positions-clause-prefix g c = prefix_before (codes "\n") (prefix_after c.in_ok-push.ensures.gathered c.push_positions.ensures.prefix)

pub returns-in_err-push-2-clause-prefix : goal.returns-in_err-push-2-clause-prefix
returns-in_err-push-2-clause-prefix g c = prefix_after (gathers_then c.in_ok-push.ensures.gathered c.in_ok-push_positions.ensures.gathered) c.push-2.ensures.prefix

pub returns-clause-gathered : goal.returns-clause-gathered
returns-clause-gathered g c = gathers_then (gathers_then c.in_ok-push.ensures.gathered c.in_ok-push_positions.ensures.gathered) c.in_ok-push-2.ensures.gathered

pub returns-clause-prefix : goal.returns-clause-prefix
returns-clause-prefix g c = prefix_all (returns-clause-gathered g c)
