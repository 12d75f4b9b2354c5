use Rattle.std.specs.Prelude.{flat_map}
use Rattle.sc_hier.proofs.GatherLemmas.{gathers_then, prefix_before, prefix_after, prefix_all}
use Rattle.sc_sched.specs.Text.{region_line}
use Rattle.sc_coarse.proofs.text.push_step.Goals as goal

pub returns-in_err-push-clause-prefix : goal.returns-in_err-push-clause-prefix
returns-in_err-push-clause-prefix g c = prefix_before (flat_map region_line c.args.regions.now) c.push.ensures.prefix

pub returns-in_err-push_regions-clause-prefix : goal.returns-in_err-push_regions-clause-prefix
returns-in_err-push_regions-clause-prefix g c = prefix_after c.in_ok-push.ensures.gathered c.push_regions.ensures.prefix

pub returns-clause-gathered : goal.returns-clause-gathered
returns-clause-gathered g c = gathers_then c.in_ok-push.ensures.gathered c.in_ok-push_regions.ensures.gathered

pub returns-clause-prefix : goal.returns-clause-prefix
returns-clause-prefix g c = prefix_all (returns-clause-gathered g c)
