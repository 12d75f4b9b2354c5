use Rattle.std.proofs.Common.{◌≤◌, ◌∙◌, ap, length, sym, arith}
use Rattle.sc_sched.specs.Text.{region_line}
use Rattle.sc_hier.proofs.GatherLemmas.{gathers_step, gathers_fault, gathers_done, prefix_all}
use Rattle.sc_coarse.proofs.text.push_regions.Goals as goal

pub returns-in_err-push_region-clause-prefix : goal.returns-in_err-push_region-clause-prefix
returns-in_err-push_region-clause-prefix g c =
    gathers_fault region_line c.args.regions.now c.loop-region.region-index _ _ c.loop-region-test.true (ap region_line (sym (c.as_slice.ensures ∙ c.region-item.is)))
    c.loop-region.invariant.gathered c.push_region.ensures.prefix

pub loop-region-preserved : goal.loop-region-preserved
loop-region-preserved g c = record {
  open_still = c.in_ok-push_region.ensures.«open»;
  later = omega (arith, c.loop-region.invariant.later, c.in_ok-push_region.ensures.cause.later);
  gathered = gathers_step region_line c.args.regions.now c.loop-region.region-index _ _ c.loop-region-test.true (ap region_line (sym (c.as_slice.ensures ∙ c.region-item.is)))
      c.loop-region.invariant.gathered c.in_ok-push_region.ensures.gathered;
}

pub returns-clause-gathered : goal.returns-clause-gathered
returns-clause-gathered g c =
    let over : length c.args.regions.now ≤ c.loop-region.region-index = omega arith in
    gathers_done region_line c.args.regions.now c.loop-region.region-index over c.loop-region.invariant.gathered

pub returns-clause-prefix : goal.returns-clause-prefix
returns-clause-prefix g c = prefix_all (returns-clause-gathered g c)
