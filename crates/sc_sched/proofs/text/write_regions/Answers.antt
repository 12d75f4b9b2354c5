use Rattle.std.proofs.Common.{◌≤◌, ◌∙◌, sym, ap, arith, length}
use Rattle.sc_base.proofs.OutputLemmas.{prefix_whole}
use Rattle.sc_sched.specs.Text.{region_line}
use Rattle.sc_base.proofs.LoopLemmas.{loop_step, loop_fault, loop_done}
use Rattle.sc_sched.proofs.text.write_regions.Goals as goal

pub returns-in_err-write_region-clause-prefix : goal.returns-in_err-write_region-clause-prefix
returns-in_err-write_region-clause-prefix g c =
    loop_fault region_line c.args.step.now c.loop-region.region-index c.region-item.result _ c.loop-region-test.true
    (ap region_line (sym (c.as_slice.ensures ∙ c.region-item.is))) c.loop-region.invariant.written c.write_region.ensures.prefix

pub loop-region-preserved : goal.loop-region-preserved
loop-region-preserved g c = record {
  open_still = c.in_ok-write_region.ensures.«open»;
  later = omega (arith, c.loop-region.invariant.later, c.in_ok-write_region.ensures.cause.later);
  written = loop_step region_line c.args.step.now c.loop-region.region-index c.region-item.result _ c.loop-region-test.true
      (ap region_line (sym (c.as_slice.ensures ∙ c.region-item.is))) c.loop-region.invariant.written c.in_ok-write_region.ensures.appended;
}

pub returns-clause-appended : goal.returns-clause-appended
returns-clause-appended g c =
    let over : length c.args.step.now ≤ c.loop-region.region-index = omega arith in
    loop_done region_line c.args.step.now c.loop-region.region-index over c.loop-region.invariant.written

pub returns-clause-prefix : goal.returns-clause-prefix
returns-clause-prefix g c =
    let over : length c.args.step.now ≤ c.loop-region.region-index = omega arith in
    prefix_whole (loop_done region_line c.args.step.now c.loop-region.region-index over c.loop-region.invariant.written)
