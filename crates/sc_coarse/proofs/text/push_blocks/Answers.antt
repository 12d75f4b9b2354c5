use Rattle.std.proofs.Common.{◌≤◌, ap, length, sym, arith}
use Rattle.sc_coarse.specs.CoarseText.{block_text}
use Rattle.sc_hier.proofs.GatherLemmas.{gathers_step, gathers_fault, gathers_done, prefix_all}
use Rattle.sc_coarse.proofs.text.push_blocks.Goals as goal

pub returns-in_err-push_block-clause-prefix : goal.returns-in_err-push_block-clause-prefix
returns-in_err-push_block-clause-prefix g c =
    gathers_fault block_text c.args.blocks.now c.loop-block.block-index _ _ c.loop-block-test.true (ap block_text (sym c.block-item.is))
    c.loop-block.invariant.gathered c.push_block.ensures.prefix

pub loop-block-preserved : goal.loop-block-preserved
loop-block-preserved g c = record {
  open_still = c.in_ok-push_block.ensures.«open»;
  later = omega (arith, c.loop-block.invariant.later, c.in_ok-push_block.ensures.cause.later);
  gathered = gathers_step block_text c.args.blocks.now c.loop-block.block-index _ _ c.loop-block-test.true (ap block_text (sym c.block-item.is))
      c.loop-block.invariant.gathered c.in_ok-push_block.ensures.gathered;
}

pub returns-clause-gathered : goal.returns-clause-gathered
returns-clause-gathered g c =
    let over : length c.args.blocks.now ≤ c.loop-block.block-index = omega arith in
    gathers_done block_text c.args.blocks.now c.loop-block.block-index over c.loop-block.invariant.gathered

pub returns-clause-prefix : goal.returns-clause-prefix
returns-clause-prefix g c = prefix_all (returns-clause-gathered g c)
