use Rattle.std.proofs.Common.{◌<◌, length, sym, subst}
use Rattle.sc_count.specs.Limits.{IsSoundSoFar}
use Rattle.sc_count.proofs.CalleeCounts.{HasTurns}
use Rattle.sc_count.proofs.CallerCounts.{refused-there}
use Rattle.sc_count.proofs.ItemLemmas.{if-none, all-read, callees-read, counted-more}
use Rattle.sc_count.proofs.SoundCounts.{item-sound}
use Rattle.sc_count.proofs.running.count_items.Goals as goal

pub add_item-requires-clause-callees : goal.add_item-requires-clause-callees
add_item-requires-clause-callees c =
    callees-read (λ j. j < length c.args.callees.now) c.args.items.now c.loop-item.item-index c.item-item.result c.requires.callees c.loop-item-test.true c.item-item.is

pub returns-in_err-add_item-clause-none : goal.returns-in_err-add_item-clause-none
returns-in_err-add_item-clause-none c =
    if-none c.from_residual.result
    (refused-there c.args.times.now c.args.callees.now c.args.items.now c.loop-item.item-index c.loop-item.running c.item-item.result c.loop-item-test.true c.item-item.is c.loop-item.invariant.counted c.in_err-add_item.ensures.none)

pub loop-item-preserved : goal.loop-item-preserved
loop-item-preserved c = record {
  counted = counted-more c.args.times.now c.args.callees.now c.args.items.now c.loop-item.item-index c.loop-item.running c.add_item.new.self c.item-item.result c.loop-item-test.true c.item-item.is c.loop-item.invariant.counted c.in_ok-add_item.ensures.some;
  sound =
      subst IsSoundSoFar (sym c.in_ok-add_item.ensures.some)
      (item-sound c.args.times.now c.args.callees.now c.requires.sound c.loop-item.running c.item-item.result (all-read HasTurns c.args.items.now c.loop-item.item-index c.item-item.result c.requires.turns c.loop-item-test.true c.item-item.is) c.loop-item.invariant.sound);
}
