use Rattle.std.proofs.Common.{map}
use Rattle.sc_deck.specs.Entries.{height_in, reach_in}
use Rattle.sc_deck.proofs.CalleeLemmas.{called_more}
use Rattle.sc_deck.proofs.deck.called_by_all.Goals as goal

pub loop-item-preserved : goal.loop-item-preserved
loop-item-preserved c =
    let heights = called_more (map height_in c.args.entries.now.entries) c.args.items.now c.loop-item.item-index c.item-item.result c.loop-item-test.true c.item-item.is in
    let reaches = called_more (map reach_in c.args.entries.now.entries) c.args.items.now c.loop-item.item-index c.item-item.result c.loop-item-test.true c.item-item.is in
    record { height = cc; reach = cc }
