use Rattle.std.proofs.Common.{length, ap, arith}
use Rattle.sc_flat.proofs.BeginLemmas.{some_module}
use Rattle.sc_top.proofs.DeckPaths.{last_counts, last_path}
use Rattle.sc_top.proofs.tallied.summary_of.Goals as goal

pub overflow_sub-last : goal.overflow_sub-last
overflow_sub-last c = omega (arith, some_module c.args.deck.now c.requires.whole, c.len-last.ensures.count)

pub bounds-as_slice-last : goal.bounds-as_slice-last
bounds-as_slice-last c = omega (arith, some_module c.args.deck.now c.requires.whole, c.len-last.ensures.count, c.requires.tally.len, ap length c.as_slice.ensures)

pub returns : goal.returns
returns c =
    let some = some_module c.args.deck.now c.requires.whole in
    record {
      instances = c.len.ensures.count;
      counts = last_counts c.args.tally.now c.args.deck.now c.requires.tally c.as_slice.result.now c.as_slice.ensures c.len-last.result _ some c.len-last.ensures.count;
      critical = last_path c.args.paths.now.tables c.args.tally.now.times c.args.deck.now c.requires.paths some c.critical.result c.critical.ensures;
    }
