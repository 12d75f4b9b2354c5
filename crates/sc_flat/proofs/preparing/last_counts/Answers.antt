use Rattle.std.proofs.Common.{length, ap, arith}
use Rattle.sc_flat.proofs.BeginLemmas.{some_module}
use Rattle.sc_flat.proofs.SizeLemmas.{last_count}
use Rattle.sc_flat.proofs.preparing.last_counts.Goals as goal

pub overflow_sub-last : goal.overflow_sub-last
overflow_sub-last c = omega (arith, some_module c.args.deck.now c.requires.whole, c.len-last.ensures.count)

pub bounds-as_slice-last : goal.bounds-as_slice-last
bounds-as_slice-last c = omega (arith, some_module c.args.deck.now c.requires.whole, c.len-last.ensures.count, c.requires.tally.len, ap length c.as_slice.ensures)

pub returns : goal.returns
returns c =
    let last = last_count c.args.tally.now c.args.deck.now c.requires.tally c.as_slice.result.now c.as_slice.ensures c.len-last.result _ (some_module c.args.deck.now c.requires.whole) c.len-last.ensures.count in
    record { deck = c.len-last.ensures.sound; gates = last.gates; qubits = last.qubits; cbits = last.cbits }
