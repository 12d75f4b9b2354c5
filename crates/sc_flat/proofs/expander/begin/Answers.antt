use Rattle.std.proofs.Common.{◌-◌, get_or, arith}
use Rattle.sc_flat.specs.declared.size.Size.{Size}
use Rattle.sc_flat.proofs.BeginLemmas.{at_front, some_module, last_size, last_within}
use Rattle.sc_flat.proofs.expander.begin.Goals as goal

pub overflow_sub-last : goal.overflow_sub-last
overflow_sub-last c = omega (arith, some_module c.args.deck.now c.requires.whole, c.len-last.ensures.count)

pub bounds-sizes-last : goal.bounds-sizes-last
bounds-sizes-last c = last_within c.args.deck.now c.requires.whole c.args.sizes.now c.requires.sizes c.len-last.result c.len-last.ensures.count

pub returns : goal.returns
returns c =
    let none : Size = record { gates = 0; qubits = 0; cbits = 0 } in
    let size : Size = get_or c.args.sizes.now (c.len-last.result - 1) none in
    let is = last_size c.args.deck.now c.requires.whole c.args.sizes.now c.requires.sizes c.len-last.result none c.len-last.ensures.count in
    let front = at_front c.args.deck.now c.len-last.ensures.sound c.requires.whole c.args.sizes.now c.requires.sizes c.args.walk.now c.start.new.self c.len-last.result size c.len-last.ensures.count c.start.ensures
    c.requires.room c.requires.depth is c.size_has_range.ensures.qubits c.size_has_range.ensures.cbits in
    record { deck = c.len-last.ensures.sound; size = is; kept = front.kept; gates = front.gates; room = front.room; depth = front.depth }
