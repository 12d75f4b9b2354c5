use Rattle.std.proofs.Common.{length, ap, sym, subst, arith}
use Rattle.sc_deck.proofs.FormedLaws.{gates_of-formed}
use Rattle.sc_flat.proofs.BeginLemmas.{some_module}
use Rattle.sc_gate.specs.Gates.{AreWellFormed}
use Rattle.sc_top.proofs.listed.list_from.Goals as goal

pub overflow_sub-last : goal.overflow_sub-last
overflow_sub-last c = omega (arith, some_module c.args.deck.now c.requires.whole, c.len-last.ensures.count)

pub bounds-as_slice-last : goal.bounds-as_slice-last
bounds-as_slice-last c = omega (arith, some_module c.args.deck.now c.requires.whole, c.len-last.ensures.count, c.requires.tally.len, ap length c.as_slice.ensures)

pub returns-clause-well_formed : goal.returns-clause-well_formed
returns-clause-well_formed c = subst AreWellFormed (sym c.in_ok-gates.ensures.gates) (gates_of-formed c.args.deck.now c.len-last.ensures.sound c.requires.whole)
