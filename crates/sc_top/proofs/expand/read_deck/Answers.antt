use Rattle.sc_top.specs.Fault.{hier_refusal}
use Rattle.sc_top.proofs.StageLemmas.{gives_fault}
use Rattle.sc_top.proofs.expand.read_deck.Goals as goal

pub returns-in-Err-clause-deck : goal.returns-in-Err-clause-deck
returns-in-Err-clause-deck c = rw c.hier_fault.ensures (gives_fault hier_refusal _ c.in-Err.ensures.fault)
