use Rattle.std.proofs.Common.{ap, Result}
use Rattle.sc_count.specs.declared.tally.Tally.{Tally}
use Rattle.sc_count.specs.declared.tally.TallyFault.{TallyFault}
use Rattle.sc_top.proofs.ExpansionLemmas.{counted_why}
use Rattle.sc_top.proofs.StageLemmas.{failed}
use Rattle.sc_top.proofs.tallied.tallied.Goals as goal

abbrev no_tally : TallyFault → Result Tally TallyFault
no_tally fault = failed Tally TallyFault fault

pub returns-in-Err-clause-fault : goal.returns-in-Err-clause-fault
returns-in-Err-clause-fault c = rw c.count_fault.ensures (counted_why c.args.times.now c.args.deck.now _ (λ is. c.in-Err.ensures.too_large (ap no_tally is)))
