use Rattle.std.proofs.Common.{ap, Result}
use Rattle.sc_coarse.specs.declared.coarse.Coarse.{Coarse}
use Rattle.sc_coarse.specs.declared.make.CoarseFault.{CoarseFault}
use Rattle.sc_top.proofs.CoarseLemmas.{coarse_why, not_so}
use Rattle.sc_top.proofs.StageLemmas.{failed, no_fault, found_goes}
use Rattle.sc_top.proofs.coarsened.coarse_by.Goals as goal

abbrev unmade : CoarseFault → Result Coarse CoarseFault
unmade fault = failed Coarse CoarseFault fault

pub returns-in-Ok-clause-coarse : goal.returns-in-Ok-clause-coarse
returns-in-Ok-clause-coarse g c =
    let s = c.in-Ok.ensures in
    found_goes tt _ (not_so _ (λ large. no_fault (s.too_large.1 large)))
    (found_goes tt _ s.room (record { value = record { many = s.many; rule = s.rule; length = s.length }; fault = tt }))

pub returns-in-Err-clause-coarse : goal.returns-in-Err-clause-coarse
returns-in-Err-clause-coarse g c =
    rw c.coarse_fault.ensures
    (coarse_why _ c.args.k c.args.d c.args.deck.now _ (λ is. c.in-Err.ensures.too_large.0 (ap unmade is)) (λ i x is. (c.in-Err.ensures.narrow i x).0 (ap unmade is)))
