use Rattle.std.proofs.Common.{ap, Result}
use Rattle.std.proofs.lemmas.Result.{err_from_is_err_and}
use Rattle.sc_flat.specs.Shown.{Prepared}
use Rattle.sc_flat.specs.declared.preparing.PrepFault.{PrepFault}
use Rattle.sc_top.proofs.ExpansionLemmas.{size_why, sized_fits}
use Rattle.sc_top.proofs.StageLemmas.{failed, no_fault, why_stops}
use Rattle.sc_top.proofs.expansion.sized.Goals as goal

abbrev unprepared : PrepFault → Result Prepared PrepFault
unprepared fault = failed Prepared PrepFault fault

pub returns-in_err-tally : goal.returns-in_err-tally
returns-in_err-tally c =
    let p = err_from_is_err_and c.from_residual.result c.from_residual.ensures.1 in rw (p.1, p.2) (why_stops _ _ _ (rw c.ones.ensures at c.in_err-tally.ensures.fault))

pub returns-in-Ok : goal.returns-in-Ok
returns-in-Ok c =
    let within = rw c.ones.ensures at c.in_ok-tally.ensures.within in
    sized_fits c.args.limit c.args.deck within (λ many. no_fault (c.in-Ok.ensures.too_many_wires.1 many)) (λ many. no_fault (c.in-Ok.ensures.too_many_gates.1 many))

pub returns-in-Err : goal.returns-in-Err
returns-in-Err c =
    let within = rw c.ones.ensures at c.in_ok-tally.ensures.within in
    rw c.size_fault.ensures (size_why c.args.limit c.args.deck _ within (λ is. c.in-Err.ensures.too_many_wires.0 (ap unprepared is)) (λ is. c.in-Err.ensures.too_many_gates.0 (ap unprepared is)))
