use Rattle.std.proofs.Common.{◌≤◌, ap, sym, subst, length, Result}
use Rattle.std.proofs.lemmas.Result.{err_from_is_err_and}
use Rattle.sc_base.specs.Limits.{most_gates}
use Rattle.sc_flat.specs.Shown.{Prepared}
use Rattle.sc_flat.specs.declared.preparing.PrepFault.{PrepFault}
use Rattle.sc_read.specs.declared.flat.FlatText.{FlatText}
use Rattle.sc_top.proofs.ListLemmas.{listing_why, few_enough}
use Rattle.sc_top.proofs.StageLemmas.{failed, no_fault, why_stops, found_goes}
use Rattle.sc_top.proofs.listed.listed.Goals as goal

abbrev unprepared : PrepFault → Result Prepared PrepFault
unprepared fault = failed Prepared PrepFault fault

pub returns-in_err-tally-clause-list : goal.returns-in_err-tally-clause-list
returns-in_err-tally-clause-list c = let p = err_from_is_err_and c.from_residual.result c.from_residual.ensures.1 in rw (p.1, p.2) (why_stops _ _ _ c.in_err-tally.ensures.fault)

pub returns-in-Err-clause-list : goal.returns-in-Err-clause-list
returns-in-Err-clause-list c =
    rw c.listing_fault.ensures (listing_why c.args.times.now c.args.deck.now _ c.in_ok-tally.ensures.within (λ is. c.in-Err.ensures.too_many_wires.0 (ap unprepared is)) (λ is. c.in-Err.ensures.too_many_gates.0 (ap unprepared is)))

pub list_from-requires : goal.list_from-requires
list_from-requires c = record {
  whole = c.requires;
  tally = c.in_ok-tally.ensures.stands;
  fits = c.in-Ok.ensures.fits;
  wires = λ many. no_fault (c.in-Ok.ensures.too_many_wires.1 many);
}

pub returns-in-Ok-list_from-clause-list : goal.returns-in-Ok-list_from-clause-list
returns-in-Ok-list_from-clause-list c =
    found_goes tt _ c.in_ok-tally.ensures.within
    (found_goes tt _ (λ many. no_fault (c.in-Ok.ensures.too_many_wires.1 many))
    (record { value = (few_enough c.args.deck.now (λ many. no_fault (c.in-Ok.ensures.too_many_wires.1 many)) (λ many. no_fault (c.in-Ok.ensures.too_many_gates.1 many)), c.in-Ok-list_from.ensures.list); fault = tt }))

pub returns-in-Ok-list_from-clause-few : goal.returns-in-Ok-list_from-clause-few
returns-in-Ok-list_from-clause-few c =
    subst (λ (list : FlatText). length list.gates ≤ most_gates) (sym c.in-Ok-list_from.ensures.list)
    (few_enough c.args.deck.now (λ many. no_fault (c.in-Ok.ensures.too_many_wires.1 many)) (λ many. no_fault (c.in-Ok.ensures.too_many_gates.1 many)))
