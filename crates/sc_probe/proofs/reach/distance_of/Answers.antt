use Rattle.std.proofs.Common.{◌≡◌, [], refl, ap, ◌∙◌, sym}
use Rattle.sc_gate.specs.Gates.{operands}
use Rattle.sc_probe.specs.Rules.{qubit_numbers, bounds_of}
use Rattle.sc_probe.proofs.BoundLemmas.{numbers_of_operands, bounds_in_order, spread_within, spread_none}
use Rattle.sc_probe.proofs.reach.distance_of.Goals as goal
use Rattle.sc_probe.proofs.reach.distance_of.Goals.{In-Some}

bounds_are : (c : In-Some) → c.with_wire-3.result ≡ bounds_of (qubit_numbers (operands c.args.gate.now))
bounds_are c = c.with_wire-3.ensures _ (c.with_wire-2.ensures _ (c.with_wire.ensures [] refl)) ∙ ap bounds_of (numbers_of_operands c.args.gate.now)

pub overflow_sub-result : goal.overflow_sub-result
overflow_sub-result c = bounds_in_order (qubit_numbers (operands c.args.gate.now)) c.in-Some.least c.in-Some.greatest (sym c.in-Some.is ∙ bounds_are c)

pub returns-in-Some : goal.returns-in-Some
returns-in-Some c = spread_within (qubit_numbers (operands c.args.gate.now)) c.in-Some.least c.in-Some.greatest (sym c.in-Some.is ∙ bounds_are c)

pub returns-in-None : goal.returns-in-None
returns-in-None c =
    spread_none (qubit_numbers (operands c.args.gate.now))
    (sym c.in-None.is ∙ c.with_wire-3.ensures _ (c.with_wire-2.ensures _ (c.with_wire.ensures [] refl)) ∙ ap bounds_of (numbers_of_operands c.args.gate.now))
