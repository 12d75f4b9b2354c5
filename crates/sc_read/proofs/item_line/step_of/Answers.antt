use Rattle.std.proofs.Common.{◌<◌, [], length, arith, rules}
use Rattle.std.proofs.lemmas.Bool.Decides.{nat_tests}
use Rattle.sc_gate.specs.declared.gate.Gate.{Gate}
use Rattle.sc_deck.specs.Bodies.{wires_of}
use Rattle.sc_read.specs.GateFronts.{counts, GateFront}
use Rattle.sc_read.proofs.HierItems.{no_step_of, other_gate_rest}
use Rattle.sc_read.proofs.item_line.step_of.Goals as goal
use Rattle.sc_read.proofs.item_line.step_of.Goals.{in_default-take_gate-via-in-Some-take_gate+else-is_empty, in_default-take_gate-via-in_default-take_gate}

pub returns-in_default-take_gate-clause-none : goal.returns-in_default-take_gate-clause-none
returns-in_default-take_gate-clause-none c =
    let none : (g : Gate) → GateFront (counts c.count.result c.count-2.result) c.args.line.now g [] → ⊥ = elim c.in_default-take_gate.branch [
      | in_default-take_gate-via-in-Some-take_gate+else-is_empty w ↦
          let some : 0 < length w.in-Some-take_gate.rest.now = first_of (grind (arith, nat_tests), search rules) in
          other_gate_rest c.count.result c.count-2.result c.args.line.now w.in-Some-take_gate.gate w.in-Some-take_gate.rest.now w.in-Some-take_gate.ensures.some some
      | in_default-take_gate-via-in_default-take_gate w ↦ λ g p. w.in_default-take_gate.ensures.none g [] p
    ] in
    no_step_of c.args.deck.now (wires_of c.args.body.now) c.count.result c.count-2.result c.args.line.now c.count.ensures c.count-2.ensures (omega arith) (omega arith) c.in_default.ensures.none none
