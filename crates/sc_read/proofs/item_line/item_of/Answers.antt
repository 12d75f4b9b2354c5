use Rattle.std.proofs.Common.{ℕ, [], refl, sym, ◌∙◌, subst, true≢false}
use Rattle.sc_deck.specs.Bodies.{wires_of}
use Rattle.sc_read.specs.declared.item_line.Step.{Step}
use Rattle.sc_read.specs.declared.item_line.Step.TheVariants.{Apply}
use Rattle.sc_read.specs.GateFronts.{counts, GateFront}
use Rattle.sc_read.specs.HierFronts.{ReadsStep}
use Rattle.sc_read.proofs.HierHeading.{none_is, some_fact}
use Rattle.sc_read.proofs.HierItems.{gate_step, once_item, fresh_item, repeated_line, no_item, repeat_or_once, one_repeat}
use Rattle.sc_read.proofs.item_line.item_of.Goals as goal
use Rattle.sc_read.proofs.item_line.item_of.Goals.{then-turns+in_default-take_turns, else-turns}

pub returns-in-Some-clause-some : goal.returns-in-Some-clause-some
returns-in-Some-clause-some c =
    let read = c.in-Some.ensures (wires_of c.args.body.now).cbits in
    once_item c.args.turns c.args.deck.now (wires_of c.args.body.now) c.args.line.now (Apply c.in-Some.gate)
    (gate_step c.args.deck.now (wires_of c.args.body.now).qubits (wires_of c.args.body.now).cbits c.args.line.now c.in-Some.gate []
    (subst (λ (z : ℕ). GateFront (counts z (wires_of c.args.body.now).cbits) c.args.line.now c.in-Some.gate []) c.count.ensures read) refl)

pub returns-in-Some-fresh_of-clause-some : goal.returns-in-Some-fresh_of-clause-some
returns-in-Some-fresh_of-clause-some c = fresh_item c.args.turns c.args.deck.now (wires_of c.args.body.now) c.args.line.now c.in-Some-fresh_of.class c.in-Some-fresh_of.count c.in-Some-fresh_of.ensures.some

pub returns-in-Some-2-clause-some : goal.returns-in-Some-2-clause-some
returns-in-Some-2-clause-some c =
    repeated_line c.args.turns c.args.deck.now (wires_of c.args.body.now) c.args.line.now c.in-Some-take_turns.rest.now c.in-Some-take_turns.count c.in-Some-2.step c.if-turns.true
    c.in-Some-take_turns.ensures.some c.in-Some-take_turns.ensures.turns.0 c.in-Some-take_turns.ensures.turns.1
    (some_fact c.in_ok-step.field-0 c.in-Some-2.step (λ (z : Step). ReadsStep c.args.deck.now (wires_of c.args.body.now) c.in-Some-take_turns.rest.now z) c.in-Some-2.is c.in_ok-step.ensures.some)

pub returns-in-None-clause-none : goal.returns-in-None-clause-none
returns-in-None-clause-none c =
    no_item c.args.turns c.args.deck.now (wires_of c.args.body.now) c.args.line.now c.in_default-fresh_of.ensures.none
    (repeat_or_once c.args.deck.now (wires_of c.args.body.now) c.args.line.now c.in-Some-take_turns.rest.now c.in-Some-take_turns.count c.in-Some-take_turns.ensures.some)
    (λ n rest step on two small is p. none_is c.in_ok-step.field-0 _ c.in-None.is c.in_ok-step.ensures.none step
    (subst (λ z. ReadsStep c.args.deck.now (wires_of c.args.body.now) z step)
    (sym (one_repeat c.args.line.now c.in-Some-take_turns.rest.now rest c.in-Some-take_turns.count n c.in-Some-take_turns.ensures.turns.1 small c.in-Some-take_turns.ensures.some is)) p))

pub returns-in-None-2-clause-none : goal.returns-in-None-2-clause-none
returns-in-None-2-clause-none c =
    no_item c.args.turns c.args.deck.now (wires_of c.args.body.now) c.args.line.now c.in_default-fresh_of.ensures.none
    (none_is c.in_ok-step-2.field-0 _ c.in-None-2.is c.in_ok-step-2.ensures.none)
    (λ n rest step on two small is p. elim c.if-turns.branch [
      | then-turns+in_default-take_turns w ↦ w.in_default-take_turns.ensures.none n rest two small is
      | else-turns w ↦ true≢false (sym on ∙ w.if-turns.false)
    ])
