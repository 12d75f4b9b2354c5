use Rattle.std.proofs.Common.{[], ◌∷◌, ◌++◌, ◌∙◌, refl, arith}
use Rattle.sc_gate.specs.Lines.{gate_lines}
use Rattle.sc_base.proofs.OutputLemmas.{wrote_then, wrote_nothing, wrote_as}
use Rattle.sc_deck.specs.Events.{gates_in}
use Rattle.sc_flat.specs.Walks.{rest}
use Rattle.sc_flat.proofs.WriteLemmas.{shown_more, lines_push, left_more, broke_gate}
use Rattle.sc_flat.proofs.expander.write_gates.Goals as goal

pub loop-gate-init : goal.loop-gate-init
loop-gate-init g c = record {
  kept = c.requires.kept;
  room = refl;
  depth = refl;
  open_still = c.requires.open;
  later = omega arith;
  seen = [];
  gates = refl;
  written = wrote_nothing _ _ _;
  rules = refl;
  states = refl;
}

pub loop-gate-preserved : goal.loop-gate-preserved
loop-gate-preserved g c = record {
  kept = c.next_gate.ensures.kept;
  room = c.next_gate.ensures.room ∙ c.loop-gate.invariant.room;
  depth = c.next_gate.ensures.depth ∙ c.loop-gate.invariant.depth;
  open_still = c.write_gate.ensures.open;
  later = omega (arith, c.loop-gate.invariant.later, c.write_gate.ensures.cause.later);
  seen = c.loop-gate.invariant.seen ++ c.in-Some.gate ∷ [];
  gates = left_more _ c.loop-gate.invariant.seen (gates_in (rest c.args.deck.now c.loop-gate.walk)) (gates_in (rest c.args.deck.now c.next_gate.new.self)) c.in-Some.gate c.loop-gate.invariant.gates c.in-Some.ensures.some;
  written = wrote_as (gate_lines (c.loop-gate.invariant.seen ++ c.in-Some.gate ∷ [])) (lines_push c.loop-gate.invariant.seen c.in-Some.gate) (wrote_then c.loop-gate.invariant.written c.in_ok-write_gate.ensures.appended);
  rules = c.show.ensures.rules ∙ c.loop-gate.invariant.rules;
  states = shown_more _ _ c.loop-gate.invariant.seen c.in-Some.gate c.loop-gate.probes c.show.new.probes c.args.probes.now c.loop-gate.invariant.rules c.loop-gate.invariant.states c.show.ensures.states;
}

pub returns-in_err-write_gate-clause-broke_off : goal.returns-in_err-write_gate-clause-broke_off
returns-in_err-write_gate-clause-broke_off g c =
    broke_gate _ _ _ _ _ _ _ _ _ _ _ c.loop-gate.invariant.seen (gates_in (rest c.args.deck.now c.loop-gate.walk)) (gates_in (rest c.args.deck.now c.next_gate.new.self)) c.in-Some.gate c.loop-gate.invariant.gates
    c.in-Some.ensures.some c.loop-gate.invariant.written c.write_gate.ensures.prefix
    (shown_more _ _ c.loop-gate.invariant.seen c.in-Some.gate c.loop-gate.probes c.show.new.probes c.args.probes.now c.loop-gate.invariant.rules c.loop-gate.invariant.states c.show.ensures.states)
