use Rattle.std.proofs.Common.{◌≡◌, ◌≤◌, ◌++◌, false, List, length, map}
use Rattle.sc_base.specs.Output.{Wrote}
use Rattle.sc_gate.specs.declared.gate.Gate.{Gate}
use Rattle.sc_gate.specs.Lines.{gate_lines}
use Rattle.sc_deck.specs.Events.{gates_in}
use Rattle.sc_probe.specs.Rules.{folded}
use Rattle.sc_flat.specs.Kept.{WalkKept}
use Rattle.sc_flat.specs.Walks.{rest}
use Rattle.sc_flat.proofs.expander.write_gates.Given as goal

abbrev pub invariant-loop-gate : goal.invariant-loop-gate
invariant-loop-gate g l = record {
  kept : WalkKept l.deck l.walk;
  room : l.walk.wires.room ≡ l.fn.walk.wires.room;
  depth : l.walk.below.room ≡ l.fn.walk.below.room;
  open_still : g.O.Sink.is_ended l.out ≡ false;
  later : g.O.Sink.faults l.fn.out ≤ g.O.Sink.faults l.out;
  seen : List Gate;
  gates : gates_in (rest l.deck l.fn.walk) ≡ seen ++ gates_in (rest l.deck l.walk);
  written : Wrote g.O.Sink.tells g.O.Sink.bytes l.fn.out l.out (gate_lines seen);
  rules : map (λ b. (goal.Probe-dyn g (b.vtable, b.value)).rule b.value) l.probes ≡ map (λ b. (goal.Probe-dyn g (b.vtable, b.value)).rule b.value) l.fn.probes;
  states : map (λ b. (goal.Probe-dyn g (b.vtable, b.value)).state b.value) l.probes
      ≡ map (λ b. folded ((goal.Probe-dyn g (b.vtable, b.value)).rule b.value) ((goal.Probe-dyn g (b.vtable, b.value)).state b.value) seen) l.fn.probes;
}

abbrev pub decreases-loop-gate : goal.decreases-loop-gate
decreases-loop-gate g l = length (gates_in (rest l.deck l.walk))
