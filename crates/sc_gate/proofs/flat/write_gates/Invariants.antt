use Rattle.std.proofs.Common.{◌≡◌, ◌≤◌, false, take}
use Rattle.sc_base.specs.Output.{Wrote}
use Rattle.sc_gate.specs.Lines.{gate_lines}
use Rattle.sc_gate.proofs.flat.write_gates.Given as goal

abbrev pub invariant-loop-gate : goal.invariant-loop-gate
invariant-loop-gate g l = record {
  open_still : g.O.Sink.is_ended l.out ≡ false;
  later : g.O.Sink.faults l.fn.out ≤ g.O.Sink.faults l.out;
  written : Wrote g.O.Sink.tells g.O.Sink.bytes l.fn.out l.out (gate_lines (take l.gate-index l.gates));
}
