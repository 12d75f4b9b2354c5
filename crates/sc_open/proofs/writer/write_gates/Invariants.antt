use Rattle.std.proofs.Common.{◌≡◌, ◌≤◌, false, take}
use Rattle.std.specs.Prelude.{flat_map}
use Rattle.sc_base.specs.Output.{Wrote}
use Rattle.sc_open.proofs.WriteLemmas.{lowered_text}
use Rattle.sc_open.proofs.writer.write_gates.Given as goal

abbrev pub invariant-loop-gate : goal.invariant-loop-gate
invariant-loop-gate g l = record {
  open_still : g.O.Sink.is_ended l.out ≡ false;
  later : g.O.Sink.faults l.fn.out ≤ g.O.Sink.faults l.out;
  written : Wrote g.O.Sink.tells g.O.Sink.bytes l.fn.out l.out (flat_map lowered_text (take l.gate-index l.gates));
}
