use Rattle.std.proofs.Common.{◌≡◌, ◌≤◌, false, take}
use Rattle.std.specs.Prelude.{flat_map}
use Rattle.sc_base.specs.Output.{Wrote}
use Rattle.sc_cancel.proofs.Stepping.{line_at}
use Rattle.sc_cancel.proofs.shortening.write_gates.Given as goal

abbrev pub invariant-loop-position : goal.invariant-loop-position
invariant-loop-position g l = record {
  open_still : g.O.Sink.is_ended l.out ≡ false;
  later : g.O.Sink.faults l.fn.out ≤ g.O.Sink.faults l.out;
  written : Wrote g.O.Sink.tells g.O.Sink.bytes l.fn.out l.out (flat_map (line_at l.gates) (take l.position-index l.kept));
}
