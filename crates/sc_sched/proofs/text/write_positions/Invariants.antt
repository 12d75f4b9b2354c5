use Rattle.std.proofs.Common.{◌≡◌, ◌≤◌, false, take}
use Rattle.sc_base.specs.Output.{Wrote}
use Rattle.sc_sched.specs.Text.{after_spaces}
use Rattle.sc_sched.proofs.text.write_positions.Given as goal

abbrev pub invariant-loop-x : goal.invariant-loop-x
invariant-loop-x g l = record {
  open_still : g.O.Sink.is_ended l.out ≡ false;
  later : g.O.Sink.faults l.fn.out ≤ g.O.Sink.faults l.out;
  written : Wrote g.O.Sink.tells g.O.Sink.bytes l.fn.out l.out (after_spaces (take l.x-index l.region));
}
