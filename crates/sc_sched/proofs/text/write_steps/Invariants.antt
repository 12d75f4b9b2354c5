use Rattle.std.proofs.Common.{◌≡◌, ◌≤◌, false, take}
use Rattle.std.specs.Prelude.{flat_map}
use Rattle.sc_base.specs.Output.{Wrote}
use Rattle.sc_sched.specs.Text.{step_text}
use Rattle.sc_sched.proofs.text.write_steps.Given as goal

abbrev pub invariant-loop-step : goal.invariant-loop-step
invariant-loop-step g l = record {
  open_still : g.O.Sink.is_ended l.out ≡ false;
  later : g.O.Sink.faults l.fn.out ≤ g.O.Sink.faults l.out;
  written : Wrote g.O.Sink.tells g.O.Sink.bytes l.fn.out l.out (flat_map step_text (take l.step-index l.steps));
}
