use Rattle.std.proofs.Common.{◌≡◌, ◌≤◌, false, take}
use Rattle.sc_base.specs.Output.{Wrote}
use Rattle.sc_open.specs.OpenTexts.{lines_text}
use Rattle.sc_open.proofs.writer.write_each.Given as goal

abbrev pub invariant-loop-line : goal.invariant-loop-line
invariant-loop-line g l = record {
  open_still : g.O.Sink.is_ended l.out ≡ false;
  later : g.O.Sink.faults l.fn.out ≤ g.O.Sink.faults l.out;
  written : Wrote g.O.Sink.tells g.O.Sink.bytes l.fn.out l.out (lines_text (take l.line-index l.lines));
}
