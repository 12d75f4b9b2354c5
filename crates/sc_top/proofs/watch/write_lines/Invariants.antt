use Rattle.std.proofs.Common.{◌≡◌, ◌≤◌, false, take}
use Rattle.std.specs.Prelude.{flat_map}
use Rattle.sc_base.specs.Output.{Wrote}
use Rattle.sc_top.specs.Watching.{comment_line}
use Rattle.sc_top.proofs.watch.write_lines.Given as goal

abbrev pub invariant-loop-text : goal.invariant-loop-text
invariant-loop-text g l = record {
  open_still : g.O.Sink.is_ended l.out ≡ false;
  later : g.O.Sink.faults l.fn.out ≤ g.O.Sink.faults l.out;
  written : Wrote g.O.Sink.tells g.O.Sink.bytes l.fn.out l.out (flat_map comment_line (take l.text-index l.texts));
}
