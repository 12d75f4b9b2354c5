use Rattle.std.proofs.Common.{◌≡◌, ◌≤◌, false, take}
use Rattle.std.specs.Prelude.{flat_map}
use Rattle.sc_base.specs.GateNames.{all_names}
use Rattle.sc_base.specs.Output.{Wrote}
use Rattle.sc_top.specs.Reports.{kind_text}
use Rattle.sc_top.proofs.report.write_kinds.Given as goal

abbrev pub invariant-loop-name : goal.invariant-loop-name
invariant-loop-name g l = record {
  open_still : g.O.Sink.is_ended l.out ≡ false;
  later : g.O.Sink.faults l.fn.out ≤ g.O.Sink.faults l.out;
  written : Wrote g.O.Sink.tells g.O.Sink.bytes l.fn.out l.out (flat_map (kind_text l.fn.kinds) (take l.name-index all_names));
}
