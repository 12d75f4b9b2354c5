use Rattle.std.proofs.Common.{◌≡◌, ◌≤◌, ◌∷◌, false, take}
use Rattle.std.specs.Prelude.{flat_map}
use Rattle.sc_gate.specs.Lines.{wire_text}
use Rattle.sc_hier.specs.Gathering.{Gathers}
use Rattle.sc_hier.proofs.item.push_more_wires.Given as goal

abbrev pub invariant-loop-wire : goal.invariant-loop-wire
invariant-loop-wire g l = record {
  open_still : g.O.Sink.is_ended l.out ≡ false;
  later : g.O.Sink.faults l.fn.out ≤ g.O.Sink.faults l.out;
  gathered : Gathers g.O.Sink.tells g.O.Sink.bytes l.fn.out l.out l.fn.held l.held (flat_map (λ wire. 44 ∷ wire_text wire) (take l.wire-index l.wires));
}
