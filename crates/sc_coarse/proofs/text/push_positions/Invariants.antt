use Rattle.std.proofs.Common.{◌≡◌, ◌≤◌, ◌∷◌, false, take}
use Rattle.std.specs.Prelude.{flat_map, decimal}
use Rattle.sc_hier.specs.Gathering.{Gathers}
use Rattle.sc_coarse.proofs.text.push_positions.Given as goal

abbrev pub invariant-loop-x : goal.invariant-loop-x
invariant-loop-x g l = record {
  open_still : g.O.Sink.is_ended l.out ≡ false;
  later : g.O.Sink.faults l.fn.out ≤ g.O.Sink.faults l.out;
  gathered : Gathers g.O.Sink.tells g.O.Sink.bytes l.fn.out l.out l.fn.held l.held (flat_map (λ x. 32 ∷ decimal x) (take l.x-index l.region));
}
