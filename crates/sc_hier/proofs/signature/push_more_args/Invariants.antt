use Rattle.std.proofs.Common.{◌≡◌, ◌≤◌, ◌∷◌, false, take}
use Rattle.std.specs.Prelude.{flat_map}
use Rattle.sc_deck.specs.Hierarchical.{arg_text}
use Rattle.sc_hier.specs.Gathering.{Gathers}
use Rattle.sc_hier.proofs.signature.push_more_args.Given as goal

abbrev pub invariant-loop-arg : goal.invariant-loop-arg
invariant-loop-arg g l = record {
  open_still : g.O.Sink.is_ended l.out ≡ false;
  later : g.O.Sink.faults l.fn.out ≤ g.O.Sink.faults l.out;
  gathered : Gathers g.O.Sink.tells g.O.Sink.bytes l.fn.out l.out l.fn.held l.held (flat_map (λ arg. 44 ∷ arg_text arg) (take l.arg-index l.args));
}
