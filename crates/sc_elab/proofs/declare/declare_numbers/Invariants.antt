use Rattle.std.proofs.Common.{◌≡◌, drop}
use Rattle.std.specs.Prelude.{map}
use Rattle.sc_syntax.specs.Alike.{pure_init}
use Rattle.sc_meaning.specs.declared.choice.Choice.{Choice}
use Rattle.sc_elab.specs.Frames.{view}
use Rattle.sc_meaning.specs.Run.{declare_numbers}
use Rattle.sc_elab.proofs.Going.{Goes}
use Rattle.sc_elab.proofs.declare.declare_numbers.Given as goal

abbrev pub invariant-loop-init : goal.invariant-loop-init
invariant-loop-init l = record {
  goes : (choice : Choice) → Goes choice (declare_numbers l.sort (map pure_init l.inits) (view l.fn.frame)) l.fn.frame
      (declare_numbers l.sort (map pure_init (drop l.init-index l.inits)) (view l.frame)) l.frame;
  body : l.frame.body ≡ l.fn.frame.body;
}
