use Rattle.std.proofs.Common.{◌≡◌, drop}
use Rattle.std.specs.Prelude.{map}
use Rattle.sc_syntax.specs.Alike.{pure_expr}
use Rattle.sc_meaning.specs.Arguments.{pass_all}
use Rattle.sc_elab.specs.Evaluated.{all_passed}
use Rattle.sc_elab.specs.Frames.{view}
use Rattle.sc_elab.proofs.Passing.{ahead}
use Rattle.sc_elab.proofs.arguments.pass_all.Given as goal

abbrev pub invariant-loop-want : goal.invariant-loop-want
invariant-loop-want l =
    pass_all (view l.frame) l.wants (map pure_expr l.args)
    ≡ ahead (all_passed l.evaluated.items) (pass_all (view l.frame) (drop l.want-index l.wants) (map pure_expr l.rest))
