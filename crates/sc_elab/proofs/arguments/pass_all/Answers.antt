use Rattle.std.proofs.Common.{List, drop, ap, ◌∙◌}
use Rattle.std.specs.Prelude.{map}
use Rattle.sc_syntax.specs.declared.Expr.{Expr}
use Rattle.sc_syntax.specs.Alike.{pure_expr}
use Rattle.sc_elab.specs.Evaluated.{all_passed}
use Rattle.sc_elab.specs.Frames.{view}
use Rattle.sc_meaning.specs.Arguments.{pass_all}
use Rattle.sc_elab.proofs.Lengths.{none_left}
use Rattle.sc_elab.proofs.Passing.{ahead, pass_end}
use Rattle.sc_elab.proofs.arguments.pass_all.Goals as goal

pub returns-in_default-clause-ok : goal.returns-in_default-clause-ok
returns-in_default-clause-ok c =
    let wants = drop c.loop-want.want-index c.args.wants.now in
    let passed = all_passed c.loop-want.evaluated.items in
    c.loop-want.invariant
    ∙ ap (λ (es : List Expr). ahead passed (pass_all (view c.args.frame.now) wants (map pure_expr es))) (none_left c.loop-want.rest.now c.in_default.len_below)
    ∙ pass_end (view c.args.frame.now) wants passed
