use Rattle.std.proofs.Common.{refl, ap, ◌∙◌}
use Rattle.sc_syntax.specs.Alike.{pure_expr}
use Rattle.sc_elab.specs.Frames.{view}
use Rattle.sc_meaning.specs.Arguments.{pass}
use Rattle.sc_meaning.specs.declared.want.Want.{Want}
use Rattle.sc_elab.proofs.Passing.{pass_many}
use Rattle.sc_elab.proofs.arguments.pass.Goals as goal

pub returns-in_ok-span-in-Many-clause-ok : goal.returns-in_ok-span-in-Many-clause-ok
returns-in_ok-span-in-Many-clause-ok c =
    ap (λ (w : Want). pass (view c.args.frame.now) w (pure_expr c.args.expr.now)) c.in-Many.is
    ∙ pass_many (view c.args.frame.now) c.in-Many.class (pure_expr c.args.expr.now) c.args.expr.now.place c.in_ok-span-in-Many.span refl c.in_ok-span-in-Many.ensures.ok
