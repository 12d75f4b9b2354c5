use Rattle.std.proofs.Common.{◌≡◌, IfOk, sym, subst}
use Rattle.std.specs.Prelude.{Result}
use Rattle.sc_syntax.specs.Alike.{pure_expr}
use Rattle.sc_value.specs.declared.Value.{Value}
use Rattle.sc_value.specs.declared.EvalFault.{EvalFault}
use Rattle.sc_value.specs.Expressions.{sort_of}
use Rattle.sc_value.specs.Scopes.{value_of_name}
use Rattle.sc_value.proofs.KindLaws.{value_of_kind}
use Rattle.sc_value.proofs.expressions.eval.Goals as goal

pub returns-clause-kind : goal.returns-clause-kind
returns-clause-kind c = λ sort is.
    let P : Result Value EvalFault → Type 0 = λ r. IfOk r (λ v. sort_of v ≡ sort) in
    subst P (sym c.evaluate.ensures) (value_of_kind (value_of_name c.args.env.now) (pure_expr c.args.expr.now) sort is)
