use Rattle.std.proofs.Common.{ap, ◌∙◌, arith}
use Rattle.std.proofs.lemmas.Result.{on_ok_weaker}
use Rattle.std.specs.FinMap.{insert}
use Rattle.sc_value.specs.Scopes.{with_declared}
use Rattle.sc_value.proofs.ScopeLemmas.{declare_last}
use Rattle.sc_value.proofs.env.Env.declare.Goals as goal

pub returns-in-Some-clause-ok : goal.returns-in-Some-clause-ok
returns-in-Some-clause-ok c =
    let item = c.in-Some.ensures.item in
    on_ok_weaker c.declare.result (λ new.
    declare_last c.self.inside.entered.items c.self.inside.outermost _ c.in-Some.scope.now c.declare.new.self c.args.name.now c.args.value
    (omega (arith, c.self.inside.entered.ok.0, item.3.0)) item.1
    (new ∙ ap (λ name. insert c.in-Some.scope.now name c.args.value) c.as_bytes.ensures)
    ∙ ap (λ scopes. with_declared scopes c.args.name.now c.args.value) c.self.view_is) c.declare.ensures.ok
