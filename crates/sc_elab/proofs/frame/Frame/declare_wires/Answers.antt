use Rattle.std.proofs.Common.{ap, ◌∙◌, ◌-◌, set, arith}
use Rattle.std.proofs.lemmas.Result.{on_ok_weaker}
use Rattle.std.specs.Vec.{vec_len}
use Rattle.sc_elab.proofs.Names.{Scope, names, declared_last}
use Rattle.sc_elab.proofs.frame.Frame.declare_wires.Goals as goal

pub returns-in-Some-clause-names : goal.returns-in-Some-clause-names
returns-in-Some-clause-names c =
    let item = c.in-Some.ensures.item in
    let v = c.args.self.now.wires in
    on_ok_weaker c.insert.result (λ new.
    ap (λ (y : Scope). names (set v.items (vec_len v - 1) y)) new
    ∙ declared_last v.items (vec_len v - 1) c.in-Some.scope.now c.args.name.now c.args.span (omega (arith, v.ok.0, item.3.0)) item.1) c.insert.ensures.ok
