use Rattle.std.proofs.Common.{◌≡◌, ℕ, List, length, ap, ◌∙◌, subst, arith}
use Rattle.sc_path.proofs.Gate.{on_ok}
use Rattle.sc_path.proofs.PlaceLemmas.{rows_many}
use Rattle.sc_path.proofs.TurnLemmas.{Called}
use Rattle.sc_path.proofs.body.add_called.Goals as goal

pub add_call-requires-clause-many : goal.add_call-requires-clause-many
add_call-requires-clause-many c =
    let e : length c.deref.result.now ≡ length c.args.wires.now = ap length (c.deref.ensures.value ∙ c.in-Ok.ensures.rows) ∙ rows_many c.args.qubits c.args.wires.now in
    omega (arith, c.requires.many, e)

pub returns-clause-stands : goal.returns-clause-stands
returns-clause-stands c =
    on_ok c.add_call.result c.add_call.ensures.stands
    (λ f. subst (λ (ws : List ℕ). Called c.args.front.now.rows.items c.args.front.now.last.items ws c.args.table.now c.add_call.new.front.rows.items c.add_call.new.front.last.items) (c.deref.ensures.value ∙ c.in-Ok.ensures.rows) f)
