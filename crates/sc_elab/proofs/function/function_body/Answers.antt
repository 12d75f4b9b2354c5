use Rattle.std.proofs.Common.{◌<◌, ◌≤◌, length, sym, ap, ◌∙◌, subst, arith}
use Rattle.std.specs.Prelude.{flat_map}
use Rattle.sc_deck.specs.Bodies.{Contents, IsBody}
use Rattle.sc_deck.specs.Turns.{folded}
use Rattle.sc_word.specs.Scratch.{fn_wires}
use Rattle.sc_elab.specs.FunctionBodies.{chosen_items}
use Rattle.sc_elab.proofs.FunctionLaws.{keyed_params, chosen_all, items_folded, items_call, body_made, none_made}
use Rattle.sc_meaning.proofs.GateCounts.{few_items}
use Rattle.sc_elab.proofs.function.function_body.Goals as goal

pub returns-then-wires-from-clause-err : goal.returns-then-wires-from-clause-err
returns-then-wires-from-clause-err c = λ other.
    let t = c.args.function.now in
    let many : 65536 < fn_wires t = omega arith in
    none_made c.args.choice c.args.name.now t c.args.key.now c.requires many

pub folded_body-requires-clause-few : goal.folded_body-requires-clause-few
folded_body-requires-clause-few c =
    let t = c.args.function.now in
    let few : fn_wires t ≤ 65536 = omega arith in
    subst (λ (b : Contents). length b.items ≤ 1048576) (sym c.in_ok-kept.ensures.0) (few_items t c.returned.ensures.well_typed few)

pub returns-clause-params : goal.returns-clause-params
returns-clause-params c =
    c.in_ok-body.ensures.params ∙ ap (λ (b : Contents). b.params) c.in_ok-kept.ensures.0 ∙ sym (keyed_params c.args.function.now c.args.key.now c.requires)

pub returns-clause-ok : goal.returns-clause-ok
returns-clause-ok c =
    let t = c.args.function.now in
    let is = c.in_ok-kept.ensures.0 in
    let few : fn_wires t ≤ 65536 = omega arith in
    body_made c.args.choice c.args.name.now t c.args.key.now c.in_ok-body.body c.requires few (subst IsBody is c.wires-count.ensures.sound)
    (c.in_ok-body.ensures.params ∙ ap (λ (b : Contents). b.params) is)
    (c.in_ok-body.ensures.items ∙ ap (λ (b : Contents). folded (flat_map (chosen_items c.args.choice) b.items)) is ∙ ap folded (chosen_all c.args.choice t))

pub returns-clause-folded : goal.returns-clause-folded
returns-clause-folded c =
    let t = c.args.function.now in
    items_folded c.args.choice t c.in_ok-body.body
    (c.in_ok-body.ensures.items ∙ ap (λ (b : Contents). folded (flat_map (chosen_items c.args.choice) b.items)) c.in_ok-kept.ensures.0 ∙ ap folded (chosen_all c.args.choice t))

pub returns-clause-calls : goal.returns-clause-calls
returns-clause-calls c =
    let t = c.args.function.now in
    items_call c.args.choice t c.in_ok-body.body
    (c.in_ok-body.ensures.items ∙ ap (λ (b : Contents). folded (flat_map (chosen_items c.args.choice) b.items)) c.in_ok-kept.ensures.0 ∙ ap folded (chosen_all c.args.choice t))
