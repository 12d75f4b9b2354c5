use Rattle.std.proofs.Common.{List, [], ◌∷◌, ◌++◌, Some, ◌+◌, ◌*◌, ◌≤◌, refl, sym, ap, ◌∙◌, subst, arith}
use Rattle.std.specs.Prelude.{map, flat_map, fold}
use Rattle.sc_gate.specs.Numbers.{both, no_wires}
use Rattle.sc_syntax.specs.declared.Stmt.{Stmt}
use Rattle.sc_syntax.specs.Alike.{pure_param, pure_stmt_list}
use Rattle.sc_deck.specs.declared.key.Arg.{Arg}
use Rattle.sc_deck.specs.Bodies.{Contents, wires_of}
use Rattle.sc_deck.specs.Keys.{arg_classes, with_arg}
use Rattle.sc_deck.specs.Turns.{last_turns}
use Rattle.sc_deck.specs.Unfolding.{numbered}
use Rattle.sc_elab.specs.declared.frame.Frame.{Frame}
use Rattle.sc_elab.specs.Starting.{with_args}
use Rattle.sc_meaning.specs.Arguments.{callee_numbers, wire_params}
use Rattle.sc_meaning.specs.Definitions.{of_module}
use Rattle.sc_elab.proofs.StartLaws.{started}
use Rattle.sc_elab.proofs.StartTyping.{start_typed}
use Rattle.sc_elab.proofs.start.start_frame.Goals as goal

pub param_wires-requires : goal.param_wires-requires
param_wires-requires c = record { few = subst (λ (args : List Arg). both (with_args no_wires args) ≤ 65536) (sym c.as_slice-args.ensures) c.requires.entering.few }

pub param_counts-counts-requires : goal.param_counts-counts-requires
param_counts-counts-requires c = record { few = subst (λ (args : List Arg). both (with_args no_wires args) ≤ 65536) (sym c.as_slice-args.ensures) c.requires.entering.few }

pub new-requires : goal.new-requires
new-requires c =
    let counted = ap both (c.param_counts-counts.ensures ∙ ap (fold with_arg no_wires) c.as_slice-args.ensures) in
    let few = c.requires.entering.few in
    omega arith

pub returns-clause-view : goal.returns-clause-view
returns-clause-view c =
    let params = map pure_param c.args.called.now.params in
    let ps = c.as_slice-params.ensures in
    let same = c.as_slice-args.ensures in
    let frame : Frame = record { numbers = c.in_ok-numbers.numbers; wires = c.push.new.self; steps = 1048576; body = c.new.result } in
    started params c.args.key.now.args frame c.in_ok-scope.scope
    (c.in_ok-numbers.ensures ∙ (λ i. callee_numbers (map pure_param (ps i)) (same i)))
    (c.in_ok-push.ensures.items ∙ ap (λ ss. ss ++ c.in_ok-scope.scope ∷ []) c.new-wires.ensures.items)
    (c.in_ok-scope.ensures ∙ (λ i. wire_params (map pure_param (ps i)) (same i) (numbered (flat_map arg_classes (same i)) no_wires) ([] ∷ [])))
    (ap wires_of c.new.ensures ∙ c.param_counts-counts.ensures ∙ ap (fold with_arg no_wires) same)
    refl

pub returns-clause-typed : goal.returns-clause-typed
returns-clause-typed c = λ stmts same.
    let params = map pure_param c.args.called.now.params in
    let frame : Frame = record { numbers = c.in_ok-numbers.numbers; wires = c.push.new.self; steps = 1048576; body = c.new.result } in
    start_typed c.args.checked.now frame c.args.key.now c.args.called.now.name params stmts c.requires.accepted c.requires.entering
    (c.requires.defined ∙ ap (λ (ss : List Stmt). Some (of_module c.args.called.now.name params (pure_stmt_list ss))) (sym same)) (returns-clause-view c)

pub returns-clause-turns : goal.returns-clause-turns
returns-clause-turns c = subst (λ (b : Contents). last_turns b.items + 64 * 1048576 ≤ 64 * 1048576) (sym c.new.ensures) (omega arith)
