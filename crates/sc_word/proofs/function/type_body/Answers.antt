use Rattle.std.proofs.Common.{◌+◌, List, ◌∷◌, drop, sym, ap, ◌∙◌, subst}
use Rattle.std.proofs.lemmas.Result.{err_from_is_err_and}
use Rattle.std.proofs.lemmas.List.{drop_all}
use Rattle.sc_syntax.specs.declared.Bind.{Bind}
use Rattle.sc_word.specs.Operands.{GoesOn, fault_binds}
use Rattle.sc_word.proofs.Bodying.{exit, binds_more, binds_end, next_bind}
use Rattle.sc_word.proofs.function.type_body.Goals as goal

pub loop-bind-preserved : goal.loop-bind-preserved
loop-bind-preserved c =
    let from = c.args.words in
    let all = c.args.binds.now in
    let e = c.args.result_word.now in
    let w = c.args.width in
    let i = c.loop-bind.bind-index in
    let b = c.bind-item.result in
    let ws = c.loop-bind.known in
    let made = c.loop-bind.typed.items in
    let so_far : GoesOn from all made ws (b ∷ drop (i + 1) all) e w =
    subst (λ (ls : List Bind). GoesOn from all made ws ls e w) (next_bind all i b c.loop-bind-test.true c.bind-item.is) c.loop-bind.invariant in
    binds_more from ws c.push.new.self all (drop (i + 1) all) b made c.append.new.items.items c.in_ok-word.word e w so_far
    c.in_ok-word.ensures.ok (sym c.in_ok-is_new.ensures) c.in_ok-push.ensures.ok c.in_ok-append.ensures.ok

pub returns-in_err-word-2-clause-err : goal.returns-in_err-word-2-clause-err
returns-in_err-word-2-clause-err c =
    let all = c.args.binds.now in
    let i = c.loop-bind.bind-index in
    let ws = c.loop-bind.known in
    exit _ _ _ (err_from_is_err_and c.from_residual-in_err-word-2.result c.from_residual-in_err-word-2.ensures.1)
    (λ free. sym c.loop-bind.invariant.fault
    ∙ ap (λ (ls : List Bind). fault_binds ws ls c.args.result_word.now c.args.width) (drop_all i all c.loop-bind-test.false)
    ∙ c.in_err-word-2.ensures.err free)

pub returns-clause-trees : goal.returns-clause-trees
returns-clause-trees c =
    let all = c.args.binds.now in
    let i = c.loop-bind.bind-index in
    binds_end c.args.words c.loop-bind.known all (drop i all) c.loop-bind.typed.items c.in_ok-word-2.word c.args.result_word.now c.args.width
    c.loop-bind.invariant (drop_all i all c.loop-bind-test.false) c.in_ok-word-2.ensures.ok
