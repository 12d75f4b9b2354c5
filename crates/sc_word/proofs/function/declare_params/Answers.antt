use Rattle.std.proofs.Common.{◌+◌, List, ◌∷◌, take, drop, sym, subst}
use Rattle.sc_syntax.specs.declared.WordParam.{WordParam}
use Rattle.sc_word.specs.Operands.{Declaring}
use Rattle.sc_word.proofs.Bodying.{params_more, next_param, take_param}
use Rattle.sc_word.proofs.function.declare_params.Goals as goal

pub loop-param-preserved : goal.loop-param-preserved
loop-param-preserved c =
    let all = c.args.params.now in
    let i = c.loop-param.param-index in
    let p = c.param-item.result in
    let ws = c.loop-param.words in
    let ts = c.loop-param.widths.items in
    let so_far : Declaring (take i all) (p ∷ drop (i + 1) all) all ws ts =
    subst (λ (ls : List WordParam). Declaring (take i all) ls all ws ts) (next_param all i p c.loop-param-test.true c.param-item.is) c.loop-param.invariant in
    subst (λ (ls : List WordParam). Declaring ls (drop (i + 1) all) all c.push.new.self c.append.new.items.items) (sym (take_param all i p c.loop-param-test.true c.param-item.is))
    (params_more (take i all) (drop (i + 1) all) all p ws c.push.new.self ts c.append.new.items.items c.in_ok-width.width so_far
    (sym c.in_ok-is_new.ensures) (sym c.in_ok-width.ensures.fault) c.in_ok-width.ensures.ok c.in_ok-width.ensures.bounds c.in_ok-push.ensures.ok c.in_ok-append.ensures.ok)
