use Rattle.std.proofs.Common.{◌≡◌, sym, ap, ◌∙◌, ◌++◌, ◌+◌, ◌-◌, ◌<◌, ℕ, length, drop, take, List, arith, get_or, set, true, cond}
use Rattle.std.proofs.lemmas.List.{get_or_default}
use Rattle.std.specs.Prelude.{is_some}
use mathlib.Core.List.{reverse}
use Rattle.std.specs.FinMap.{get, insert}
use Rattle.sc_value.specs.declared.Value.{Value}
use Rattle.sc_value.specs.Scopes.{Scope, with_set}
use Rattle.sc_value.proofs.ScopeLemmas.{view, set_here}
use Rattle.sc_value.proofs.env.Env.set.Goals as goal

-- a scope in which a name is set
abbrev changed : Scope → List ℕ → Value → Scope
changed scope name value = cond (is_some (get scope name)) (insert scope name value) scope

pub returns-then-is_some : goal.returns-then-is_some
returns-then-is_some c =
    let i : ℕ = c.loop-depth.depth - 1 in
    let m : Scope = c.index_mut.result.now in
    let within : i < length c.loop-depth.self-inside.entered.items = omega (arith, c.loop-depth.invariant.0, c.loop-depth-test.true) in
    let depth : c.loop-depth.depth ≡ i + 1 = omega (arith, c.loop-depth-test.true) in
    let here : c.index.result.now ≡ get_or c.loop-depth.self-inside.entered.items i m =
    c.index.ensures ∙ get_or_default c.loop-depth.self-inside.entered.items i c.index.result.now m within in
    let some : is_some (get (get_or c.loop-depth.self-inside.entered.items i m) c.args.name.now) ≡ true =
    ap (λ s. is_some (get s c.args.name.now)) (sym here)
    ∙ ap (λ n. is_some (get c.index.result.now n)) (sym c.as_bytes-bytes.ensures)
    ∙ ap is_some (sym c.get.ensures) ∙ sym c.is_some.ensures ∙ c.if-is_some.true in
    ap (λ s. view (set c.loop-depth.self-inside.entered.items i s) c.loop-depth.self-inside.outermost)
    (c.set.ensures ∙ ap (λ s. changed s c.as_bytes-bytes.result.now c.args.value) c.index_mut.ensures.value
    ∙ ap (λ n. changed (get_or c.loop-depth.self-inside.entered.items i m) n c.args.value) c.as_bytes-bytes.ensures
    ∙ ap (λ b. cond b (insert (get_or c.loop-depth.self-inside.entered.items i m) c.args.name.now c.args.value) (get_or c.loop-depth.self-inside.entered.items i m)) some)
    ∙ sym (set_here c.loop-depth.self-inside.entered.items c.loop-depth.self-inside.outermost i m c.args.name.now c.args.value within some)
    ∙ ap (λ d. reverse (drop d c.loop-depth.self-inside.entered.items) ++ with_set (view (take d c.loop-depth.self-inside.entered.items) c.loop-depth.self-inside.outermost) c.args.name.now c.args.value) (sym depth)
    ∙ sym c.loop-depth.invariant.2
