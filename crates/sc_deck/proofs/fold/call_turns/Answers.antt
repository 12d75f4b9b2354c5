use Rattle.std.proofs.Common.{◌≡◌, ◌∷◌, ◌++◌, ◌-◌, [], length, sym}
use Rattle.std.proofs.Math.ListN.{set}
use Rattle.sc_deck.specs.declared.item.Item.TheVariants as item
use Rattle.sc_deck.specs.Turns.{joined, with_folded}
use Rattle.sc_deck.proofs.JoinLemmas.{if_some_map, if_none_map, with_folded-set, with_folded-behind}
use Rattle.sc_deck.proofs.fold.call_turns.Goals as goal

pub returns-in-Some-clause-joins : goal.returns-in-Some-clause-joins
returns-in-Some-clause-joins c =
    if_some_map c.turns_with_call.result (λ n. joined c.in-Some.last.now (item.Call c.args.callee c.args.wires.now) ≡ item.Calls c.args.callee c.args.wires.now n ∷ []) (λ n. with_folded c.args.items.now (item.Call c.args.callee c.args.wires.now) ≡ set c.args.items.now (length c.args.items.now - 1) (item.Calls c.args.callee c.args.wires.now n))
    (λ n e. with_folded-set c.args.items.now c.in-Some.last.now (item.Calls c.args.callee c.args.wires.now n) (item.Call c.args.callee c.args.wires.now) (sym c.in-Some.ensures.value) e) c.turns_with_call.ensures.joins

pub returns-in-Some-clause-stays : goal.returns-in-Some-clause-stays
returns-in-Some-clause-stays c =
    if_none_map c.turns_with_call.result (joined c.in-Some.last.now (item.Call c.args.callee c.args.wires.now) ≡ c.in-Some.last.now ∷ (item.Call c.args.callee c.args.wires.now) ∷ []) (with_folded c.args.items.now (item.Call c.args.callee c.args.wires.now) ≡ c.args.items.now ++ (item.Call c.args.callee c.args.wires.now) ∷ [])
    (λ e. with_folded-behind c.args.items.now c.in-Some.last.now (item.Call c.args.callee c.args.wires.now) (sym c.in-Some.ensures.value) e) c.turns_with_call.ensures.stays
