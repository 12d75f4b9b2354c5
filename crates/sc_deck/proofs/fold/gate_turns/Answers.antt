use Rattle.std.proofs.Common.{◌≡◌, ◌∷◌, ◌++◌, ◌-◌, [], length, sym}
use Rattle.std.proofs.Math.ListN.{set}
use Rattle.sc_deck.specs.declared.item.Item.TheVariants as item
use Rattle.sc_deck.specs.Turns.{joined, with_folded}
use Rattle.sc_deck.proofs.JoinLemmas.{if_some_map, if_none_map, with_folded-set, with_folded-behind}
use Rattle.sc_deck.proofs.fold.gate_turns.Goals as goal

pub returns-in-Some-clause-joins : goal.returns-in-Some-clause-joins
returns-in-Some-clause-joins c =
    if_some_map c.turns_with_gate.result (λ n. joined c.in-Some.last.now (item.Gate c.args.gate.now) ≡ item.Gates c.args.gate.now n ∷ []) (λ n. with_folded c.args.items.now (item.Gate c.args.gate.now) ≡ set c.args.items.now (length c.args.items.now - 1) (item.Gates c.args.gate.now n))
    (λ n e. with_folded-set c.args.items.now c.in-Some.last.now (item.Gates c.args.gate.now n) (item.Gate c.args.gate.now) (sym c.in-Some.ensures.value) e) c.turns_with_gate.ensures.joins

pub returns-in-Some-clause-stays : goal.returns-in-Some-clause-stays
returns-in-Some-clause-stays c =
    if_none_map c.turns_with_gate.result (joined c.in-Some.last.now (item.Gate c.args.gate.now) ≡ c.in-Some.last.now ∷ (item.Gate c.args.gate.now) ∷ []) (with_folded c.args.items.now (item.Gate c.args.gate.now) ≡ c.args.items.now ++ (item.Gate c.args.gate.now) ∷ [])
    (λ e. with_folded-behind c.args.items.now c.in-Some.last.now (item.Gate c.args.gate.now) (sym c.in-Some.ensures.value) e) c.turns_with_gate.ensures.stays
