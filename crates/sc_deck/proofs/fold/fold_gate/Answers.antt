use Rattle.std.proofs.Common.{◌≡◌, ◌∷◌, ◌++◌, ◌-◌, [], length, sym, subst, arith, rules, All}
use Rattle.std.proofs.lemmas.List.Elements.{All-push, All-set}
use Rattle.sc_deck.specs.declared.item.Item.TheVariants as item
use Rattle.sc_deck.specs.Items.{ItemInRange}
use Rattle.sc_deck.proofs.JoinLemmas.{on_ok_map, gate_in_range}
use Rattle.sc_deck.proofs.fold.fold_gate.Goals as goal

pub returns-in-Some-clause-range : goal.returns-in-Some-clause-range
returns-in-Some-clause-range c = λ all.
    subst (All ItemInRange) (sym c.put_last.ensures)
    (All-set ItemInRange c.args.items.now (length c.args.items.now - 1) (item.Gates c.args.gate c.in-Some.turns)
    (gate_in_range c.args.gate c.in-Some.turns c.kind_has_range.ensures (first_of (omega arith, search rules))) all)

pub returns-in-None-clause-range : goal.returns-in-None-clause-range
returns-in-None-clause-range c =
    on_ok_map c.push.result (c.push.new.self ≡ c.args.items.now ++ item.Gate c.args.gate ∷ []) (All ItemInRange c.args.items.now → All ItemInRange c.push.new.self)
    (λ e all. subst (All ItemInRange) (sym e) (All-push ItemInRange c.args.items.now (item.Gate c.args.gate) all c.kind_has_range.ensures)) c.push.ensures.ok
