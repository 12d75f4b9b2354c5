use Rattle.std.proofs.Common.{◌∷◌, length, ap, sym, subst, ◌∙◌}
use Rattle.sc_deck.specs.declared.item.Item.{Item}
use Rattle.sc_coarse.specs.Building.{IsBuilt}
use Rattle.sc_coarse.proofs.Built.{built_fresh, any_single, can_none, single_anew, OnOk-map}
use Rattle.sc_coarse.proofs.building.Building.add_item.Goals as goal

pub returns-in-Fresh-clause-built : goal.returns-in-Fresh-clause-built
returns-in-Fresh-clause-built g c = λ parts rest h. built_fresh (g.P.Priority.comes c.args.order.now) c.args.k c.args.d parts c.args.at c.in-Fresh.field-0 c.in-Fresh.field-1 rest c.args.self.now
    (subst (λ (i : Item). IsBuilt (g.P.Priority.comes c.args.order.now) c.args.k c.args.d parts c.args.at (i ∷ rest) c.args.self.now) c.in-Fresh.is h)

pub returns-in-Call-clause-can : goal.returns-in-Call-clause-can
returns-in-Call-clause-can g c = OnOk-map c.add_single.result (can_none c.args.d _) c.add_single.ensures.gates

pub returns-in-Call-clause-many : goal.returns-in-Call-clause-many
returns-in-Call-clause-many g c =
    OnOk-map c.add_single.result (λ is. ap length is ∙ sym (single_anew (length c.args.self.now.gates.items) c.args.item.now (any_single c.args.item.now c.in-Call.is))) c.add_single.ensures.gates

pub returns-in-Call-clause-built : goal.returns-in-Call-clause-built
returns-in-Call-clause-built g c = OnOk-map c.add_single.result (λ each parts rest h. each parts c.args.item.now rest (any_single c.args.item.now c.in-Call.is) h) c.add_single.ensures.built
