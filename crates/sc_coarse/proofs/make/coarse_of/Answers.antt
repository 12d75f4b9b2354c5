use Rattle.std.proofs.Common.{◌-◌, length, sym, ap, subst, ◌∙◌}
use Rattle.sc_coarse.specs.declared.coarse.Coarse.{Coarse}
use Rattle.sc_coarse.specs.Making.{AreMade}
use Rattle.sc_coarse.proofs.ExpandedLaws.{length_is, expanded_legal, last_there}
use Rattle.sc_coarse.proofs.RuleLaws.{rule_is_coarse}
use Rattle.sc_coarse.proofs.WideAndLong.{narrow_iff, not_narrow}
use Rattle.sc_coarse.proofs.make.coarse_of.Goals as goal

pub returns-in-Ok-clause-many : goal.returns-in-Ok-clause-many
returns-in-Ok-clause-many g c = ap length c.new.ensures ∙ c.in-Ok.ensures.made.many

pub returns-in-Ok-clause-rule : goal.returns-in-Ok-clause-rule
returns-in-Ok-clause-rule g c = λ i m one at got.
    ((subst (AreMade (g.P.Priority.comes c.args.order.now) c.args.k c.args.d c.args.deck.now (length c.args.deck.now)) (sym c.new.ensures) c.in-Ok.ensures.made).each i m one at got).rule

pub returns-in-Ok-clause-coarse : goal.returns-in-Ok-clause-coarse
returns-in-Ok-clause-coarse g c = λ i m one at got.
    rule_is_coarse (g.P.Priority.comes c.args.order.now) c.args.k c.args.d m.items one.blocks (returns-in-Ok-clause-rule g c i m one at got)

pub returns-in-Ok-clause-legal : goal.returns-in-Ok-clause-legal
returns-in-Ok-clause-legal g c =
    expanded_legal (g.P.Priority.comes c.args.order.now) c.args.k c.args.d c.args.deck.now c.in-Ok.ensures.sound c.new.result (returns-in-Ok-clause-many g c) (returns-in-Ok-clause-rule g c)
    c.requires.k c.in_default.ensures.none (length c.args.deck.now - 1) (last_there c.args.deck.now c.requires.whole)

pub returns-in-Ok-clause-length : goal.returns-in-Ok-clause-length
returns-in-Ok-clause-length g c =
    let made = subst (AreMade (g.P.Priority.comes c.args.order.now) c.args.k c.args.d c.args.deck.now (length c.args.deck.now)) (sym c.new.ensures) c.in-Ok.ensures.made in
    length_is (g.P.Priority.comes c.args.order.now) c.args.k c.args.d c.args.deck.now c.in-Ok.ensures.sound c.new.result (returns-in-Ok-clause-many g c) (returns-in-Ok-clause-rule g c)
    (λ i m one at got. (made.each i m one at got).length)

pub returns-in-Some-clause-narrow : goal.returns-in-Some-clause-narrow
returns-in-Some-clause-narrow g c = narrow_iff Coarse c.args.d c.args.deck.now c.in-Some.i c.in-Some.x (sym c.is_too_large.ensures ∙ c.if-is_too_large.false) c.in-Some.ensures.first

pub returns-in-Ok-clause-narrow : goal.returns-in-Ok-clause-narrow
returns-in-Ok-clause-narrow g c = not_narrow c.args.d c.args.deck.now _ (λ i x e. cc) c.in_default.ensures.none
