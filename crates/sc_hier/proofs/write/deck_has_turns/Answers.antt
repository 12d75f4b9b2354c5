use Rattle.std.proofs.Common.{◌≤◌, length, sym, ap, ◌∙◌, arith}
use Rattle.std.proofs.lemmas.List.{take_all}
use Rattle.std.specs.List.{list_any}
use Rattle.sc_deck.specs.Hierarchical.{have_turns}
use Rattle.sc_deck.specs.Turns.{has_turns}
use Rattle.sc_hier.proofs.TextLemmas.{turns_at, no_turns_more}
use Rattle.sc_hier.proofs.write.deck_has_turns.Goals as goal

pub returns-then-any_has_turns : goal.returns-then-any_has_turns
returns-then-any_has_turns c =
    sym (turns_at c.args.deck.now c.loop-number.number _ c.module_at.ensures (sym (c.if-any_has_turns.ensures ∙ ap (list_any has_turns) c.items.ensures)))

pub loop-number-preserved : goal.loop-number-preserved
loop-number-preserved c =
    no_turns_more c.args.deck.now c.loop-number.number _ c.module_at.ensures c.loop-number.invariant
    (sym (c.if-any_has_turns.ensures ∙ ap (list_any has_turns) c.items.ensures))

pub returns : goal.returns
returns c =
    let over : length c.args.deck.now ≤ c.loop-number.number = omega arith in
    sym c.loop-number.invariant ∙ ap have_turns (take_all c.loop-number.number c.args.deck.now over)
