use Rattle.std.proofs.Common.{◌≡◌, ◌≤◌, List, length, take, get_or, sym, ap, ◌∙◌, subst, arith}
use Rattle.std.specs.Prelude.{flat_map, fold}
use Rattle.sc_gate.specs.Numbers.{Numbers, both}
use Rattle.sc_deck.specs.declared.item.Item.{Item}
use Rattle.sc_deck.specs.Bodies.{Contents, ItemsFit, after_items, wires_of}
use Rattle.sc_deck.specs.Turns.{last_turns, with_folded, folded}
use Rattle.sc_elab.specs.FunctionBodies.{FitsBehind, chosen_items}
use Rattle.sc_elab.proofs.FunctionLaws.{after_folded, folded_more, room_at, turns_item}
use Rattle.sc_elab.proofs.function.folded_body.Goals as goal

pub fold_chosen-requires-clause-fits : goal.fold_chosen-requires-clause-fits
fold_chosen-requires-clause-fits c =
    let kept = c.args.kept.now in
    let items = c.items-items.result.now in
    let i = c.loop-item.item-index in
    let x = c.item-item.result in
    let same = c.items-items.ensures in
    let fits : ItemsFit kept.params items = subst (λ (is : List Item). ItemsFit kept.params is) (sym same) c.requires.sound.fits in
    let narrow : both (after_items kept.params items) ≤ 65536 = subst (λ (is : List Item). both (after_items kept.params is) ≤ 65536) (sym same) c.requires.sound.narrow in
    let room : FitsBehind (after_items kept.params (take i items)) (get_or items i x) = room_at kept.params items i x c.loop-item-test.true fits narrow in
    let wires : wires_of c.loop-item.body ≡ after_items kept.params (take i items) =
    (λ k. after_items (c.loop-item.invariant.params k) (c.loop-item.invariant.items k)) ∙ after_folded c.args.choice kept.params (take i items) in
    subst (λ (n : Numbers). FitsBehind n x) (sym wires) (subst (FitsBehind (after_items kept.params (take i items))) (sym c.item-item.is) room)

pub fold_chosen-requires-clause-turns : goal.fold_chosen-requires-clause-turns
fold_chosen-requires-clause-turns c =
    let same = ap length c.items-items.ensures in
    omega (arith, same, c.loop-item.invariant.turns, c.loop-item-test.true, c.requires.few)

pub loop-item-preserved : goal.loop-item-preserved
loop-item-preserved c =
    let items = c.items-items.result.now in
    let i = c.loop-item.item-index in
    let x = c.item-item.result in
    let before : List Item = folded (flat_map (chosen_items c.args.choice) (take i items)) in
    let is = c.in_ok-fold_chosen.ensures in
    let same = ap (λ (b : Contents). last_turns b.items) is in
    record {
      params = ap (λ (b : Contents). b.params) is ∙ c.loop-item.invariant.params;
      items = ap (λ (b : Contents). b.items) is
          ∙ ap (λ (l : List Item). fold with_folded l (chosen_items c.args.choice x)) c.loop-item.invariant.items
          ∙ ap (λ (y : Item). fold with_folded before (chosen_items c.args.choice y)) c.item-item.is
          ∙ sym (folded_more c.args.choice items i x c.loop-item-test.true);
      turns = omega (arith, same, turns_item c.args.choice c.loop-item.body.items x, c.loop-item.invariant.turns);
    }
