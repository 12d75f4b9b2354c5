use Rattle.std.proofs.Common.{◌≡◌, ◌≤◌, ◌+◌, length, drop, map, sym, ◌∙◌, arith}
use Rattle.std.proofs.lemmas.List.{take_all, length-map}
use Rattle.sc_deck.specs.Modules.{key_of}
use Rattle.sc_hier.proofs.GatherLemmas.{gathers_then, gathers_as, gathers_prefix_as, prefix_before, prefix_after, prefix_all}
use Rattle.sc_coarse.specs.CoarseText.{instances_text}
use Rattle.sc_coarse.proofs.CoarseTexts.{instances_more, instances_around}
use Rattle.sc_coarse.proofs.text.push_instances.Goals as goal

pub returns-in_err-push_instance-clause-prefix : goal.returns-in_err-push_instance-clause-prefix
returns-in_err-push_instance-clause-prefix g c =
    let same : length (map key_of c.args.deck.now) ≡ length c.args.c.now = length-map c.args.deck.now key_of ∙ sym c.requires.many in
    gathers_prefix_as _ (instances_around (map key_of c.args.deck.now) c.args.c.now c.loop-number.number _ _ same c.instance_at.ensures.key c.instance_at.ensures.instance)
    (prefix_before (instances_text (c.loop-number.number + 1) (drop (c.loop-number.number + 1) (map key_of c.args.deck.now)) (drop (c.loop-number.number + 1) c.args.c.now))
    (prefix_after c.loop-number.invariant.gathered c.push_instance.ensures.prefix))

pub loop-number-preserved : goal.loop-number-preserved
loop-number-preserved g c = record {
  open_still = c.in_ok-push_instance.ensures.«open»;
  later = omega (arith, c.loop-number.invariant.later, c.in_ok-push_instance.ensures.cause.later);
  gathered = (let same : length (map key_of c.args.deck.now) ≡ length c.args.c.now = length-map c.args.deck.now key_of ∙ sym c.requires.many in
      gathers_as _ (instances_more (map key_of c.args.deck.now) c.args.c.now c.loop-number.number _ _ same c.instance_at.ensures.key c.instance_at.ensures.instance)
      (gathers_then c.loop-number.invariant.gathered c.in_ok-push_instance.ensures.gathered));
}

pub returns-clause-gathered : goal.returns-clause-gathered
returns-clause-gathered g c =
    let many : length (map key_of c.args.deck.now) ≡ length c.args.deck.now = length-map c.args.deck.now key_of in
    let over : length (map key_of c.args.deck.now) ≤ c.loop-number.number = omega (arith, many) in
    let past : length c.args.c.now ≤ c.loop-number.number = omega (arith, many) in
    gathers_as _ (λ i. instances_text 0 (sym (take_all c.loop-number.number (map key_of c.args.deck.now) over) i) (sym (take_all c.loop-number.number c.args.c.now past) i)) c.loop-number.invariant.gathered

pub returns-clause-prefix : goal.returns-clause-prefix
returns-clause-prefix g c = prefix_all (returns-clause-gathered g c)
