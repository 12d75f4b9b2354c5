use Rattle.std.proofs.Common.{◌≤◌, ◌+◌, length, drop, sym, ap, arith}
use Rattle.std.proofs.lemmas.List.{take_all}
use Rattle.sc_deck.specs.Hierarchical.{modules_text}
use Rattle.sc_hier.proofs.GatherLemmas.{gathers_then, gathers_as, gathers_prefix_as, prefix_before, prefix_after, prefix_all}
use Rattle.sc_hier.proofs.TextLemmas.{modules_more, modules_around}
use Rattle.sc_hier.proofs.write.push_modules.Goals as goal

pub returns-in_err-push_module-clause-prefix : goal.returns-in_err-push_module-clause-prefix
returns-in_err-push_module-clause-prefix g c =
    gathers_prefix_as _ (modules_around c.args.deck.now c.loop-number.number _ c.module_at.ensures)
    (prefix_before (modules_text (c.loop-number.number + 1) (drop (c.loop-number.number + 1) c.args.deck.now))
    (prefix_after c.loop-number.invariant.gathered c.push_module.ensures.prefix))

pub loop-number-preserved : goal.loop-number-preserved
loop-number-preserved g c = record {
  open_still = c.in_ok-push_module.ensures.«open»;
  later = omega (arith, c.loop-number.invariant.later, c.in_ok-push_module.ensures.cause.later);
  gathered = gathers_as _ (modules_more c.args.deck.now c.loop-number.number _ c.module_at.ensures)
      (gathers_then c.loop-number.invariant.gathered c.in_ok-push_module.ensures.gathered);
}

pub returns-clause-gathered : goal.returns-clause-gathered
returns-clause-gathered g c =
    let over : length c.args.deck.now ≤ c.loop-number.number = omega arith in
    gathers_as _ (ap (modules_text 0) (sym (take_all c.loop-number.number c.args.deck.now over))) c.loop-number.invariant.gathered

pub returns-clause-prefix : goal.returns-clause-prefix
returns-clause-prefix g c = prefix_all (returns-clause-gathered g c)
