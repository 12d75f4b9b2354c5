use Rattle.std.proofs.Common.{sym, subst, rules, arith}
use Rattle.std.specs.List.{AllByRecursion}
use Rattle.std.proofs.lemmas.Grind.{common_steps}
use Rattle.sc_count.specs.declared.tally.Tally.{Tally}
use Rattle.sc_count.specs.Tallies.{StandsFor, with_body}
use Rattle.sc_count.proofs.CalleeCounts.{HasTurns, items-turn}
use Rattle.sc_count.proofs.TallyLaws.{new-events, stands-more}
use Rattle.sc_count.proofs.tally.Tally.add.Goals as goal

pub count_items-requires-clause-turns : goal.count_items-requires-clause-turns
count_items-requires-clause-turns c =
    subst (AllByRecursion HasTurns) (sym c.items.ensures) (items-turn c.args.body.now.params c.args.body.now.items c.wires.ensures.sound.fits)

pub returns-in_default-clause-events : goal.returns-in_default-clause-events
returns-in_default-clause-events c = λ modules key. new-events c.args.self.now modules key c.args.body.now

pub returns-in-Ok-clause-events : goal.returns-in-Ok-clause-events
returns-in-Ok-clause-events c = λ modules key. new-events c.args.self.now modules key c.args.body.now

pub returns-in-Err-clause-events : goal.returns-in-Err-clause-events
returns-in-Err-clause-events c = λ modules key. new-events c.args.self.now modules key c.args.body.now

pub returns-in-Ok-clause-ok : goal.returns-in-Ok-clause-ok
returns-in-Ok-clause-ok c = first_of (search rules, grind (arith, common_steps))

pub returns-in-Ok-clause-stands : goal.returns-in-Ok-clause-stands
returns-in-Ok-clause-stands c = λ modules key s deck.
    subst (λ (t : Tally). StandsFor t (with_body modules key c.args.body.now)) (sym (returns-in-Ok-clause-ok c)) (stands-more c.args.self.now modules key c.args.body.now s deck)
