use Rattle.sc_deck.proofs.RepeatLemmas.{mark_here, mark_other}
use Rattle.sc_deck.proofs.repeat.mark.Goals as goal

pub returns-clause-here : goal.returns-clause-here
returns-clause-here c = rw c.bit.ensures (mark_here c.args.seen.now c.args.place c.requires)

pub returns-clause-others : goal.returns-clause-others
returns-clause-others c = rw c.bit.ensures (λ k apart. mark_other c.args.seen.now c.args.place k c.requires apart)
