use Rattle.std.proofs.Common.{sym}
use Rattle.sc_deck.proofs.FindLemmas.{find_at, find_none}
use Rattle.sc_deck.proofs.deck.Deck.find.Goals as goal

pub returns-in-Some-clause-found : goal.returns-in-Some-clause-found
returns-in-Some-clause-found c = rw (← c.self.view_is) (find_at c.self.inside.entries.entries c.args.key.now c.in-Some.i (sym c.in-Some.ensures.index))

pub returns-in-None-clause-none : goal.returns-in-None-clause-none
returns-in-None-clause-none c = rw (← c.self.view_is) (find_none c.self.inside.entries.entries c.args.key.now (sym c.in-None.ensures.found))
