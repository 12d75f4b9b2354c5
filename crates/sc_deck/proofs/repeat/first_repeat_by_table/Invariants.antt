use Rattle.sc_deck.proofs.RepeatLemmas.{Table}
use Rattle.sc_deck.proofs.repeat.first_repeat_by_table.Given as goal

abbrev pub invariant-loop-i : goal.invariant-loop-i
invariant-loop-i l = Table l.wires l.i l.seen
