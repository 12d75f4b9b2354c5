use Rattle.std.proofs.Common.{◌≡◌, ◌-◌, ◌≤◌, length, take}
use Rattle.sc_syntax.specs.Cuts.{names_of, AreValues}
use Rattle.sc_syntax.specs.Lexing.{place_after}
use Rattle.sc_syntax.specs.TokenLists.{AreRead}
use Rattle.sc_syntax.proofs.Turns.{GoesOn}
use Rattle.sc_syntax.proofs.lexing.lex.Given as goal

abbrev pub invariant-loop-at : goal.invariant-loop-at
invariant-loop-at l = record {
  goes_on : GoesOn l.source (names_of l.names) l.tokens l.at;
  place : l.place ≡ place_after (take l.at l.source);
  within : l.at ≤ length l.source;
  read : AreRead l.source l.tokens;
  values : AreValues l.source (names_of l.names);
}

abbrev pub decreases-loop-at : goal.decreases-loop-at
decreases-loop-at l = length l.source - l.at
