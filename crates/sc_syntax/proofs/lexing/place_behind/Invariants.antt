use Rattle.std.proofs.Common.{ℕ, List, ◌≡◌, ◌+◌, ◌≤◌, ◌++◌, take}
use Rattle.sc_syntax.specs.Lexing.{place_after}
use Rattle.sc_syntax.proofs.lexing.place_behind.Given as goal

abbrev pub invariant-loop-c : goal.invariant-loop-c
invariant-loop-c l = record {
  value : (before : List ℕ) → l.fn.at ≡ place_after before → l.place ≡ place_after (before ++ take l.c-index l.text);
  line : l.place.line ≤ l.fn.at.line + l.c-index;
  column : l.place.column ≤ l.fn.at.column + l.c-index;
}
