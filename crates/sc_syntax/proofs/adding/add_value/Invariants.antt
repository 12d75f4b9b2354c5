use Rattle.std.proofs.Common.{◌≡◌, ◌≤◌, ◌++◌, length, map, take}
use Rattle.sc_syntax.specs.Directives.{placed}
use Rattle.sc_base.specs.Limits.{most_tokens}
use Rattle.sc_syntax.proofs.adding.add_value.Given as goal

abbrev pub invariant-loop-token : goal.invariant-loop-token
invariant-loop-token l = record {
  grows : l.tokens ≡ l.fn.tokens ++ map (placed l.place) (take l.token-index l.value);
  few : length l.tokens ≤ most_tokens;
}
