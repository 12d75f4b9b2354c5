use Rattle.std.proofs.Common.{◌≡◌, [], length}
use Rattle.sc_check.proofs.LineLemmas.{StepsRead}
use Rattle.sc_check.proofs.text_reader.read_steps.Given as goal

abbrev pub invariant-loop-begun : goal.invariant-loop-begun
invariant-loop-begun l = record {
  many : length l.steps ≡ l.begun;
  read : StepsRead l.gates l.count l.text l.steps l.rest l.line;
  empty : l.found.items ≡ [];
}
