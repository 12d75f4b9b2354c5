use Rattle.std.proofs.Common.{◌≡◌, length}
use Rattle.sc_path.specs.Powers.{IsRange}
use Rattle.sc_path.proofs.power.numbers.Given as goal

abbrev pub invariant-loop-i : goal.invariant-loop-i
invariant-loop-i l = record {
  len : length l.out.items ≡ l.i;
  range : IsRange l.out.items;
}
