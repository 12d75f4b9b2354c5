use Rattle.std.proofs.Common.{◌≡◌, ◌++◌}
use Rattle.sc_flat.specs.Frames.{numbers_from}
use Rattle.sc_flat.proofs.number_list.NumberList.push_each.Given as goal

abbrev pub invariant-loop-k : goal.invariant-loop-k
invariant-loop-k l = record {
  numbers : l.self.numbers ≡ l.fn.self.numbers ++ numbers_from l.first l.k;
  room : l.self.room ≡ l.fn.self.room;
}
