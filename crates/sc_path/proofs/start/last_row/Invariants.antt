use Rattle.std.proofs.Common.{◌≡◌, ℕ, take, Option}
use Rattle.sc_path.specs.Rows.{look, place, AreBefore, HaveWeights}
use Rattle.sc_path.specs.Ends.{positive, number_at}
use Rattle.sc_path.proofs.start.last_row.Given as goal

abbrev pub invariant-loop-at : goal.invariant-loop-at
invariant-loop-at l = record {
  looks : (s : Option ℕ) → look l.out s ≡ positive (number_at (take l.at l.last) (place s));
  before : AreBefore l.at l.out;
  weights : HaveWeights l.out;
}
