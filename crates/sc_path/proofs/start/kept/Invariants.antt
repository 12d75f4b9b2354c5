use Rattle.std.proofs.Common.{◌≡◌, ℕ, take, drop, Option}
use Rattle.std.specs.List.{AllByRecursion}
use Rattle.sc_path.specs.Rows.{look, place, AreBefore, HaveWeights}
use Rattle.sc_path.specs.Ends.{positive}
use Rattle.sc_path.proofs.start.kept.Given as goal

abbrev pub invariant-loop-entry : goal.invariant-loop-entry
invariant-loop-entry l = record {
  looks : (s : Option ℕ) → look l.out s ≡ positive (look (take l.entry-index l.row) s);
  before : AllByRecursion (λ e. AreBefore (place e.start) l.out) (drop l.entry-index l.row);
  weights : HaveWeights l.out;
}
