use Rattle.std.proofs.Common.{◌≡◌, ℕ, ◌<◌, length, take, Option}
use Rattle.std.specs.Prelude.{slice_index, max}
use Rattle.sc_gate.specs.Chains.{or_zero}
use Rattle.sc_path.specs.Rows.{look, place}
use Rattle.sc_path.proofs.front.raise.Given as goal

abbrev pub invariant-loop-entry : goal.invariant-loop-entry
invariant-loop-entry l = record {
  len : length l.last ≡ length l.initial.last;
  raised : (s : Option ℕ) → place s < length l.initial.last → slice_index l.last (place s) ≡ max (slice_index l.initial.last (place s)) (or_zero (look (take l.entry-index l.row) s));
}
