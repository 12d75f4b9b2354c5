use Rattle.std.proofs.Common.{◌≡◌, ℕ, ◌≤◌, length, take}
use Rattle.sc_path.specs.Fronts.{put_each}
use Rattle.sc_path.proofs.front.put_rows.Given as goal

abbrev pub invariant-loop-row : goal.invariant-loop-row
invariant-loop-row l = record {
  len : length l.rows ≡ length l.initial.rows;
  left : length l.new.items ≤ length l.wires;
  put : (w : ℕ) → put_each l.rows (take (length l.new.items) l.wires) l.new.items w ≡ put_each l.initial.rows (take (length l.initial.new.items) l.wires) l.initial.new.items w;
}

abbrev pub decreases-loop-row : goal.decreases-loop-row
decreases-loop-row l = length l.new.items
