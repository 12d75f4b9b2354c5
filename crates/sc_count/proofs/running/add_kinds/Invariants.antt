use Rattle.std.proofs.Common.{◌≡◌, ℕ, ◌+◌, ◌*◌, ◌<◌, length, get_or}
use Rattle.sc_count.proofs.running.add_kinds.Given as goal

abbrev pub invariant-loop-i : goal.invariant-loop-i
invariant-loop-i l =
    (length l.sums ≡ 18) × ((k : ℕ) → k < l.i → get_or l.sums k 0 ≡ get_or l.kinds k 0 + l.turns * get_or l.each k 0)
