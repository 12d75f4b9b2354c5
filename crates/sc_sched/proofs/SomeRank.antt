-- Every gate of a list has a rank, so there is a schedule by ranks.
use Rattle.std.proofs.Common.{ℕ, ◌≤◌, Bool, List, refl, arith}
use Rattle.sc_gate.specs.declared.gate.Gate.{Gate}
use Rattle.sc_gate.specs.Heights.{height_at, through_at}
use Rattle.sc_sched.specs.declared.order.Rank.{Rank}
use Rattle.sc_sched.specs.Legal.{Step}
use Rattle.sc_sched.specs.Ranks.{timed_gates}
use Rattle.sc_sched.specs.PrioritySchedules.{IsPrioritySchedule, IsRankOrder, NoneIsWider}
use Rattle.sc_sched.proofs.RanksAre.{is_rank}
use Rattle.sc_sched.proofs.RankSteps.{many_timed}
use Rattle.sc_sched.proofs.Lawful.{schedule_of_ranks}

rank_of : List ℕ → List Gate → ℕ → Rank
rank_of times gates x = record { height = height_at (timed_gates times gates) x; through = through_at (timed_gates times gates) x; position = x }

-- there is one, without a word on ranks
pub schedule_exists : (comes : Rank → Rank → Bool) (times : List ℕ) (gates : List Gate) (k d : ℕ) → IsRankOrder comes → 1 ≤ k → NoneIsWider d gates → (steps : List Step) × IsPrioritySchedule comes times gates k d steps
unfolding rank_of
schedule_exists comes times gates k d o some wide =
    schedule_of_ranks comes times gates k d (rank_of times gates) o some wide (λ x l. is_rank (timed_gates times gates) x (omega (arith, l, many_timed times gates)) (rank_of times gates x) refl refl refl)
