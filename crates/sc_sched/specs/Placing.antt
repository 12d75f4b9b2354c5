-- A gate list that is laid out for its steps by some order.
use Rattle.std.specs.Prelude.{ℕ, Bool, List}
use Rattle.sc_gate.specs.declared.gate.Gate.{Gate}
use Rattle.sc_sched.specs.Layout.{Layout}
use Rattle.sc_sched.specs.Laid.{IsLaid}
use Rattle.sc_sched.specs.PrioritySchedules.{NoneIsWider}

pub record IsLaidOut (gates : List Gate) (l : Layout) (room : List ℕ) : Type 0 where
  pub width : ℕ
  pub before : ℕ → ℕ → Bool
  pub laid : IsLaid gates width before l room
  pub fits : NoneIsWider width gates
