-- How a request ends whose whole output stands.
use Rattle.std.specs.Prelude.{ℕ, List, Bool, true, false}
use Rattle.sc_top.specs.declared.status.Ending.{Ending}
use Rattle.sc_top.specs.declared.status.Ending.TheVariants as ending
use Rattle.sc_top.specs.declared.status.Status.{Status}
use Rattle.sc_top.specs.declared.status.Status.TheVariants as status

abbrev pub status_at : Ending → Status
status_at ending.Done = status.Done
status_at ending.NotLegal = status.NotLegal

-- the whole output stands
abbrev pub is_done : Status → Bool
is_done status.Done = true
is_done status.NotLegal = true
is_done _ = false

-- the request ends before its first byte of output; for want of memory it may end later
abbrev pub is_early : Status → Bool
is_early status.Refused = true
is_early status.Usage = true
is_early status.ReadFailed = true
is_early status.Limit = true
is_early _ = false

-- what a request that is not refused writes, and how it then ends
pub record Output : Type 0 where
  pub text : List ℕ
  pub ends : Ending
