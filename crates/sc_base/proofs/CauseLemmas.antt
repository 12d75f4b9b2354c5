-- Counts of faults over several calls.
use Rattle.std.proofs.Common.{ℕ, ◌+◌, ◌-◌, ◌^◌, ◌≤◌, ◌⊎◌, min, arith}
use Rattle.std.proofs.lemmas.Bool.{cases_lt}
use Rattle.sc_base.specs.Causes.{Rose, Stood}

-- a count that rose in a later call rose in all of them
pub rose_after : (before mid now : ℕ) → before ≤ mid → Rose mid now → Rose before now
rose_after before mid now first second = omega arith

-- and so did one that rose in an earlier call
pub rose_before : (before mid now : ℕ) → Rose before mid → mid ≤ now → Rose before now
rose_before before mid now first second = omega arith

-- a count does not both rise and stand
pub rose-stood : (before now : ℕ) → Rose before now → Stood before now → ⊥
rose-stood before now rose stood = omega arith

-- and does one of both
pub rose_or_stood : (before now : ℕ) → Stood before now ⊎ Rose before now
rose_or_stood before now = cases_lt now (min (before + 1) (2 ^ 64 - 1))

-- a count that stood in all calls stood in the first and in the last of them
pub stood_first : (before mid now : ℕ) → mid ≤ now → Stood before now → Stood before mid
stood_first before mid now later stood = omega arith

pub stood_last : (before mid now : ℕ) → before ≤ mid → Stood before now → Stood mid now
stood_last before mid now first stood = omega arith
