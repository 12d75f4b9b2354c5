-- Numbers that are written in a source.
use Rattle.std.specs.Prelude.{ℤ, pos, ◌≤ℤ◌, ◌<ℤ◌, ◌^◌}

-- from 0 to 2^63 - 1, of an int as of the units of a double: a sign is no part of a number
abbrev pub IsWritten : ℤ → Type 0
IsWritten n = (pos 0 ≤ℤ n) × (n <ℤ pos (2 ^ 63))
