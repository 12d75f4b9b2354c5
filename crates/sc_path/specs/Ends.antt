-- The rows of a body before its first item, and what a table keeps of them after the last one.
use Rattle.std.specs.Prelude.{ℕ, zero, suc, ◌+◌, List, [], ◌∷◌, Option, Some, None, nat_eq, nat_lt, if◌then◌else◌}
use Rattle.sc_gate.specs.Chains.{when}

-- what a wire has before any gate: 0 for anywhere, and for its own start where it is a parameter wire
abbrev pub begin : Option ℕ → Option ℕ → Option ℕ
begin own None = Some 0
begin None (Some v) = None
begin (Some u) (Some v) = when (nat_eq u v) (Some 0)

-- the start of wire w, where the first wires are the parameter wires from a number on
abbrev pub start_in : ℕ → ℕ → ℕ → Option ℕ
start_in first params w = if nat_lt w params then Some (first + w) else None

-- a weight above 0
abbrev pub positive : Option ℕ → Option ℕ
positive None = None
positive (Some zero) = None
positive (Some (suc n)) = Some (suc n)

-- the number at a place
abbrev pub number_at : List ℕ → ℕ → Option ℕ
number_at [] p = None
number_at (n ∷ numbers) zero = Some n
number_at (n ∷ numbers) (suc p) = number_at numbers p

-- the start at a place
abbrev pub start_of : ℕ → Option ℕ
start_of zero = None
start_of (suc u) = Some u
