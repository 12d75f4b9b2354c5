-- Positions in a list, counted from 0.
use Rattle.std.specs.Prelude.{ℕ, suc, Bool, false, nat_eq, nat_lt, if◌then◌else◌, Option, Some, None, option_map, List, [], ◌∷◌}
use Rattle.std.specs.Option.{option_or}

-- the position of the first that passes
abbrev pub first_at : {A : Type 0} → (A → Bool) → List A → Option ℕ
first_at test [] = None
first_at test (x ∷ xs) = if test x then Some 0 else option_map suc (first_at test xs)

-- the position of the last that passes
abbrev pub last_at : {A : Type 0} → (A → Bool) → List A → Option ℕ
last_at test [] = None
last_at test (x ∷ xs) = option_or (option_map suc (last_at test xs)) (if test x then Some 0 else None)

-- the position is there, and is this one
abbrev pub is_position : ℕ → Option ℕ → Bool
is_position i None = false
is_position i (Some j) = nat_eq j i

-- the position is there, and is past this one
abbrev pub is_past : ℕ → Option ℕ → Bool
is_past i None = false
is_past i (Some j) = nat_lt i j
