-- Tables of the code.
use Rattle.std.specs.Prelude.{ℕ, nat_eq, if◌then◌else◌, List, [], ◌∷◌, Option, Some, None}
use Rattle.std.specs.Cmp.Lexicographic.{pointwise}

-- what a table has beside a text
abbrev pub row_of : {A : Type 0} → List (List ℕ × A) → List ℕ → Option A
row_of [] text = None
row_of (row ∷ rows) text = if pointwise nat_eq row.0 text then Some row.1 else row_of rows text
