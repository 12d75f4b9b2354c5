-- Numbers under names.
use Rattle.std.specs.Prelude.{ℕ, if◌then◌else◌, is_some, Option, List, [], ◌∷◌, ◌++◌}
use Rattle.sc_base.specs.NameMaps.{place_under, value_under}

-- names, each with its number
abbrev pub Table : Type 0
Table = List (List ℕ × ℕ)

-- the number under a name
abbrev pub number_under : Table → List ℕ → Option ℕ
number_under table name = value_under table name

-- the number put under the name where none stands there
abbrev pub with_new : Table → List ℕ → ℕ → Table
with_new table name number = if is_some (place_under table name) then table else table ++ (name, number) ∷ []
