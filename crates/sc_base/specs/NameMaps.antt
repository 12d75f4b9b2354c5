-- Values under names: the entries of a map in the order in which their names came.
use Rattle.std.specs.Prelude.{◌≡◌, ℕ, suc, if◌then◌else◌, Option, Some, None, option_map, List, [], ◌∷◌}
use Rattle.std.specs.Cmp.Lexicographic.{slice_cmp}
use Rattle.std.specs.Ordering.{nat_cmp}
use Rattle.std.specs.BTreeMap.{BTreeMap, get}
use Rattle.sc_base.specs.Texts.{same}

-- the place of the first entry with the name
abbrev pub place_under : {V : Type 0} → List (List ℕ × V) → List ℕ → Option ℕ
place_under [] name = None
place_under (entry ∷ entries) name = if same name entry.0 then Some 0 else option_map suc (place_under entries name)

-- the value of the first entry with the name
abbrev pub value_under : {V : Type 0} → List (List ℕ × V) → List ℕ → Option V
value_under [] name = None
value_under (entry ∷ entries) name = if same name entry.0 then Some entry.1 else value_under entries name

-- the entries with the value under the name: in the place of the value that stands there, or behind all others
abbrev pub with_value : {V : Type 0} → List (List ℕ × V) → List ℕ → V → List (List ℕ × V)
with_value [] name value = (name, value) ∷ []
with_value (entry ∷ entries) name value = if same name entry.0 then (entry.0, value) ∷ entries else entry ∷ with_value entries name value

-- the map tells the place of each name
abbrev pub ArePlaces : {V : Type 0} → List (List ℕ × V) → BTreeMap (List ℕ) ℕ → Type 0
ArePlaces entries places = (name : List ℕ) → get (slice_cmp nat_cmp) places name ≡ place_under entries name
