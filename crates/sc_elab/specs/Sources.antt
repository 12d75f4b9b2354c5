-- What a checked source keeps.
use Rattle.std.specs.Prelude.{ℕ}
use Rattle.sc_types.specs.Accepted.{IsAccepted}
use Rattle.sc_types.specs.Typing.{TypedSource, IsChecked, HasMain, HaveDistinctNames}

-- it is checked: it is accepted, it has a main, and no two of its parts have one name
pub record IsSound (t : TypedSource) : Type 0 where
  pub accepted : IsAccepted t
  pub place : ℕ
  pub checked : IsChecked t place
  pub main : HasMain t.source place
  pub distinct : HaveDistinctNames t.source.parts
