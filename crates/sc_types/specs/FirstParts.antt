-- The parts of a source by their names.
use Rattle.std.specs.Prelude.{◌≡◌, ℕ, Bool, List, map}
use Rattle.sc_base.specs.Texts.{same}
use Rattle.sc_syntax.specs.declared.Part.{Part}
use Rattle.sc_syntax.specs.Alike.{pure_part}
use Rattle.sc_types.specs.declared.want.Want.{Want}
use Rattle.sc_types.specs.Positions.{first_at}
use Rattle.sc_types.specs.Statements.{part_name, part_wants}
use Rattle.sc_types.specs.Tables.{Table, number_under}

abbrev pub has_name : List ℕ → Part → Bool
has_name name p = same name (part_name (pure_part p))

-- the table has for each name the position of the first part of that name
pub record FindsFirst (parts : List Part) (table : Table) : Type 0 where
  pub each : (name : List ℕ) → number_under table name ≡ first_at (has_name name) parts

-- the first part of each name, and what each part takes
abbrev pub AreFirst : List Part → Table → List (List Want) → Type 0
AreFirst parts table wants = FindsFirst parts table × (wants ≡ map (λ p. part_wants (pure_part p)) parts)
