-- The parameters of a module over the open scopes.
use Rattle.std.specs.Prelude.{◌≡◌, ℕ, suc, Bool, if◌then◌else◌, Option, Some, None, Result, Ok, List, [], ◌∷◌}
use Rattle.sc_base.specs.NameMaps.{with_value}
use Rattle.sc_syntax.specs.declared.NameKind.{NameKind}
use Rattle.sc_syntax.specs.declared.NameKind.TheVariants as kind
use Rattle.sc_syntax.specs.declared.NumSort.TheVariants as num
use Rattle.sc_syntax.specs.declared.Param.{Param}
use Rattle.sc_syntax.specs.declared.Sort.{Sort}
use Rattle.sc_syntax.specs.declared.Sort.TheVariants as sort
use Rattle.sc_syntax.specs.Alike.{pure_sort, pure_param}
use Rattle.sc_syntax.specs.NameKind.{Kinds}
use Rattle.sc_types.specs.declared.fault.TypeFault.{TypeFault}
use Rattle.sc_types.specs.Checks.{first_fault}
use Rattle.sc_types.specs.Declarations.{or_pi}
use Rattle.sc_types.specs.Positions.{last_at, is_past}
use Rattle.sc_types.specs.Scopes.{Stack, kind_in, declared}
use Rattle.sc_types.specs.Sorts.{◌>>=◌}
use Rattle.sc_types.specs.Sources.{is_int_named, length_checks, param_kind}
use Rattle.sc_types.specs.Tables.{Table, number_under}
use Rattle.sc_types.specs.Walking.{unless}

-- an `int` parameter of this name
abbrev pub is_int_param : List ℕ → Param → Bool
is_int_param name p = is_int_named name (pure_param p)

-- the table has for each name the position of the last `int` parameter of that name
pub record FindsLastInt (params : List Param) (table : Table) : Type 0 where
  pub each : (name : List ℕ) → number_under table name ≡ last_at (is_int_param name) params

-- the position put under the name of an `int` parameter
abbrev pub noted : Table → Param → ℕ → Table
noted table p i = by p.sort
  where
    by : Sort → Table
    by sort.Int = with_value table p.name.text i
    by _ = table

abbrev pub or_int : Bool → Option NameKind → Option NameKind
or_int later (Some k) = Some k
or_int later None = if later then Some (kind.Number num.Int) else None

-- what names mean in the length of the parameter at a position
abbrev pub length_names : Table → ℕ → Stack → Kinds
length_names last i stack name = or_pi name (or_int (is_past i (number_under last name)) (kind_in stack name))

-- the length, and then the name
abbrev pub param_on : Table → ℕ → Stack → Param → Result Stack TypeFault
param_on last i stack p = unless (first_fault (length_checks (length_names last i stack) (pure_sort p.sort))) (declared stack p.name (param_kind (pure_sort p.sort)))

-- the parameters from the i-th on
abbrev pub params_on : Table → ℕ → Stack → List Param → Result Stack TypeFault
params_on last i stack [] = Ok stack
params_on last i stack (p ∷ ps) = param_on last i stack p >>= λ after. params_on last (suc i) after ps
