-- The scopes that are open at a place, as the code keeps them.
use Rattle.std.specs.Prelude.{◌≡◌, ℕ, ◌<◌, ◌&&◌, is_some, if◌then◌else◌, Option, Some, None, Result, Ok, Err, List, [], ◌∷◌, ◌++◌, length, drop}
use Rattle.std.specs.List.{list_any, AllByRecursion}
use Rattle.std.specs.Option.{option_or}
use Rattle.sc_base.specs.Texts.{same}
use Rattle.sc_syntax.specs.declared.NameKind.{NameKind}
use Rattle.sc_syntax.specs.declared.Name.{Name}
use Rattle.sc_syntax.specs.NameKind.{Kinds}
use Rattle.sc_types.specs.declared.fault.TypeFault.{TypeFault}
use Rattle.sc_types.specs.declared.fault.TypeFault.TheVariants.{Redefined}
use Rattle.sc_types.specs.Declarations.{Declaration, ScopePath, declared_kind, with_pi}

-- a name of a scope, and what it stands for
pub record Known : Type 0 where
  pub name : List ℕ
  pub kind : NameKind

abbrev pub known : List ℕ → NameKind → Known
known name kind = record { name = name; kind = kind }

-- an entry of the map of a scope
abbrev pub known_entry : List ℕ × NameKind → Known
known_entry entry = known entry.0 entry.1

-- the names of each scope, the innermost scope first
abbrev pub Stack : Type 0
Stack = List (List Known)

abbrev pub innermost : Stack → List Known
innermost [] = []
innermost (here ∷ outer) = here

-- what a name stands for in one scope
abbrev pub kind_here : List Known → List ℕ → Option NameKind
kind_here [] name = None
kind_here (k ∷ ks) name = if same name k.name then Some k.kind else kind_here ks name

-- what a name stands for in the innermost scope that has it
abbrev pub kind_in : Stack → Kinds
kind_in [] name = None
kind_in (here ∷ outer) name = option_or (kind_here here name) (kind_in outer name)

-- the same, with `M_PI` outside every scope
abbrev pub kinds_in : Stack → Kinds
kinds_in stack = with_pi (kind_in stack)

-- a name declared in a scope that does not have it
abbrev pub declared_here : List Known → Name → NameKind → Result (List Known) TypeFault
declared_here here name kind = if is_some (kind_here here name.text) then Err (Redefined name.place) else Ok (here ++ known name.text kind ∷ [])

abbrev pub over : Stack → Result (List Known) TypeFault → Result Stack TypeFault
over outer (Ok here) = Ok (here ∷ outer)
over outer (Err f) = Err f

-- a name declared in the innermost scope
abbrev pub declared : Stack → Name → NameKind → Result Stack TypeFault
declared stack name kind = over (drop 1 stack) (declared_here (innermost stack) name kind)

-- the innermost scope is left; the outermost stays
abbrev pub left : Stack → Stack
left [] = []
left (here ∷ []) = here ∷ []
left (here ∷ next ∷ outer) = next ∷ outer

-- the open scopes at a place are what the declarations before it say: each name means what they say it means there,
-- and the innermost scope has the names that are declared in the scope itself
pub record Stands (stack : Stack) (before : List Declaration) (place : ScopePath) : Type 0 where
  pub is_open : 0 < length stack
  pub seen : (name : List ℕ) → kind_in stack name ≡ declared_kind before place name
  pub own : (name : List ℕ) → is_some (kind_here (innermost stack) name) ≡ list_any (λ d. same name d.name && same place d.scope) before

-- the same at the first statement of a module, where all that is declared are its parameters
pub record StandsAtBody (stack : Stack) (before : List Declaration) : Type 0 where
  pub stands : Stands stack before []
  pub outermost : AllByRecursion (λ d. d.scope ≡ []) before
