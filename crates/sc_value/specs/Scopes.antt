-- Scopes of names of numbers.
use Rattle.std.specs.Prelude.{◌≡◌, ℕ, List, [], ◌∷◌, Some, None, if◌then◌else◌, codes, pos}
use Rattle.std.specs.Option.{option_or, option_map}
use Rattle.std.specs.Ordering.{nat_cmp}
use Rattle.std.specs.Cmp.Lexicographic.{slice_cmp}
use Rattle.std.specs.FinMap.{FinMap, get, insert, contains_key}
use Rattle.std.specs.Str.{bytes_eq}
use Rattle.sc_syntax.specs.NameKind.{Kinds}
use Rattle.sc_value.specs.declared.Value.{Value}
use Rattle.sc_value.specs.Numbers.{fixed}
use Rattle.sc_value.specs.Expressions.{Values, sort_of, kinds_of}

-- the values of the names that one scope declares
abbrev pub Scope : Type 0
Scope = FinMap {K = List ℕ} (slice_cmp nat_cmp) Value

-- the scopes, the innermost first
abbrev pub Scopes : Type 0
Scopes = List Scope

-- the value of a name in the innermost scope that declares it
abbrev pub declared_value : Scopes → Values
declared_value [] name = None
declared_value (scope ∷ outer) name = option_or (get scope name) (declared_value outer name)

-- `M_PI`, which is known outside every scope
abbrev pub constant : Values
constant name = if bytes_eq name (codes "M_PI") then Some (fixed (pos 3141592653590)) else None

-- the value of a name: that of the innermost scope that declares it, else the constant
abbrev pub value_of_name : Scopes → Values
value_of_name scopes name = option_or (declared_value scopes name) (constant name)

-- the kind of each name
abbrev pub known_kinds : Scopes → Kinds
known_kinds scopes = kinds_of (value_of_name scopes)

-- a name declared in the innermost scope; where that scope has the name, its value is replaced
abbrev pub with_declared : Scopes → List ℕ → Value → Scopes
with_declared [] name value = []
with_declared (scope ∷ outer) name value = insert scope name value ∷ outer

-- another value of a name in the innermost scope that declares it
abbrev pub with_set : Scopes → List ℕ → Value → Scopes
with_set [] name value = []
with_set (scope ∷ outer) name value =
    if contains_key scope name then insert scope name value ∷ outer else scope ∷ with_set outer name value

-- the name is declared, with a value of the same kind
abbrev pub HasKind : Scopes → List ℕ → Value → Type 0
HasKind scopes name value = option_map sort_of (declared_value scopes name) ≡ Some (sort_of value)

-- a set to a value of the name's kind keeps the kind of every name
abbrev pub SetsKeepKinds : Type 0
SetsKeepKinds = (scopes : Scopes) (name : List ℕ) (value : Value) → HasKind scopes name value → known_kinds (with_set scopes name value) ≡ known_kinds scopes
