-- Declarations of numbers and wires, and what a name means at a place.
use Rattle.std.specs.Prelude.{ℕ, Bool, true, false, not, ◌&&◌, nat_eq, if◌then◌else◌, Option, Some, None, option_map, List, [], ◌∷◌, reverse, find, codes}
use Rattle.std.specs.List.{list_any}
use Rattle.sc_base.specs.Texts.{same}
use Rattle.sc_syntax.specs.declared.NameKind.{NameKind}
use Rattle.sc_syntax.specs.declared.NameKind.TheVariants.{Number}
use Rattle.sc_syntax.specs.declared.NumSort.TheVariants.{Double}
use Rattle.sc_syntax.specs.declared.Name.{Name}
use Rattle.sc_syntax.specs.NameKind.{Kinds}
use Rattle.sc_types.specs.declared.fault.TypeFault.TheVariants.{Redefined}
use Rattle.sc_types.specs.Checks.{Check, check}

-- a scope by the way to it from the module's own: the numbers of the statements, and of their parts, that it lies in
abbrev pub ScopePath : Type 0
ScopePath = List ℕ

abbrev pub is_prefix : List ℕ → List ℕ → Bool
is_prefix [] path = true
is_prefix (a ∷ way) [] = false
is_prefix (a ∷ way) (b ∷ rest) = nat_eq a b && is_prefix way rest

pub record Declaration : Type 0 where
  pub name : List ℕ
  pub kind : NameKind
  pub scope : ScopePath

-- the declaration is of this name, and its scope holds the place
abbrev pub is_seen : ScopePath → List ℕ → Declaration → Bool
is_seen place name d = same name d.name && is_prefix d.scope place

-- a name means its last declaration whose scope holds the place
abbrev pub declared_kind : List Declaration → ScopePath → List ℕ → Option NameKind
declared_kind before place name = option_map (λ d. d.kind) (find (is_seen place name) (reverse before))

abbrev pub is_pi : List ℕ → Bool
is_pi name = same name (codes "M_PI")

-- outside every scope `M_PI` is a double
abbrev pub or_pi : List ℕ → Option NameKind → Option NameKind
or_pi name (Some kind) = Some kind
or_pi name None = if is_pi name then Some (Number Double) else None

abbrev pub with_pi : Kinds → Kinds
with_pi declared name = or_pi name (declared name)

-- what a name stands for
abbrev pub kinds : List Declaration → ScopePath → Kinds
kinds before place = with_pi (declared_kind before place)

-- no declaration of the name stands in the scope itself
abbrev pub is_new : List Declaration → ScopePath → Name → Check
is_new before scope name =
    check (not (list_any (λ d. same name.text d.name && same scope d.scope) before)) (Redefined name.place)
