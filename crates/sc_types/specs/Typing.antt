-- Well typed sources, with the typed functions of their classical functions.
use Rattle.std.specs.Prelude.{◌≡◌, ℕ, Option, Some, None, List, [], ◌∷◌, slice_get, codes, refl}
use Rattle.std.specs.Coded.{Coded, code_by, coded×, coded_list, coded_option}
use Rattle.sc_syntax.specs.declared.Source.{Source}
use Rattle.sc_syntax.specs.declared.Module.{Module}
use Rattle.sc_syntax.specs.declared.Part.{Part}
use Rattle.sc_syntax.specs.declared.Part.TheVariants as part
use Rattle.sc_syntax.specs.declared.WordFn.{WordFn}
use Rattle.sc_syntax.specs.contracts.Source as source_type
use Rattle.sc_syntax.specs.Alike.{Alike, pure_part}
use Rattle.sc_syntax.specs.Formed.{IsFormedSource}
use Rattle.sc_word.specs.Typed.{TypedWords, TypesFn}
use Rattle.sc_word.specs.Functions.{typed_words_code}
use Rattle.sc_types.specs.FirstParts.{has_name}
use Rattle.sc_types.specs.Positions.{first_at}
use Rattle.sc_types.specs.Statements.{part_name}
use Rattle.sc_types.specs.Sources.{is_main_part, fault_of}

-- no check fails
abbrev pub IsWellTyped : Source → Type 0
IsWellTyped source = fault_of source ≡ None

-- trees that differ only in where their boxes and lists lie in memory have one fault, or none
abbrev pub HasOneFault : Type 0
HasOneFault = (a b : Source) → Alike a b → fault_of a ≡ fault_of b

-- the position of the module `main`
abbrev pub main_at : Source → Option ℕ
main_at source = first_at is_main_part source.parts

-- the position of the first part of a name
abbrev pub part_at : Source → List ℕ → Option ℕ
part_at source name = first_at (has_name name) source.parts

-- the part at the position is the module `main`, which has no parameters
pub record HasMain (source : Source) (i : ℕ) : Type 0 where
  pub main : Module
  pub stands : slice_get source.parts i ≡ Some (part.Module main)
  pub named : main.name.text ≡ codes "main"
  pub bare : main.params ≡ []

-- no two parts have one name
abbrev pub HaveDistinctNames : List Part → Type 0
HaveDistinctNames parts = (i j : ℕ) (p q : Part) → slice_get parts i ≡ Some p → slice_get parts j ≡ Some q → part_name (pure_part p) ≡ part_name (pure_part q) → i ≡ j

-- a classical function has its typed function, and a module has none
abbrev pub IsTyped : Part → Option TypedWords → Type 0
IsTyped (part.Module m) None = Unit {0}
IsTyped (part.Words f) (Some t) = TypesFn f t
IsTyped _ _ = ⊥

-- the same part by part
abbrev pub AreTyped : List Part → List (Option TypedWords) → Type 0
AreTyped [] [] = Unit {0}
AreTyped (p ∷ ps) (w ∷ ws) = IsTyped p w × AreTyped ps ws
AreTyped _ _ = ⊥

-- a source, and for each of its parts the typed function where it has one
pub record TypedSource : Type 0 where
  pub source : Source
  pub words : List (Option TypedWords)

abbrev pub typed_source : Source → List (Option TypedWords) → TypedSource
typed_source source words = record { source = source; words = words }

abbrev pub typed_source_code : Coded TypedSource
typed_source_code =
    code_by (Source × List (Option TypedWords)) (coded× source_type.the_row.coded (coded_list (coded_option typed_words_code)))
    (λ t. (t.source, t.words)) (λ p. typed_source p.0 p.1) (λ _. refl)

-- what every checked source keeps
pub record IsChecked (t : TypedSource) (main : ℕ) : Type 0 where
  pub formed : IsFormedSource t.source
  pub well_typed : IsWellTyped t.source
  pub words : AreTyped t.source.parts t.words
  pub main_is : main_at t.source ≡ Some main

-- every formed and well typed source has its typed functions and its `main`
abbrev pub HaveTypedFunctions : Type 0
HaveTypedFunctions = (source : Source) → IsFormedSource source → IsWellTyped source → (t : TypedSource) × (main : ℕ) × (t.source ≡ source) × IsChecked t main

-- the classical function at a position
abbrev pub function_at : Source → ℕ → Option WordFn
function_at source i = function_of (slice_get source.parts i)
  where
    function_of : Option Part → Option WordFn
    function_of (Some (part.Words f)) = Some f
    function_of _ = None

abbrev pub flat : Option (Option TypedWords) → Option TypedWords
flat (Some word) = word
flat None = None

-- the typed function at a position
abbrev pub typed_at : List (Option TypedWords) → ℕ → Option TypedWords
typed_at words i = flat (slice_get words i)
