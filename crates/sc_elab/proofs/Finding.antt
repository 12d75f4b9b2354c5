-- The definition of a name, by the position of the first part of that name.
use Rattle.std.proofs.Common.{◌≡◌, ℕ, suc, Bool, true, false, cond, List, [], ◌∷◌, Option, Some, None, refl, ap, ◌∙◌}
use Rattle.std.specs.Prelude.{map, slice_get, option_map}
use Rattle.sc_base.specs.Texts.{same}
use Rattle.sc_syntax.specs.declared.Part.{Part}
use Rattle.sc_syntax.specs.declared.Part.TheVariants as part
use Rattle.sc_syntax.specs.declared.Module.{Module}
use Rattle.sc_syntax.specs.declared.WordFn.{WordFn}
use Rattle.sc_syntax.specs.Alike.{pure_part, pure_param, pure_stmt, in_row}
use Rattle.sc_word.specs.Typed.{TypedWords}
use Rattle.sc_types.specs.FirstParts.{has_name}
use Rattle.sc_types.specs.Positions.{first_at}
use Rattle.sc_types.specs.Typing.{TypedSource, part_at, typed_at}
use Rattle.sc_meaning.specs.Definitions.{Definition, of_module, of_function, name_of, definition}
use Rattle.sc_meaning.specs.Programs.{function_of, definition_of, definitions, program_of}

abbrev pub standing : Option Part → Option TypedWords → Option Definition
standing None typed = None
standing (Some p) typed = Some (definition_of (pure_part p) typed)

-- the definition of the part at a position
abbrev pub definition_at : List Part → List (Option TypedWords) → Option ℕ → Option Definition
definition_at parts words None = None
definition_at parts words (Some i) = standing (slice_get parts i) (typed_at words i)

name_same : (name : List ℕ) (p : Part) (typed : Option TypedWords) → same name (name_of (definition_of (pure_part p) typed)) ≡ has_name name p
name_same name (part.Module m) typed = refl
name_same name (part.Words f) typed = refl

past : (p : Part) (parts : List Part) (w : Option TypedWords) (words : List (Option TypedWords)) (at : Option ℕ)
    → definition_at parts words at ≡ definition_at (p ∷ parts) (w ∷ words) (option_map suc at)
past p parts w words None = refl
past p parts w words (Some i) = refl

past_untyped : (p : Part) (parts : List Part) (at : Option ℕ) → definition_at parts [] at ≡ definition_at (p ∷ parts) [] (option_map suc at)
past_untyped p parts None = refl
past_untyped p parts (Some i) = refl

pub found : (parts : List Part) (words : List (Option TypedWords)) (name : List ℕ)
    → definition (definitions (map pure_part parts) words) name ≡ definition_at parts words (first_at (has_name name) parts)
found [] words name = refl
found (p ∷ parts) [] name =
    ap (λ (b : Bool). cond b (Some (definition_of (pure_part p) None)) (definition (definitions (map pure_part parts) []) name)) (name_same name p None)
    ∙ elim (has_name name p) as (λ b. cond b (Some (definition_of (pure_part p) None)) (definition (definitions (map pure_part parts) []) name) ≡ definition_at (p ∷ parts) [] (cond b (Some 0) (option_map suc (first_at (has_name name) parts)))) [
      | true ↦ refl
      | false ↦ found parts [] name ∙ past_untyped p parts (first_at (has_name name) parts)
    ]
found (p ∷ parts) (w ∷ words) name =
    ap (λ (b : Bool). cond b (Some (definition_of (pure_part p) w)) (definition (definitions (map pure_part parts) words) name)) (name_same name p w)
    ∙ elim (has_name name p) as (λ b. cond b (Some (definition_of (pure_part p) w)) (definition (definitions (map pure_part parts) words) name) ≡ definition_at (p ∷ parts) (w ∷ words) (cond b (Some 0) (option_map suc (first_at (has_name name) parts)))) [
      | true ↦ refl
      | false ↦ found parts words name ∙ past p parts w words (first_at (has_name name) parts)
    ]

-- ---- what is found in a typed source

pub none_found : (t : TypedSource) (name : List ℕ) → part_at t.source name ≡ None → definition (program_of t) name ≡ None
none_found t name e = found t.source.parts t.words name ∙ ap (definition_at t.source.parts t.words) e

pub past_found : (t : TypedSource) (name : List ℕ) (i : ℕ) → part_at t.source name ≡ Some i → slice_get t.source.parts i ≡ None → definition (program_of t) name ≡ None
past_found t name i e none =
    found t.source.parts t.words name ∙ ap (definition_at t.source.parts t.words) e
    ∙ ap (λ (p : Option Part). standing p (typed_at t.words i)) none

pub module_found : (t : TypedSource) (name : List ℕ) (i : ℕ) (m : Module) → part_at t.source name ≡ Some i → slice_get t.source.parts i ≡ Some (part.Module m)
    → definition (program_of t) name ≡ Some (of_module m.name (map pure_param m.params) (in_row (map pure_stmt m.body)))
module_found t name i m e is =
    found t.source.parts t.words name ∙ ap (definition_at t.source.parts t.words) e
    ∙ ap (λ (p : Option Part). standing p (typed_at t.words i)) is

pub words_found : (t : TypedSource) (name : List ℕ) (i : ℕ) (f : WordFn) (w : TypedWords) → part_at t.source name ≡ Some i → slice_get t.source.parts i ≡ Some (part.Words f) → typed_at t.words i ≡ Some w
    → definition (program_of t) name ≡ Some (of_function f.name (function_of w))
words_found t name i f w e is typed =
    found t.source.parts t.words name ∙ ap (definition_at t.source.parts t.words) e
    ∙ ap (λ (p : Option Part). standing p (typed_at t.words i)) is
    ∙ ap (λ (w : Option TypedWords). standing (Some (part.Words f)) w) typed
