-- The map of a scope, and the scopes around one.
use Rattle.std.proofs.Common.{◌≡◌, ℕ, ◌+◌, ◌<◌, cond, List, [], ◌∷◌, ◌++◌, length, map, get_or, take, Some, None, refl, ap, ◌∙◌}
use Rattle.std.proofs.lemmas.List.{reverse-append, take_more}
use mathlib.Core.List.{reverse}
use Rattle.std.specs.Option.{option_or}
use Rattle.sc_base.specs.NameMaps.{value_under}
use Rattle.sc_base.specs.Texts.{same}
use Rattle.sc_syntax.specs.declared.NameKind.{NameKind}
use Rattle.sc_types.specs.Scopes.{Known, known_entry, kind_here, kind_in}

pub kind_entries : (name : List ℕ) (es : List (List ℕ × NameKind)) → value_under es name ≡ kind_here (map known_entry es) name
kind_entries name [] = refl
kind_entries name (e ∷ es) = ap (cond (same name e.0) (Some e.1)) (kind_entries name es)

reverse_one : {A : Type 0} (x : A) → reverse (x ∷ []) ≡ x ∷ []
reverse_one x = refl

-- the scopes up to and with one, the innermost first
pub reverse_more : (xs : List (List Known)) (i : ℕ) (d : List Known) → i < length xs → reverse (take (i + 1) xs) ≡ get_or xs i d ∷ reverse (take i xs)
reverse_more xs i d within =
    ap reverse (take_more xs i d within) ∙ reverse-append (take i xs) (get_or xs i d ∷ []) ∙ ap (λ one. one ++ reverse (take i xs)) (reverse_one (get_or xs i d))

pub kind_beyond : (xs : List (List Known)) (i : ℕ) (d : List Known) (name : List ℕ) → i < length xs → kind_here (get_or xs i d) name ≡ None
    → kind_in (reverse (take (i + 1) xs)) name ≡ kind_in (reverse (take i xs)) name
kind_beyond xs i d name within none =
    ap (λ stack. kind_in stack name) (reverse_more xs i d within) ∙ ap (λ here. option_or here (kind_in (reverse (take i xs)) name)) none

pub kind_there : (xs : List (List Known)) (i : ℕ) (d : List Known) (name : List ℕ) (kind : NameKind) → i < length xs → kind_here (get_or xs i d) name ≡ Some kind
    → kind_in (reverse (take (i + 1) xs)) name ≡ Some kind
kind_there xs i d name kind within some =
    ap (λ stack. kind_in stack name) (reverse_more xs i d within) ∙ ap (λ here. option_or here (kind_in (reverse (take i xs)) name)) some
