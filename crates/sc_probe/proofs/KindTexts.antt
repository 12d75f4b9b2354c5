-- Texts of things in a list, one after another.
use Rattle.std.proofs.Common.{◌≡◌, ℕ, ◌+◌, ◌<◌, ◌≤◌, List, [], ◌∷◌, ◌++◌, length, take, get_or, sym, ap, ◌∙◌, append_assoc}
use Rattle.std.specs.Prelude.{slice_index, codes}
use Rattle.std.specs.List.{flat_map}
use Rattle.std.proofs.lemmas.List.{take_more, take_all, append-nil}
use Rattle.std.proofs.lemmas.Grind.{flat_map-append}
use Rattle.sc_base.specs.declared.names.GateName.{GateName}
use Rattle.sc_base.specs.GateNames.{place_of, all_names}
use Rattle.sc_probe.specs.Rules.{kind_text}

-- one text more
pub told_more : {X : Type 0} (f : X → List ℕ) (front : List ℕ) (xs : List X) (i : ℕ) (d : X) → i < length xs →
    (front ++ flat_map f (take i xs)) ++ f (get_or xs i d) ≡ front ++ flat_map f (take (i + 1) xs)
told_more f front xs i d within =
    append_assoc front (flat_map f (take i xs)) (f (get_or xs i d))
    ∙ ap (λ m. front ++ (flat_map f (take i xs) ++ m)) (sym (append-nil (f (get_or xs i d))))
    ∙ ap (λ m. front ++ m) (sym (flat_map-append f (take i xs) (get_or xs i d ∷ [])))
    ∙ ap (λ m. front ++ flat_map f m) (sym (take_more xs i d within))

pub told_all : {X : Type 0} (f : X → List ℕ) (front : List ℕ) (xs : List X) (i : ℕ) → length xs ≤ i → front ++ flat_map f (take i xs) ≡ front ++ flat_map f xs
told_all f front xs i past = ap (λ m. front ++ flat_map f m) (take_all i xs past)

-- the part of one name more
pub kinds_more : (counts : List ℕ) (i p : ℕ) (d : GateName) (text now : List ℕ) → i < length all_names → p ≡ place_of (get_or all_names i d) →
    text ≡ codes "kinds" ++ flat_map (λ name. kind_text (slice_index counts (place_of name)) name) (take i all_names) →
    now ≡ text ++ kind_text (slice_index counts p) (get_or all_names i d) →
    now ≡ codes "kinds" ++ flat_map (λ name. kind_text (slice_index counts (place_of name)) name) (take (i + 1) all_names)
kinds_more counts i p d text now within place_is so_far more =
    more
    ∙ ap (λ q. text ++ kind_text (slice_index counts q) (get_or all_names i d)) place_is
    ∙ ap (λ t. t ++ kind_text (slice_index counts (place_of (get_or all_names i d))) (get_or all_names i d)) so_far
    ∙ told_more (λ name. kind_text (slice_index counts (place_of name)) name) (codes "kinds") all_names i d within
