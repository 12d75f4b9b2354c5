-- Values under names, where one is put under a name.
use Rattle.std.proofs.Common.{◌≡◌, ℕ, suc, Bool, true, false, cond, List, [], ◌∷◌, ◌++◌, Option, Some, None, refl, sym, ap, ◌∙◌}
use Rattle.std.specs.Prelude.{is_some, option_map}
use Rattle.std.specs.Option.{option_or}
use Rattle.std.specs.Cmp.Lexicographic.{same_text}
use Rattle.sc_base.specs.NameMaps.{place_under, value_under, with_value}
use Rattle.sc_base.specs.Texts.{same}
use Rattle.sc_base.proofs.NameMapLemmas.{place_under-has}
use Rattle.sc_types.specs.Tables.{Table, number_under, with_new}

shadows : (b : Bool) (x y z : Option ℕ) → cond b x z ≡ cond b x (cond b y z)
shadows true x y z = refl
shadows false x y z = refl

swaps : (a b : Bool) (x y z : Option ℕ) → (a ≡ true → b ≡ true → ⊥) → cond a x (cond b y z) ≡ cond b y (cond a x z)
swaps true true x y z apart = absurd (apart refl refl)
swaps true false x y z apart = refl
swaps false b x y z apart = refl

-- two names that differ are not both the one looked for
not_both : (q name key : List ℕ) → same name key ≡ false → same q key ≡ true → same q name ≡ true → ⊥
not_both q name key apart a b =
    let tied : same name key ≡ true = ap (λ (n : List ℕ). same n key) (sym (same_text q name (sym b))) ∙ a in
    cc

-- the number stands under the name, and every other name has what it had
pub number_put : (table : Table) (name : List ℕ) (number : ℕ) (q : List ℕ)
    → number_under (with_value table name number) q ≡ cond (same q name) (Some number) (number_under table q)
number_put [] name number q = refl
number_put (e ∷ es) name number q =
    let rest : Option ℕ = number_under es q in
    elim (same name e.0) as (λ b. same name e.0 ≡ b
    → number_under (cond b ((e.0, number) ∷ es) (e ∷ with_value es name number)) q
    ≡ cond (same q name) (Some number) (cond (same q e.0) (Some e.1) rest)) [
      | true ↦ λ tied.
          ap (λ (n : List ℕ). cond (same q n) (Some number) rest) (sym (same_text name e.0 (sym tied)))
          ∙ shadows (same q name) (Some number) (Some e.1) rest
          ∙ ap (λ (n : List ℕ). cond (same q name) (Some number) (cond (same q n) (Some e.1) rest)) (same_text name e.0 (sym tied))
      | false ↦ λ apart.
          ap (cond (same q e.0) (Some e.1)) (number_put es name number q)
          ∙ swaps (same q e.0) (same q name) (Some e.1) (Some number) rest (not_both q name e.0 apart)
    ] refl

or_none : (a : Option ℕ) → a ≡ option_or a None
or_none None = refl
or_none (Some x) = refl

behind : (table : Table) (name : List ℕ) (number : ℕ) (q : List ℕ)
    → number_under (table ++ (name, number) ∷ []) q ≡ option_or (number_under table q) (cond (same q name) (Some number) None)
behind [] name number q = refl
behind (e ∷ es) name number q =
    elim (same q e.0) as (λ b. cond b (Some e.1) (number_under (es ++ (name, number) ∷ []) q)
    ≡ option_or (cond b (Some e.1) (number_under es q)) (cond (same q name) (Some number) None)) [
      | true ↦ refl
      | false ↦ behind es name number q
    ]

keeps : (a : Option ℕ) (x : ℕ) (b : Option ℕ) → a ≡ Some x → a ≡ option_or a b
keeps (Some y) x b e = refl
keeps None x b e = cc

-- a name that has a number keeps it, and a name without one takes it
pub number_new : (table : Table) (name : List ℕ) (number : ℕ) (q : List ℕ)
    → number_under (with_new table name number) q ≡ option_or (number_under table q) (cond (same q name) (Some number) None)
number_new table name number q =
    elim (place_under table name) as (λ o. place_under table name ≡ o
    → number_under (cond (is_some o) table (table ++ (name, number) ∷ [])) q ≡ option_or (number_under table q) (cond (same q name) (Some number) None)) [
      | None ↦ λ e. behind table name number q
      | Some at ↦ λ e. there at e (same q name) refl
    ] refl
  where
    there : (at : ℕ) → place_under table name ≡ Some at → (b : Bool) → same q name ≡ b
        → number_under table q ≡ option_or (number_under table q) (cond b (Some number) None)
    there at e true tied =
        keeps (number_under table q) _ (Some number)
        (ap (number_under table) (same_text q name (sym tied)) ∙ (place_under-has table name at ([], 0) e).value)
    there at e false apart = or_none (number_under table q)

-- a name without a value has no place
pub no_place : {V : Type 0} (es : List (List ℕ × V)) (name : List ℕ) → value_under es name ≡ None → place_under es name ≡ None
no_place [] name e = refl
no_place (x ∷ es) name e =
    elim (same name x.0) as (λ b. cond b (Some x.1) (value_under es name) ≡ None → cond b (Some 0) (option_map suc (place_under es name)) ≡ None) [
      | true ↦ λ f. cc
      | false ↦ λ f. ap (option_map suc) (no_place es name f)
    ] e
