-- Values under names.
use Rattle.std.proofs.Common.{◌≡◌, ℕ, zero, suc, ◌<◌, Bool, true, false, cond, List, [], ◌∷◌, ◌++◌, length, get_or, set, Option, Some, None, refl, sym, ap, ◌∙◌, arith, take}
use Rattle.std.proofs.Math.Seq.{take-append_seam}
use Rattle.std.specs.Prelude.{option_map}
use Rattle.std.specs.Option.{option_or}
use Rattle.std.specs.Cmp.Lexicographic.{slice_cmp, same_text, texts_ties, nat_list_eq_equiv}
use Rattle.std.specs.Ordering.{nat_cmp, is_eq}
use Rattle.sc_base.specs.Texts.{same}
use Rattle.std.specs.Map.{lookup}
use Rattle.std.specs.BTreeMap.{BTreeMap, get}
use Rattle.sc_base.specs.NameMaps.{place_under, value_under, with_value, ArePlaces}

later_or : (o : Option ℕ) (s : Bool) (n : ℕ) → option_map suc (option_or o (cond s (Some n) None)) ≡ option_or (option_map suc o) (cond s (Some (suc n)) None)
later_or (Some x) s n = refl
later_or None true n = refl
later_or None false n = refl

or_nothing : (o : Option ℕ) → option_or o None ≡ o
or_nothing None = refl
or_nothing (Some x) = refl

some_suc : (o : Option ℕ) (i : ℕ) → option_map suc o ≡ Some (suc i) → o ≡ Some i
some_suc None i e = cc
some_suc (Some x) i e = cc

no_zero : (o : Option ℕ) → option_map suc o ≡ Some 0 → ⊥
no_zero None e = cc
no_zero (Some x) e = cc

none_suc : (o : Option ℕ) → option_map suc o ≡ None → o ≡ None
none_suc None e = refl
none_suc (Some x) e = cc

shadows : {X : Type 0} (b : Bool) (x y z : X) → cond b x z ≡ cond b x (cond b y z)
shadows true x y z = refl
shadows false x y z = refl

swaps : {X : Type 0} (a b : Bool) (x y z : X) → (a ≡ true → b ≡ true → ⊥) → cond a x (cond b y z) ≡ cond b y (cond a x z)
swaps true true x y z apart = absurd (apart refl refl)
swaps true false x y z apart = refl
swaps false b x y z apart = refl

-- two names that differ are not both the one looked for
not_both : (q name key : List ℕ) → same name key ≡ false → same q key ≡ true → same q name ≡ true → ⊥
not_both q name key apart a b =
    let one : same name key ≡ true = ap (λ (n : List ℕ). same n key) (sym (same_text q name (sym b))) ∙ a in
    cc

module _ {V : Type 0} where
  place_behind : (es : List (List ℕ × V)) (k : List ℕ) (v : V) (q : List ℕ)
      → place_under (es ++ (k, v) ∷ []) q ≡ option_or (place_under es q) (cond (same q k) (Some (length es)) None)
  place_behind [] k v q = one (same q k)
    where
      one : (s : Bool) → cond s (Some 0) (option_map suc None) ≡ cond s (Some 0) None
      one true = refl
      one false = refl
  place_behind (e ∷ es) k v q =
      elim (same q e.0) as (λ b. cond b (Some 0) (option_map suc (place_under (es ++ (k, v) ∷ []) q))
      ≡ option_or (cond b (Some 0) (option_map suc (place_under es q))) (cond (same q k) (Some (suc (length es))) None)) [
        | true ↦ refl
        | false ↦ ap (option_map suc) (place_behind es k v q) ∙ later_or (place_under es q) (same q k) (length es)
      ]

  -- a new name stands behind all others
  pub place_under-push : (es : List (List ℕ × V)) (k : List ℕ) (v : V) (q : List ℕ) → place_under es k ≡ None
      → place_under (es ++ (k, v) ∷ []) q ≡ cond (same q k) (Some (length es)) (place_under es q)
  place_under-push es k v q new =
      place_behind es k v q
      ∙ elim (same q k) as (λ b. same q k ≡ b → option_or (place_under es q) (cond b (Some (length es)) None) ≡ cond b (Some (length es)) (place_under es q)) [
        | true ↦ λ h. ap (λ o. option_or o (Some (length es))) (ap (place_under es) (same_text q k (sym h)) ∙ new)
        | false ↦ λ h. or_nothing (place_under es q)
      ] refl

  -- what is known of the entry at the place of a name
  pub record HasEntry (es : List (List ℕ × V)) (q : List ℕ) (i : ℕ) (d : List ℕ × V) : Type 0 where
    pub within : i < length es
    pub value : value_under es q ≡ Some (get_or es i d).1
    pub replaced : (v : V) → with_value es q v ≡ set es i ((get_or es i d).0, v)

  pub place_under-has : (es : List (List ℕ × V)) (q : List ℕ) (i : ℕ) (d : List ℕ × V) → place_under es q ≡ Some i → HasEntry es q i d
  place_under-has [] q i d e = cc
  place_under-has (x ∷ es) q zero d e = record {
    within = omega arith;
    value = ap (λ b. cond b (Some x.1) (value_under es q)) here;
    replaced = λ v. ap (λ b. cond b ((x.0, v) ∷ es) (x ∷ with_value es q v)) here;
  }
    where
      here : same q x.0 ≡ true
      here = elim (same q x.0) as (λ b. same q x.0 ≡ b → cond b (Some 0) (option_map suc (place_under es q)) ≡ Some 0 → same q x.0 ≡ true) [
        | true ↦ λ h f. h
        | false ↦ λ h f. absurd (no_zero (place_under es q) f)
      ] refl e
  place_under-has (x ∷ es) q (suc i) d e =
      let s = place_under-has es q i d there.1 in
      let near = s.within in
      record {
        within = omega (arith, near);
        value = ap (λ b. cond b (Some x.1) (value_under es q)) there.0 ∙ s.value;
        replaced = λ v. ap (λ b. cond b ((x.0, v) ∷ es) (x ∷ with_value es q v)) there.0 ∙ ap (λ l. x ∷ l) (s.replaced v);
      }
    where
      there : (same q x.0 ≡ false) × (place_under es q ≡ Some i)
      there = elim (same q x.0) as (λ b. same q x.0 ≡ b → cond b (Some 0) (option_map suc (place_under es q)) ≡ Some (suc i) → (same q x.0 ≡ false) × (place_under es q ≡ Some i)) [
        | true ↦ λ h f. cc
        | false ↦ λ h f. (h, some_suc (place_under es q) i f)
      ] refl e

  pub place_under-within : (es : List (List ℕ × V)) (q : List ℕ) (i : ℕ) → place_under es q ≡ Some i → i < length es
  place_under-within [] q i e = cc
  place_under-within (x ∷ es) q i e = (place_under-has (x ∷ es) q i x e).within

  -- what a map without the name answers
  pub record Lacks (es : List (List ℕ × V)) (q : List ℕ) : Type 0 where
    pub value : value_under es q ≡ None
    pub pushed : (v : V) → with_value es q v ≡ es ++ (q, v) ∷ []

  pub place_under-lacks : (es : List (List ℕ × V)) (q : List ℕ) → place_under es q ≡ None → Lacks es q
  place_under-lacks [] q e = record { value = refl; pushed = λ v. refl }
  place_under-lacks (x ∷ es) q e =
      let s = place_under-lacks es q there.1 in
      record {
        value = ap (λ b. cond b (Some x.1) (value_under es q)) there.0 ∙ s.value;
        pushed = λ v. ap (λ b. cond b ((x.0, v) ∷ es) (x ∷ with_value es q v)) there.0 ∙ ap (λ l. x ∷ l) (s.pushed v);
      }
    where
      there : (same q x.0 ≡ false) × (place_under es q ≡ None)
      there = elim (same q x.0) as (λ b. same q x.0 ≡ b → cond b (Some 0) (option_map suc (place_under es q)) ≡ None → (same q x.0 ≡ false) × (place_under es q ≡ None)) [
        | true ↦ λ h f. cc
        | false ↦ λ h f. (h, none_suc (place_under es q) f)
      ] refl e

  -- a name without a value has no place
  pub value_under-none : (es : List (List ℕ × V)) (q : List ℕ) → value_under es q ≡ None → place_under es q ≡ None
  value_under-none [] q e = refl
  value_under-none (x ∷ es) q e =
      elim (same q x.0) as (λ b. cond b (Some x.1) (value_under es q) ≡ None → cond b (Some 0) (option_map suc (place_under es q)) ≡ None) [
        | true ↦ λ h. cc
        | false ↦ λ h. ap (option_map suc) (value_under-none es q h)
      ] e

  -- the value stands under the name, and every other name has what it had
  pub value_under-with : (es : List (List ℕ × V)) (k : List ℕ) (v : V) (q : List ℕ)
      → value_under (with_value es k v) q ≡ cond (same q k) (Some v) (value_under es q)
  value_under-with [] k v q = refl
  value_under-with (e ∷ es) k v q =
      let rest : Option V = value_under es q in
      elim (same k e.0) as (λ b. same k e.0 ≡ b
      → value_under (cond b ((e.0, v) ∷ es) (e ∷ with_value es k v)) q ≡ cond (same q k) (Some v) (cond (same q e.0) (Some e.1) rest)) [
        | true ↦ λ one.
            ap (λ (n : List ℕ). cond (same q n) (Some v) rest) (sym (same_text k e.0 (sym one)))
            ∙ shadows (same q k) (Some v) (Some e.1) rest
            ∙ ap (λ (n : List ℕ). cond (same q k) (Some v) (cond (same q n) (Some e.1) rest)) (same_text k e.0 (sym one))
        | false ↦ λ apart.
            ap (cond (same q e.0) (Some e.1)) (value_under-with es k v q)
            ∙ swaps (same q e.0) (same q k) (Some e.1) (Some v) rest (not_both q k e.0 apart)
      ] refl

  -- a value that is set moves no name
  pub place_under-set : (es : List (List ℕ × V)) (i : ℕ) (d : List ℕ × V) (v : V) (q : List ℕ)
      → place_under (set es i ((get_or es i d).0, v)) q ≡ place_under es q
  place_under-set [] i d v q = refl
  place_under-set (x ∷ es) zero d v q = refl
  place_under-set (x ∷ es) (suc i) d v q = ap (λ o. cond (same q x.0) (Some 0) (option_map suc o)) (place_under-set es i d v q)

  -- the same, for an entry that was read
  pub place_under-write : (es : List (List ℕ × V)) (i : ℕ) (d : List ℕ × V) (v : V) (q : List ℕ) → d ≡ get_or es i d
      → place_under (set es i (d.0, v)) q ≡ place_under es q
  place_under-write es i d v q is = ap (λ (e : List ℕ × V). place_under (set es i (e.0, v)) q) is ∙ place_under-set es i d v q

-- the order of texts ties exactly equal ones
pub tied : (k q : List ℕ) → is_eq (slice_cmp nat_cmp k q) ≡ same q k
tied k q = sym (texts_ties k q) ∙ nat_list_eq_equiv.symm k q

module _ {V : Type 0} where
  -- the map of places after a new name
  pub ArePlaces-push : (es after : List (List ℕ × V)) (name key entry : List ℕ) (v : V) (at : ℕ) (m n : BTreeMap (List ℕ) ℕ)
      → ArePlaces es m → key ≡ name → entry ≡ name → at ≡ length es → after ≡ es ++ (entry, v) ∷ [] → place_under es name ≡ None
      → ((q : List ℕ) → get (slice_cmp nat_cmp) n q ≡ cond (is_eq (slice_cmp nat_cmp key q)) (Some at) (get (slice_cmp nat_cmp) m q))
      → ArePlaces after n
  ArePlaces-push es after name key entry v at m n places key_is entry_is at_is after_is new updates q =
      updates q
      ∙ (λ i. cond (tied key q i) (Some (at_is i)) (places q i))
      ∙ ap (λ (k : List ℕ). cond (same q k) (Some (length es)) (place_under es q)) key_is
      ∙ sym (place_under-push es name v q new)
      ∙ ap (λ (k : List ℕ). place_under (es ++ (k, v) ∷ []) q) (sym entry_is)
      ∙ ap (λ (l : List (List ℕ × V)). place_under l q) (sym after_is)

  -- the map of places after a new entry was taken back
  pub ArePlaces-kept : (es pushed after : List (List ℕ × V)) (e : List ℕ × V) (at : ℕ) (m n : BTreeMap (List ℕ) ℕ)
      → ArePlaces es m → at ≡ length es → pushed ≡ es ++ e ∷ [] → after ≡ take at pushed → n.entries ≡ m.entries
      → ArePlaces after n
  ArePlaces-kept es pushed after e at m n places at_is pushed_is after_is same_entries q =
      ap (λ (l : List (List ℕ × ℕ)). lookup (λ (k : List ℕ). is_eq (slice_cmp nat_cmp q k)) l) same_entries
      ∙ places q
      ∙ ap (λ (l : List (List ℕ × V)). place_under l q)
      (sym (after_is ∙ (λ i. take (at_is i) (pushed_is i)) ∙ take-append_seam es (e ∷ [])))
