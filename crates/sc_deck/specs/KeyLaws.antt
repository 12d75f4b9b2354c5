-- Equality of keys is that of their names and arguments, so equal keys may stand for one another.
use Rattle.std.proofs.Common.{◌≡◌, Bool, true, false, ◌&&◌, nat_eq, refl, sym, ap, ◌∙◌, subst, true≢false}
use Rattle.std.specs.Bool.{Decides}
use Rattle.std.specs.Cmp.{IsEquivalence}
use Rattle.std.specs.Cmp.Lexicographic.{pointwise, pointwise_decides, bytes_decides}
use Rattle.std.proofs.lemmas.Bool.Decides.{Decides-int_eq, Decides-eqb}
use Rattle.sc_base.specs.declared.names.Class.{Class}
use Rattle.sc_base.specs.declared.names.Class.TheVariants.{Q, C}
use Rattle.sc_deck.specs.declared.key.Arg.{Arg}
use Rattle.sc_deck.specs.declared.key.Arg.TheVariants.{Int, Double, One, Many}
use Rattle.sc_deck.specs.declared.key.Key.{Key}
use Rattle.sc_gate.specs.Wires.{same_class}
use Rattle.sc_deck.specs.Keys.{same_arg, same_key}

both_true : (s t : Bool) → (s && t) ≡ true → (s ≡ true) × (t ≡ true)
both_true true t h = (refl, h)
both_true false t h = absurd (true≢false (sym h))

and_true : (s t : Bool) → s ≡ true → t ≡ true → (s && t) ≡ true
and_true s t p q = λ i. p i && q i

-- a test that is true at one value twice is true wherever two values are equal
at_equal : {K : Type 0} (E : K → K → Bool) → ((x : K) → E x x ≡ true) → (x y : K) → x ≡ y → E x y ≡ true
at_equal E own x y e = subst (λ z. E x z ≡ true) e (own x)

pub same_class_decides : (c d : Class) → Decides (same_class c d) (c ≡ d)
same_class_decides Q Q = (λ _. refl, λ _. refl)
same_class_decides C C = (λ _. refl, λ _. refl)
same_class_decides Q C = (λ h. absurd (true≢false (sym h)), λ h. cc)
same_class_decides C Q = (λ h. absurd (true≢false (sym h)), λ h. cc)

own_arg : (a : Arg) → same_arg a a ≡ true
own_arg (Int n) = (Decides-int_eq n n).1 refl
own_arg (Double x) = (Decides-int_eq x.0 x.0).1 refl
own_arg (One c) = (same_class_decides c c).1 refl
own_arg (Many c n) = and_true _ _ ((same_class_decides c c).1 refl) ((Decides-eqb n n).1 refl)

equal_args : (a b : Arg) → same_arg a b ≡ true → a ≡ b
equal_args (Int n) (Int m) h = ap Int ((Decides-int_eq n m).0 h)
equal_args (Double x) (Double y) h = let e = (Decides-int_eq x.0 y.0).0 h in λ i. Double (record { 0 = e i })
equal_args (One c) (One d) h = ap One ((same_class_decides c d).0 h)
equal_args (Many c n) (Many d m) h =
    let p = both_true (same_class c d) (nat_eq n m) h in
    let e = (same_class_decides c d).0 p.0 in
    let f = (Decides-eqb n m).0 p.1 in
    λ i. Many (e i) (f i)
equal_args (Int n) (Double y) h = absurd (true≢false (sym h))
equal_args (Int n) (One d) h = absurd (true≢false (sym h))
equal_args (Int n) (Many d m) h = absurd (true≢false (sym h))
equal_args (Double x) (Int m) h = absurd (true≢false (sym h))
equal_args (Double x) (One d) h = absurd (true≢false (sym h))
equal_args (Double x) (Many d m) h = absurd (true≢false (sym h))
equal_args (One c) (Int m) h = absurd (true≢false (sym h))
equal_args (One c) (Double y) h = absurd (true≢false (sym h))
equal_args (One c) (Many d m) h = absurd (true≢false (sym h))
equal_args (Many c n) (Int m) h = absurd (true≢false (sym h))
equal_args (Many c n) (Double y) h = absurd (true≢false (sym h))
equal_args (Many c n) (One d) h = absurd (true≢false (sym h))

pub same_arg_decides : (a b : Arg) → Decides (same_arg a b) (a ≡ b)
same_arg_decides a b = (equal_args a b, at_equal same_arg own_arg a b)

pub same_key_decides : (a b : Key) → Decides (same_key a b) (a ≡ b)
same_key_decides a b = (
  λ h. let p = both_true (pointwise nat_eq a.name b.name) (pointwise same_arg a.args b.args) h in
      let e = (bytes_decides a.name b.name).0 p.0 in
      let f = (pointwise_decides same_arg_decides a.args b.args).0 p.1 in
      λ i. record { name = e i; args = f i },
  at_equal same_key (λ k. and_true _ _ ((bytes_decides k.name k.name).1 refl) ((pointwise_decides same_arg_decides k.args k.args).1 refl)) a b,
)

-- a test that decides equality is an equivalence
decided_equivalence : {K : Type 0} (E : K → K → Bool) → ((x y : K) → Decides (E x y) (x ≡ y)) → IsEquivalence E
decided_equivalence E decides = record {
  refl = λ x. (decides x x).1 refl;
  symm = λ x y. both_ways x y (E x y) (E y x) refl refl;
  congr = λ x y z h. ap (λ k. E k z) ((decides x y).0 h);
}
  where
    both_ways : (x y : _) (s t : Bool) → E x y ≡ s → E y x ≡ t → E x y ≡ E y x
    both_ways x y true t p q = p ∙ sym ((decides y x).1 (sym ((decides x y).0 p)))
    both_ways x y false true p q = absurd (true≢false (sym ((decides x y).1 (sym ((decides y x).0 q))) ∙ p))
    both_ways x y false false p q = p ∙ sym q

pub same_key_laws : IsEquivalence same_key
same_key_laws = decided_equivalence same_key same_key_decides
