use Rattle.std.proofs.Common.{◌≡◌, ℕ, ℤ, Option, Some, Bool, cond, ap, ◌∙◌, ◌&&◌, refl, arith, inl, inr}
use Rattle.std.specs.Prelude.{◌==◌}
use Rattle.std.specs.Ordering.{int_eq, is_eq, ordering_then, nat_cmp, int_cmp}
use Rattle.std.proofs.lemmas.Bool.{cases_order, eq-eqb, ne_eqb, lt-ltb, le-ltb}
use Rattle.sc_gate.specs.Gates.{name_of, place_of}
use Rattle.sc_gate.specs.SameGates.{value_of}
use Rattle.sc_sched.specs.Numbering.{number_of}
use Rattle.sc_sched.proofs.kinds.KindTable.put.Goals as goal

-- keys that are equal in their order have the same parts
key_same : (p q : ℕ) (v w : ℤ) → is_eq (ordering_then (nat_cmp p q) (int_cmp v w)) ≡ (p == q && int_eq v w)
key_same p q v w = elim (cases_order p q) [
  | inl e ↦ rw (le-ltb p q (omega (arith, e)), eq-eqb p q e) refl
  | inr o ↦ elim o [
    | inl l ↦ rw (lt-ltb p q l, ne_eqb p q (λ e. omega (arith, l, e))) refl
    | inr g ↦ rw (le-ltb p q (omega (arith, g)), ne_eqb p q (λ e. omega (arith, g, e))) refl
  ]
]

-- the test of a key by its two parts
parts_same : (a b i : ℕ) (v w j : ℤ) → a ≡ b → v ≡ w → (x y : Option ℕ) → cond (is_eq (ordering_then (nat_cmp a i) (int_cmp v j))) x y ≡ cond (b == i && int_eq w j) x y
parts_same a b i v w j e f x y =
    ap (λ (z : Bool). cond z x y) (key_same a i v j) ∙ (ap (λ (z : ℕ). cond (z == i && int_eq v j) x y) e ∙ ap (λ (z : ℤ). cond (b == i && int_eq z j) x y) f)

pub returns-in-Ok-clause-table : goal.returns-in-Ok-clause-table
returns-in-Ok-clause-table c = λ other.
    c.in-Ok.ensures.updates.0 (place_of (name_of other), value_of other)
    ∙ parts_same c.key.result.0 (place_of (name_of c.args.kind.now)) (place_of (name_of other)) c.key.result.1 (value_of c.args.kind.now) (value_of other) c.key.ensures.name c.key.ensures.value (Some c.args.number) (number_of c.args.self.now other)
