-- The last gate before a position on a wire.
use Rattle.std.proofs.Common.{◌≡◌, ℕ, zero, suc, ◌+◌, ◌<◌, ◌≤◌, true, false, Option, Some, None, List, length, get_or, refl, sym, ap, ◌∙◌, arith, inl, inr, ◌⊎◌, add-one, if◌then◌else◌}
use Rattle.std.specs.Prelude.{slice_get}
use Rattle.std.proofs.lemmas.Bool.{false≢true, cases_Bool, cases_lt}
use Rattle.std.proofs.lemmas.Option.{slice_get-get_or}
use Rattle.sc_gate.specs.declared.gate.Wire.{Wire}
use Rattle.sc_gate.specs.declared.gate.Gate.{Gate}
use Rattle.sc_gate.specs.Gates.{operands}
use Rattle.sc_gate.specs.LastGates.{has_wire, has_at, last_on, IsLastOn}
use Rattle.sc_gate.specs.Wires.{member}

some_same : (a b : ℕ) → Some a ≡ Some b → a ≡ b
some_same a b h = cc

none_some : (a : ℕ) → None ≡ Some a → ⊥
none_some a h = cc

last_or_before : (x n : ℕ) → x < suc n → (x ≡ n) ⊎ (x < n)
last_or_before x n h = elim (cases_lt x n) [ inl l ↦ inr l | inr g ↦ inl (omega (arith, h, g)) ]

-- the last one has the wire, and none after it does
pub last_is : (gates : List Gate) (w : Wire) (n p : ℕ) → last_on gates w n ≡ Some p → IsLastOn gates w n p
last_is gates w zero p h = absurd (none_some p h)
last_is gates w (suc n) p h = elim (cases_Bool (has_at gates n w)) [
  | inl t ↦ (let e : n ≡ p = some_same n p (rw t at h) in record { below = omega (arith, e); has = ap (λ (q : ℕ). has_at gates q w) (sym e) ∙ t; last = λ q l b. absurd (omega (arith, e, l, b)) })
  | inr f ↦ (let r : IsLastOn gates w n p = last_is gates w n p (rw f at h) in record { below = omega (arith, r.below); has = r.has; last = λ q l b. elim (last_or_before q n b) [ inl e ↦ ap (λ (q : ℕ). has_at gates q w) e ∙ f | inr m ↦ r.last q l m ] })
]

-- where some gate has the wire there is a last one, not before it
pub record LastFrom (gates : List Gate) (w : Wire) (n x : ℕ) : Type 0 where
  pub at : ℕ
  pub is : last_on gates w n ≡ Some at
  pub not_before : x ≤ at

pub last_from : (gates : List Gate) (w : Wire) (n x : ℕ) → x < n → has_at gates x w ≡ true → LastFrom gates w n x
last_from gates w zero x l h = absurd (omega (arith, l))
last_from gates w (suc n) x l h = elim (cases_Bool (has_at gates n w)) [
  | inl t ↦ record { at = n; is = rw t refl; not_before = omega (arith, l) }
  | inr f ↦ elim (last_or_before x n l) [
    | inl e ↦ absurd (false≢true (sym f ∙ (ap (λ (q : ℕ). has_at gates q w) (sym e) ∙ h)))
    | inr m ↦ (let r : LastFrom gates w n x = last_from gates w n x m h in record { at = r.at; is = rw f r.is; not_before = r.not_before })
  ]
]

-- where none is last, no gate has the wire
pub last_none : (gates : List Gate) (w : Wire) (n x : ℕ) → last_on gates w n ≡ None → x < n → has_at gates x w ≡ false
last_none gates w n x none l = elim (cases_Bool (has_at gates x w)) [
  | inl t ↦ (let r : LastFrom gates w n x = last_from gates w n x l t in absurd (none_some r.at (sym none ∙ r.is)))
  | inr f ↦ f
]

pub last_next : (gates : List Gate) (x : ℕ) (gate : Gate) (w : Wire) → slice_get gates x ≡ Some gate → last_on gates w (suc x) ≡ (if member w (operands gate) then Some x else last_on gates w x)
last_next gates x gate w e = ap (λ (o : Option Gate). if has_wire o w then Some x else last_on gates w x) e

-- a table of the last gates, after one more gate
pub last_more : (gates : List Gate) (x : ℕ) (d : Gate) (w : Wire) (now old : Option ℕ) → x < length gates →
    now ≡ (if member w (operands (get_or gates x d)) then Some x else old) → old ≡ last_on gates w x → now ≡ last_on gates w (x + 1)
last_more gates x d w now old l e is =
    rw add-one (e ∙ (ap (λ (o : Option ℕ). if member w (operands (get_or gates x d)) then Some x else o) is ∙ sym (last_next gates x (get_or gates x d) w (slice_get-get_or gates x d l))))
