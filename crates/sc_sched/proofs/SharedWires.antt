-- Wires that two gates share, and tests of the numbers below one.
use Rattle.std.proofs.Common.{◌≡◌, ℕ, zero, suc, ◌<◌, Bool, true, false, Option, Some, None, List, [], ◌∷◌, sym, ap, ◌∙◌, arith, inl, inr}
use Rattle.std.specs.Prelude.{slice_get}
use Rattle.std.specs.List.{list_any}
use Rattle.std.proofs.lemmas.Bool.{false≢true}
use Rattle.std.proofs.lemmas.List.Folds.{list_any-append}
use Rattle.sc_gate.specs.declared.gate.Wire.{Wire}
use Rattle.sc_gate.specs.declared.gate.Gate.{Gate}
use Rattle.sc_gate.specs.Wires.{Shares}
use Rattle.sc_gate.proofs.WireLemmas.{shares_tells}
use Rattle.sc_gate.specs.LastGates.{has_wire, has_at}
use Rattle.sc_sched.specs.Gates.{both_share, shares}
use Rattle.sc_sched.specs.Schedule.{positions}
use Rattle.sc_sched.proofs.Count.{either, or_left, or_right, lt_cases}

-- a wire of both gates
pub record SharedWire (gates : List Gate) (x y : ℕ) : Type 0 where
  pub wire : Wire
  pub first : has_at gates x wire ≡ true
  pub second : has_at gates y wire ≡ true

both_wire : (g h : Option Gate) → both_share g h ≡ true → (w : Wire) × (has_wire g w ≡ true) × (has_wire h w ≡ true)
both_wire None h e = absurd (false≢true e)
both_wire (Some g) None e = absurd (false≢true e)
both_wire (Some g) (Some h) e = let m : Shares g h = (shares_tells g h).0 e in (m.0, m.1, m.2)

wire_both : (g h : Option Gate) (w : Wire) → has_wire g w ≡ true → has_wire h w ≡ true → both_share g h ≡ true
wire_both None h w a b = absurd (false≢true a)
wire_both (Some g) None w a b = absurd (false≢true b)
wire_both (Some g) (Some h) w a b = (shares_tells g h).1 (w, a, b)

pub shared_wire : (gates : List Gate) (x y : ℕ) → shares gates x y ≡ true → SharedWire gates x y
shared_wire gates x y h = let m = both_wire (slice_get gates x) (slice_get gates y) h in record { wire = m.0; first = m.1; second = m.2 }

pub shares_by : (gates : List Gate) (x y : ℕ) (w : Wire) → has_at gates x w ≡ true → has_at gates y w ≡ true → shares gates x y ≡ true
shares_by gates x y w a b = wire_both (slice_get gates x) (slice_get gates y) w a b

-- tests of the numbers below n
pub any_below : (p : ℕ → Bool) (n x : ℕ) → x < n → p x ≡ true → list_any p (positions n) ≡ true
any_below p zero x l h = absurd (omega (arith, l))
any_below p (suc n) x l h = list_any-append p (positions n) (n ∷ []) ∙ elim (lt_cases x n l) [
  | inl e ↦ or_right (list_any p (positions n)) _ (or_left _ false (ap p (sym e) ∙ h))
  | inr m ↦ or_left _ _ (any_below p n x m h)
]

pub some_below_any : (p : ℕ → Bool) (n : ℕ) → list_any p (positions n) ≡ true → (x : ℕ) × (x < n) × (p x ≡ true)
some_below_any p zero h = absurd (false≢true h)
some_below_any p (suc n) h = elim (either (list_any p (positions n)) _ (sym (list_any-append p (positions n) (n ∷ [])) ∙ h)) [
  | inl a ↦ (let r = some_below_any p n a in (r.0, omega (arith, r.1), r.2))
  | inr b ↦ elim (either (p n) false b) [ inl c ↦ (n, omega arith, c) | inr d ↦ absurd (false≢true d) ]
]
