-- The qubits of a region, gate by gate.
use Rattle.std.proofs.Common.{◌≡◌, ℕ, zero, suc, ◌+◌, ◌<◌, ◌≤◌, true, List, [], ◌∷◌, length, get_or, take, refl, sym, ◌∙◌, arith}
use Rattle.std.specs.List.{sum_by}
use Rattle.std.proofs.lemmas.Bool.{lt-ltb}
use Rattle.std.proofs.lemmas.List.Sums.{sum_by_more_le}
use Rattle.sc_gate.specs.declared.gate.Gate.{Gate}
use Rattle.sc_sched.specs.Gates.{arity_of, arity_at}
use Rattle.sc_check.specs.Finding.{is_wide}

pub arity_here : (gates : List Gate) (x : ℕ) (d : Gate) → x < length gates → arity_at gates x ≡ arity_of (get_or gates x d)
arity_here [] x d l = absurd (omega (arith, l))
arity_here (g ∷ gates) zero d l = refl
arity_here (g ∷ gates) (suc x) d l = arity_here gates x d (omega (arith, l))

pub wide_now : (gates : List Gate) (region : List ℕ) (i : ℕ) (g : Gate) (d sum arity : ℕ) → i < length region → ((i : ℕ) → i < length region → get_or region i 0 < length gates) →
    sum ≡ sum_by (arity_at gates) (take i region) → arity ≡ arity_of (get_or gates (get_or region i 0) g) → d < sum + arity → is_wide gates d region ≡ true
wide_now gates region i g d sum arity l inside e f h =
    let more : sum_by (arity_at gates) (take i region) + arity_at gates (get_or region i 0) ≤ sum_by (arity_at gates) region = sum_by_more_le (arity_at gates) region i 0 l in
    let here : arity_at gates (get_or region i 0) ≡ arity = arity_here gates (get_or region i 0) g (inside i l) ∙ sym f in
    lt-ltb d _ (omega (arith, more, here, e, h))
