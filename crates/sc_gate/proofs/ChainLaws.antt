-- The critical path, weights, and chains of two lists, as laws on chains.
use Rattle.std.proofs.Common.{◌≡◌, ℕ, ◌+◌, ◌≤◌, List, [], ◌∷◌, ◌++◌, Option, Some, None, ◌⊎◌, inl, inr, refl, sym, ap, ◌∙◌, subst, arith, ◌↔◌}
use Rattle.std.proofs.Common.{zero, suc, ◌<◌, length, get_or}
use Rattle.std.specs.Prelude.{unwrap_or, map}
use Rattle.sc_gate.specs.declared.gate.Gate.{Gate}
use Rattle.sc_gate.specs.Gates.{operands}
use Rattle.sc_gate.specs.Wires.{member, Shares}
use Rattle.sc_gate.specs.declared.gate.Wire.{Wire}
use Rattle.sc_gate.specs.Chains.{Timed, timed, meets_at, Depend, Chain, InTwo, Greatest, Reached, Bounds, best, or_zero, critical_of, IsCritical, total_weight}
use Rattle.sc_gate.proofs.Weighs.{Weighs}
use Rattle.sc_gate.proofs.Positions.{chain_of, weighs_of, greatest_chain}
use Rattle.sc_gate.proofs.Joined.{Joined, split, join}

zero_or_reached : (P : ℕ → Type 0) (r : Option ℕ) → Reached P r → (or_zero r ≡ 0) ⊎ P (or_zero r)
zero_or_reached P None h = inl refl
zero_or_reached P (Some n) h = inr h

bounds_zero : (r : Option ℕ) (m : ℕ) → Bounds r m → m ≤ or_zero r
bounds_zero None m h = absurd h
bounds_zero (Some n) m h = h

zero_or_below : (P : ℕ → Type 0) (r : Option ℕ) → Greatest P r → (m : ℕ) → (m ≡ 0) ⊎ P m → m ≤ or_zero r
zero_or_below P r g m (inl e) = omega arith
zero_or_below P r g m (inr p) = bounds_zero r m (g.bounds m p)

pub critical_chain : (gates : List Timed) → IsCritical gates (critical_of gates)
critical_chain gates =
    let g = greatest_chain gates None None in
    record { reached = zero_or_reached (Chain gates None None) (best gates None None) g.reached; bounds = zero_or_below (Chain gates None None) (best gates None None) g }

unwrap_zero : (r : Option ℕ) → unwrap_or r 0 ≡ or_zero r
unwrap_zero None = refl
unwrap_zero (Some n) = refl

-- the critical path, from the greatest weight of a chain
pub critical_by : (gates : List Timed) (r : Option ℕ) (n : ℕ) → n ≡ unwrap_or r 0 → r ≡ best gates None None → IsCritical gates n
critical_by gates r n e b = subst (λ (m : ℕ). IsCritical gates m) (sym (e ∙ unwrap_zero r ∙ ap or_zero b)) (critical_chain gates)

joined_in : (xs ys : List Timed) (from to : Option Wire) (n : ℕ) → Joined xs ys from to n → InTwo xs ys from to n
joined_in xs ys from to n (inl (inl h)) = inl (inl (chain_of xs to from n h))
joined_in xs ys from to n (inl (inr h)) = inl (inr (chain_of ys to from n h))
joined_in xs ys from to n (inr (v, a, b, h, k, e)) = inr (v, a, b, chain_of xs (Some v) from a h, chain_of ys to (Some v) b k, e)

in_joined : (xs ys : List Timed) (from to : Option Wire) (n : ℕ) → InTwo xs ys from to n → Joined xs ys from to n
in_joined xs ys from to n (inl (inl h)) = inl (inl (weighs_of xs to from n h))
in_joined xs ys from to n (inl (inr h)) = inl (inr (weighs_of ys to from n h))
in_joined xs ys from to n (inr (v, a, b, h, k, e)) = inr (v, a, b, weighs_of xs (Some v) from a h, weighs_of ys to (Some v) b k, e)

pub chain_of_two : (xs ys : List Timed) (from to : Option Wire) (n : ℕ) → Chain (xs ++ ys) from to n ↔ InTwo xs ys from to n
chain_of_two xs ys from to n = (
  λ c. joined_in xs ys from to n (split xs ys to from n (weighs_of (xs ++ ys) to from n c)),
  λ c. chain_of (xs ++ ys) to from n (join xs ys from to n (in_joined xs ys from to n c)),
)

weighs_within : (gates : List Timed) (from to : Option Wire) (n : ℕ) → Weighs gates from to n → n ≤ total_weight gates
weighs_within [] from to n h = absurd h
weighs_within (g ∷ gates) from to n (inl h) = let l : n ≤ total_weight gates = weighs_within gates from to n h in omega arith
weighs_within (g ∷ gates) from to n (inr (s, inl (k, e))) = omega arith
weighs_within (g ∷ gates) from to n (inr (s, inr (v, m, k, h, e))) = let l : m ≤ total_weight gates = weighs_within gates (Some v) to m h in omega arith

pub chain_within : (gates : List Timed) (from to : Option Wire) (n : ℕ) → Chain gates from to n → n ≤ total_weight gates
chain_within gates from to n c = weighs_within gates from to n (weighs_of gates to from n c)

pub total_weight-append : (xs ys : List Timed) → total_weight (xs ++ ys) ≡ total_weight xs + total_weight ys
total_weight-append [] ys = omega arith
total_weight-append (g ∷ xs) ys = let e : total_weight (xs ++ ys) ≡ total_weight xs + total_weight ys = total_weight-append xs ys in omega arith

meets_at-timed : (times : List ℕ) (gates : List Gate) (p : ℕ) (d : Gate) (w : Wire) → p < length gates → meets_at (map (timed times) gates) p (Some w) ≡ member w (operands (get_or gates p d))
meets_at-timed times [] p d w h = absurd (omega arith)
meets_at-timed times (g ∷ gates) zero d w h = refl
meets_at-timed times (g ∷ gates) (suc p) d w h = meets_at-timed times gates p d w (omega arith)

-- the gates at two positions depend on each other exactly where they share a wire
pub depend_tells : (times : List ℕ) (gates : List Gate) (p q : ℕ) (d : Gate) → p < length gates → q < length gates →
    Depend (map (timed times) gates) p q ↔ Shares (get_or gates p d) (get_or gates q d)
depend_tells times gates p q d h k = (
  λ s. (s.0, sym (meets_at-timed times gates p d s.0 h) ∙ s.1, sym (meets_at-timed times gates q d s.0 k) ∙ s.2),
  λ s. (s.0, meets_at-timed times gates p d s.0 h ∙ s.1, meets_at-timed times gates q d s.0 k ∙ s.2),
)
