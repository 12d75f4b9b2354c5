-- Chains, gate by gate from the front.
use Rattle.std.proofs.Common.{◌≡◌, ℕ, ◌+◌, List, [], ◌∷◌, true, Option, Some, ◌⊎◌, inl, inr, refl, sym, subst, arith}
use Rattle.sc_gate.specs.declared.gate.Wire.{Wire}
use Rattle.sc_gate.specs.Wires.{member}
use Rattle.sc_gate.specs.Chains.{Timed, meets, Greatest, more, plus, when, over, best}
use Rattle.sc_gate.proofs.WireLemmas.{member_here, member_later, member_cases}
use Rattle.sc_gate.proofs.Greatest.{greatest_none, greatest_either, SumOf, greatest_sum, greatest_same, greatest_one, greatest_when, AtSome, greatest_over}

-- the weight of a chain of the gates after g, whose first gate has a wire of g
abbrev pub Follows : (Option Wire → ℕ → Type 0) → Timed → ℕ → Type 0
Follows Q g n = (v : Wire) × (m : ℕ) × (member v g.wires ≡ true) × Q (Some v) m × (n ≡ g.weight + m)

-- the weight of a chain that starts with g, and goes on in the gates after it
abbrev pub Begins : (Option Wire → ℕ → Type 0) → Timed → Option Wire → ℕ → Type 0
Begins Q g to n = ((meets g to ≡ true) × (n ≡ g.weight)) ⊎ Follows Q g n

-- the weight of a chain that starts at `from` and ends at `to`
abbrev pub Weighs : List Timed → Option Wire → Option Wire → ℕ → Type 0
Weighs [] from to n = ⊥
Weighs (g ∷ gates) from to n =
    Weighs gates from to n
    ⊎ ((meets g from ≡ true) × Begins (λ f. Weighs gates f to) g to n)

at_some_case : (P : Wire → ℕ → Type 0) (x : Wire) (vs : List Wire) (n : ℕ) (v : Wire) → (member v vs ≡ true → AtSome vs P n) → (x ≡ v) ⊎ (member v vs ≡ true) → P v n → P x n ⊎ AtSome vs P n
at_some_case P x vs n v ih (inl e) p = inl (subst (λ (y : Wire). P y n) (sym e) p)
at_some_case P x vs n v ih (inr h) p = inr (ih h)

pub at_some_from : (P : Wire → ℕ → Type 0) (vs : List Wire) (n : ℕ) (v : Wire) → member v vs ≡ true → P v n → AtSome vs P n
at_some_from P [] n v e p = cc
at_some_from P (x ∷ vs) n v e p = at_some_case P x vs n v (λ h. at_some_from P vs n v h p) (member_cases x v vs e) p

pub at_some_wire : (P : Wire → ℕ → Type 0) (vs : List Wire) (n : ℕ) → AtSome vs P n → (v : Wire) × (member v vs ≡ true) × P v n
at_some_wire P [] n h = absurd h
at_some_wire P (x ∷ vs) n (inl p) = (x, member_here x vs, p)
at_some_wire P (x ∷ vs) n (inr h) = let r = at_some_wire P vs n h in (r.0, member_later x r.0 vs r.1, r.2)

-- a gate and then one of some chains
follows_to : (Q : Option Wire → ℕ → Type 0) (g : Timed) (n : ℕ) → SumOf (λ k. k ≡ g.weight) (AtSome g.wires (λ v. Q (Some v))) n → Follows Q g n
follows_to Q g n s =
    let r = at_some_wire (λ v. Q (Some v)) g.wires s.1 s.3 in
    let w : s.0 ≡ g.weight = s.2 in
    let e : n ≡ s.0 + s.1 = s.4 in
    let k : n ≡ g.weight + s.1 = omega arith in
    (r.0, s.1, r.1, r.2, k)

follows_from : (Q : Option Wire → ℕ → Type 0) (g : Timed) (n : ℕ) → Follows Q g n → SumOf (λ k. k ≡ g.weight) (AtSome g.wires (λ v. Q (Some v))) n
follows_from Q g n f = (g.weight, f.1, refl, at_some_from (λ v. Q (Some v)) g.wires f.1 f.0 f.2 f.3, f.4)

pub greatest_follows : (Q : Option Wire → ℕ → Type 0) (b : Option Wire → Option ℕ) → ((f : Option Wire) → Greatest (Q f) (b f)) → (g : Timed) → Greatest (Follows Q g) (plus (Some g.weight) (over g.wires (λ v. b (Some v))))
greatest_follows Q b h g =
    greatest_same (SumOf (λ k. k ≡ g.weight) (AtSome g.wires (λ v. Q (Some v)))) (Follows Q g) (plus (Some g.weight) (over g.wires (λ v. b (Some v))))
    (follows_to Q g) (follows_from Q g)
    (greatest_sum (λ k. k ≡ g.weight) (AtSome g.wires (λ v. Q (Some v))) (Some g.weight) (over g.wires (λ v. b (Some v)))
    (greatest_one g.weight) (greatest_over (λ v. Q (Some v)) (λ v. b (Some v)) (λ v. h (Some v)) g.wires))

pub greatest_begins : (Q : Option Wire → ℕ → Type 0) (b : Option Wire → Option ℕ) → ((f : Option Wire) → Greatest (Q f) (b f)) → (g : Timed) (to : Option Wire) →
    Greatest (Begins Q g to) (more (when (meets g to) (Some g.weight)) (plus (Some g.weight) (over g.wires (λ v. b (Some v)))))
greatest_begins Q b h g to =
    greatest_either (λ n. (meets g to ≡ true) × (n ≡ g.weight)) (Follows Q g) (when (meets g to) (Some g.weight)) (plus (Some g.weight) (over g.wires (λ v. b (Some v))))
    (greatest_when (λ n. n ≡ g.weight) (meets g to) (Some g.weight) (greatest_one g.weight)) (greatest_follows Q b h g)

pub greatest_weighs : (gates : List Timed) (to from : Option Wire) → Greatest (Weighs gates from to) (best gates from to)
greatest_weighs [] to from = greatest_none (Weighs [] from to) (λ m h. h)
greatest_weighs (g ∷ gates) to from =
    greatest_either (Weighs gates from to) (λ n. (meets g from ≡ true) × Begins (λ f. Weighs gates f to) g to n) (best gates from to)
    (when (meets g from) (more (when (meets g to) (Some g.weight)) (plus (Some g.weight) (over g.wires (λ v. best gates (Some v) to)))))
    (greatest_weighs gates to from)
    (greatest_when (Begins (λ f. Weighs gates f to) g to) (meets g from) (more (when (meets g to) (Some g.weight)) (plus (Some g.weight) (over g.wires (λ v. best gates (Some v) to))))
    (greatest_begins (λ f. Weighs gates f to) (λ f. best gates f to) (λ f. greatest_weighs gates to f) g to))
