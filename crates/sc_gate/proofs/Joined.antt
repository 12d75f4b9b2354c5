-- Chains of two lists in sequence.
use Rattle.std.proofs.Common.{◌≡◌, ℕ, ◌+◌, List, [], ◌∷◌, ◌++◌, true, Option, Some, ◌⊎◌, inl, inr, refl, arith}
use Rattle.sc_gate.specs.declared.gate.Wire.{Wire}
use Rattle.sc_gate.specs.Wires.{member}
use Rattle.sc_gate.specs.Chains.{Timed, meets, more, plus, over, best}
use Rattle.sc_gate.proofs.Greatest.{greatest_either, SumOf, greatest_sum, greatest_same, AtSome, greatest_over, greatest_unique}
use Rattle.sc_gate.proofs.Weighs.{Weighs, Begins, greatest_weighs, at_some_from, at_some_wire}

-- the weight of a chain of the first list that ends at a wire, and of one of the second that starts there
abbrev pub Crosses : List Timed → List Timed → Option Wire → Option Wire → ℕ → Type 0
Crosses xs ys from to n = (v : Wire) × (a : ℕ) × (b : ℕ) × Weighs xs from (Some v) a × Weighs ys (Some v) to b × (n ≡ a + b)

abbrev pub Joined : List Timed → List Timed → Option Wire → Option Wire → ℕ → Type 0
Joined xs ys from to n = (Weighs xs from to n ⊎ Weighs ys from to n) ⊎ Crosses xs ys from to n

-- the parts of a chain that goes on after g
split_after : (g : Timed) (xs ys : List Timed) (from to : Option Wire) (n : ℕ) (v : Wire) (m : ℕ) → meets g from ≡ true → member v g.wires ≡ true → n ≡ g.weight + m → Joined xs ys (Some v) to m → Joined (g ∷ xs) ys from to n
split_after g xs ys from to n v m s k e (inl (inl h)) = inl (inl (inr (s, inr (v, m, k, h, e))))
split_after g xs ys from to n v m s k e (inl (inr h)) = inr (v, g.weight, m, inr (s, inl (k, refl)), h, e)
split_after g xs ys from to n v m s k e (inr c) =
    let q : m ≡ c.1 + c.2 = c.5 in
    let r : n ≡ (g.weight + c.1) + c.2 = omega arith in
    inr (c.0, g.weight + c.1, c.2, inr (s, inr (v, c.1, k, c.3, refl)), c.4, r)

split_later : (g : Timed) (xs ys : List Timed) (from to : Option Wire) (n : ℕ) → Joined xs ys from to n → Joined (g ∷ xs) ys from to n
split_later g xs ys from to n (inl (inl h)) = inl (inl (inl h))
split_later g xs ys from to n (inl (inr h)) = inl (inr h)
split_later g xs ys from to n (inr c) = inr (c.0, c.1, c.2, inl c.3, c.4, c.5)

split_begins : (g : Timed) (xs ys : List Timed) (from to : Option Wire) (n : ℕ) → ((f : Option Wire) (m : ℕ) → Weighs (xs ++ ys) f to m → Joined xs ys f to m) →
    meets g from ≡ true → Begins (λ f. Weighs (xs ++ ys) f to) g to n → Joined (g ∷ xs) ys from to n
split_begins g xs ys from to n ih s (inl h) = inl (inl (inr (s, inl h)))
split_begins g xs ys from to n ih s (inr f) = split_after g xs ys from to n f.0 f.1 s f.2 f.4 (ih (Some f.0) f.1 f.3)

-- a chain of two lists lies in one of them, or crosses once
pub split : (xs ys : List Timed) (to from : Option Wire) (n : ℕ) → Weighs (xs ++ ys) from to n → Joined xs ys from to n
split [] ys to from n h = inl (inr h)
split (g ∷ xs) ys to from n (inl h) = split_later g xs ys from to n (split xs ys to from n h)
split (g ∷ xs) ys to from n (inr h) = split_begins g xs ys from to n (split xs ys to) h.0 h.1

pub in_first : (xs ys : List Timed) (to from : Option Wire) (n : ℕ) → Weighs xs from to n → Weighs (xs ++ ys) from to n
in_first [] ys to from n h = absurd h
in_first (g ∷ xs) ys to from n (inl h) = inl (in_first xs ys to from n h)
in_first (g ∷ xs) ys to from n (inr (s, inl h)) = inr (s, inl h)
in_first (g ∷ xs) ys to from n (inr (s, inr (v, m, k, h, e))) = inr (s, inr (v, m, k, in_first xs ys to (Some v) m h, e))

pub in_second : (xs ys : List Timed) (to from : Option Wire) (n : ℕ) → Weighs ys from to n → Weighs (xs ++ ys) from to n
in_second [] ys to from n h = h
in_second (g ∷ xs) ys to from n h = inl (in_second xs ys to from n h)

pub crossing : (xs ys : List Timed) (to from : Option Wire) (v : Wire) (a b n : ℕ) → Weighs xs from (Some v) a → Weighs ys (Some v) to b → n ≡ a + b → Weighs (xs ++ ys) from to n
crossing [] ys to from v a b n h k e = absurd h
crossing (g ∷ xs) ys to from v a b n (inl h) k e = inl (crossing xs ys to from v a b n h k e)
crossing (g ∷ xs) ys to from v a b n (inr (s, inl h)) k e = inr (s, inr (v, b, h.0, in_second xs ys to (Some v) b k, (let w : a ≡ g.weight = h.1 in let r : n ≡ g.weight + b = omega arith in r)))
crossing (g ∷ xs) ys to from v a b n (inr (s, inr (u, m, l, h, w))) k e =
    inr (s, inr (u, m + b, l, crossing xs ys to (Some u) v m b (m + b) h k refl, (let r : n ≡ g.weight + (m + b) = omega arith in r)))

pub join : (xs ys : List Timed) (from to : Option Wire) (n : ℕ) → Joined xs ys from to n → Weighs (xs ++ ys) from to n
join xs ys from to n (inl (inl h)) = in_first xs ys to from n h
join xs ys from to n (inl (inr h)) = in_second xs ys to from n h
join xs ys from to n (inr c) = crossing xs ys to from c.0 c.1 c.2 n c.3 c.4 c.5

-- the wires at which chains of the two lists meet
pub record Covers (xs ys : List Timed) (from to : Option Wire) (vs : List Wire) : Type 0 where
  pub all : (v : Wire) (a b : ℕ) → Weighs xs from (Some v) a → Weighs ys (Some v) to b → member v vs ≡ true

cross_to : (xs ys : List Timed) (from to : Option Wire) (vs : List Wire) → Covers xs ys from to vs → (n : ℕ) → Crosses xs ys from to n → AtSome vs (λ v. SumOf (Weighs xs from (Some v)) (Weighs ys (Some v) to)) n
cross_to xs ys from to vs o n c = at_some_from (λ v. SumOf (Weighs xs from (Some v)) (Weighs ys (Some v) to)) vs n c.0 (o.all c.0 c.1 c.2 c.3 c.4) (c.1, c.2, c.3, c.4, c.5)

cross_from : (xs ys : List Timed) (from to : Option Wire) (vs : List Wire) (n : ℕ) → AtSome vs (λ v. SumOf (Weighs xs from (Some v)) (Weighs ys (Some v) to)) n → Crosses xs ys from to n
cross_from xs ys from to vs n h =
    let r = at_some_wire (λ v. SumOf (Weighs xs from (Some v)) (Weighs ys (Some v) to)) vs n h in
    let s = r.2 in (r.0, s.0, s.1, s.2, s.3, s.4)

-- the greatest weight of a chain of two lists
pub best_append : (xs ys : List Timed) (from to : Option Wire) (vs : List Wire) → Covers xs ys from to vs →
    best (xs ++ ys) from to ≡ more (more (best xs from to) (best ys from to)) (over vs (λ v. plus (best xs from (Some v)) (best ys (Some v) to)))
best_append xs ys from to vs o =
    greatest_unique (Weighs (xs ++ ys) from to) (best (xs ++ ys) from to) (more (more (best xs from to) (best ys from to)) (over vs (λ v. plus (best xs from (Some v)) (best ys (Some v) to))))
    (greatest_weighs (xs ++ ys) to from)
    (greatest_same (Joined xs ys from to) (Weighs (xs ++ ys) from to) (more (more (best xs from to) (best ys from to)) (over vs (λ v. plus (best xs from (Some v)) (best ys (Some v) to))))
    (join xs ys from to) (split xs ys to from)
    (greatest_either (λ n. Weighs xs from to n ⊎ Weighs ys from to n) (Crosses xs ys from to) (more (best xs from to) (best ys from to)) (over vs (λ v. plus (best xs from (Some v)) (best ys (Some v) to)))
    (greatest_either (Weighs xs from to) (Weighs ys from to) (best xs from to) (best ys from to) (greatest_weighs xs to from) (greatest_weighs ys to from))
    (greatest_same (AtSome vs (λ v. SumOf (Weighs xs from (Some v)) (Weighs ys (Some v) to))) (Crosses xs ys from to) (over vs (λ v. plus (best xs from (Some v)) (best ys (Some v) to)))
    (cross_from xs ys from to vs) (cross_to xs ys from to vs o)
    (greatest_over (λ v. SumOf (Weighs xs from (Some v)) (Weighs ys (Some v) to)) (λ v. plus (best xs from (Some v)) (best ys (Some v) to))
    (λ v. greatest_sum (Weighs xs from (Some v)) (Weighs ys (Some v) to) (best xs from (Some v)) (best ys (Some v) to) (greatest_weighs xs (Some v) from) (greatest_weighs ys to (Some v))) vs))))
