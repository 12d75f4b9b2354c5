-- The laws of one more gate.
use Rattle.std.proofs.Common.{◌≡◌, ℕ, ◌+◌, ◌≤◌, List, [], ◌∷◌, ◌++◌, true, false, Option, Some, None, ◌⊎◌, inl, inr, refl, sym, ap, subst, arith}
use Rattle.sc_gate.specs.declared.gate.Wire.{Wire}
use Rattle.sc_gate.specs.Chains.{Timed, Greatest, meets, more, plus, when, over, best}
use Rattle.sc_gate.specs.Paths.{may_start, star}
use Rattle.sc_gate.specs.Wires.{member}
use Rattle.sc_gate.proofs.Greatest.{Above, greatest_part, greatest_either, SumOf, greatest_sum, greatest_same, greatest_one, greatest_when, AtSome, greatest_over, greatest_unique}
use Rattle.sc_gate.proofs.Weighs.{Weighs, greatest_weighs, at_some_from, at_some_wire}
use Rattle.sc_gate.proofs.Joined.{Joined, split, in_first, in_second, crossing}
use Rattle.sc_gate.proofs.WireLemmas.{same_wire-true, same_wire-refl}

-- the weight of a chain that ends at w, or 0 where it may start there
abbrev pub Stars : List Timed → Option Wire → Wire → ℕ → Type 0
Stars gates from w n = ((may_start from w ≡ true) × (n ≡ 0)) ⊎ Weighs gates from (Some w) n

pub greatest_stars : (gates : List Timed) (from : Option Wire) (w : Wire) → Greatest (Stars gates from w) (star gates from w)
greatest_stars gates from w =
    greatest_either (λ n. (may_start from w ≡ true) × (n ≡ 0)) (Weighs gates from (Some w)) (when (may_start from w) (Some 0)) (best gates from (Some w))
    (greatest_when (λ n. n ≡ 0) (may_start from w) (Some 0) (greatest_one 0)) (greatest_weighs gates (Some w) from)

-- a chain that ends at a wire of g, or none, and then g
abbrev pub Through : List Timed → Timed → Option Wire → ℕ → Type 0
Through gates g from n = AtSome g.wires (λ v. SumOf (λ k. k ≡ g.weight) (Stars gates from v)) n

pub greatest_through : (gates : List Timed) (g : Timed) (from : Option Wire) → Greatest (Through gates g from) (over g.wires (λ v. plus (Some g.weight) (star gates from v)))
greatest_through gates g from =
    greatest_over (λ v. SumOf (λ k. k ≡ g.weight) (Stars gates from v)) (λ v. plus (Some g.weight) (star gates from v))
    (λ v. greatest_sum (λ k. k ≡ g.weight) (Stars gates from v) (Some g.weight) (star gates from v) (greatest_one g.weight) (greatest_stars gates from v)) g.wires

through : (gates : List Timed) (g : Timed) (from : Option Wire) (n : ℕ) (v : Wire) (m : ℕ) → member v g.wires ≡ true → Stars gates from v m → n ≡ g.weight + m → Through gates g from n
through gates g from n v m k s e = at_some_from (λ v. SumOf (λ k. k ≡ g.weight) (Stars gates from v)) g.wires n v k (g.weight, m, refl, s, e)

-- a wire of g where a chain may start with g
same_meets : (g : Timed) (from : Option Wire) (v : Wire) → may_start from v ≡ true → member v g.wires ≡ true → meets g from ≡ true
same_meets g None v h k = refl
same_meets g (Some u) v h k = subst (λ (x : Wire). member x g.wires ≡ true) (sym (same_wire-true u v h)) k

one_gate : (g : Timed) (from to : Option Wire) (n : ℕ) → Weighs (g ∷ []) from to n → (meets g from ≡ true) × (meets g to ≡ true) × (n ≡ g.weight)
one_gate g from to n (inl h) = absurd h
one_gate g from to n (inr (s, inl h)) = (s, h.0, h.1)
one_gate g from to n (inr (s, inr f)) = absurd f.3

the_gate : (g : Timed) (from to : Option Wire) (n : ℕ) → meets g from ≡ true → meets g to ≡ true → n ≡ g.weight → Weighs (g ∷ []) from to n
the_gate g from to n s t e = inr (s, inl (t, e))

-- a chain through g is one of the list with g, to each end of g
through_chain : (gates : List Timed) (g : Timed) (from to : Option Wire) (n : ℕ) (v : Wire) (m : ℕ) → meets g to ≡ true → member v g.wires ≡ true → Stars gates from v m → n ≡ g.weight + m → Weighs (gates ++ g ∷ []) from to n
through_chain gates g from to n v m t k (inl h) e =
    let z : m ≡ 0 = h.1 in
    let w : n ≡ g.weight = omega arith in
    in_second gates (g ∷ []) to from n (the_gate g from to n (same_meets g from v h.0 k) t w)
through_chain gates g from to n v m t k (inr h) e =
    let w : n ≡ m + g.weight = omega arith in
    crossing gates (g ∷ []) to from v m g.weight n h (the_gate g (Some v) to g.weight k t refl) w

pub through_in : (gates : List Timed) (g : Timed) (from to : Option Wire) (n : ℕ) → meets g to ≡ true → Through gates g from n → Weighs (gates ++ g ∷ []) from to n
through_in gates g from to n t h =
    let r = at_some_wire (λ v. SumOf (λ k. k ≡ g.weight) (Stars gates from v)) g.wires n h in
    let s = r.2 in
    let a : s.0 ≡ g.weight = s.2 in
    let b : n ≡ s.0 + s.1 = s.4 in
    let e : n ≡ g.weight + s.1 = omega arith in
    through_chain gates g from to n r.0 s.1 t r.1 s.3 e

-- g alone is a chain through g
alone : (gates : List Timed) (g : Timed) (from : Option Wire) (n : ℕ) (u : Wire) → member u g.wires ≡ true → meets g from ≡ true → n ≡ g.weight → Through gates g from n
alone gates g None n u k m e = through gates g None n u 0 k (inl (refl, refl)) (let w : n ≡ g.weight + 0 = omega arith in w)
alone gates g (Some v) n u k m e = through gates g (Some v) n v 0 m (inl (same_wire-refl v, refl)) (let w : n ≡ g.weight + 0 = omega arith in w)

-- a chain of the list with g lies before g or goes through it
pub last_gate : (gates : List Timed) (g : Timed) (from to : Option Wire) (n : ℕ) (u : Wire) → member u g.wires ≡ true → Joined gates (g ∷ []) from to n → Weighs gates from to n ⊎ Through gates g from n
last_gate gates g from to n u k (inl (inl h)) = inl h
last_gate gates g from to n u k (inl (inr h)) = let o = one_gate g from to n h in inr (alone gates g from n u k o.0 o.2)
last_gate gates g from to n u k (inr c) =
    let o = one_gate g (Some c.0) to c.2 c.4 in
    let a : c.2 ≡ g.weight = o.2 in
    let b : n ≡ c.1 + c.2 = c.5 in
    let e : n ≡ g.weight + c.1 = omega arith in
    inr (through gates g from n c.0 c.1 o.0 (inr c.3) e)

-- the arrival at a wire of g
stars_in : (gates : List Timed) (g : Timed) (from : Option Wire) (w : Wire) → member w g.wires ≡ true → (n : ℕ) → Through gates g from n → Stars (gates ++ g ∷ []) from w n
stars_in gates g from w k n h = inr (through_in gates g from (Some w) n k h)

above_by : (gates : List Timed) (g : Timed) (from : Option Wire) (w : Wire) → member w g.wires ≡ true → (m : ℕ) → Weighs gates from (Some w) m ⊎ Through gates g from m → Above (Through gates g from) m
above_by gates g from w k m (inl h) = record { number = g.weight + m; holds = through gates g from (g.weight + m) w m k (inr h) refl; above = (let l : m ≤ g.weight + m = omega arith in l) }
above_by gates g from w k m (inr h) = record { number = m; holds = h; above = (let l : m ≤ m = omega arith in l) }

stars_above : (gates : List Timed) (g : Timed) (from : Option Wire) (w : Wire) → member w g.wires ≡ true → (m : ℕ) → Stars (gates ++ g ∷ []) from w m → Above (Through gates g from) m
stars_above gates g from w k m (inl h) =
    let z : m ≡ 0 = h.1 in
    record { number = g.weight + 0; holds = through gates g from (g.weight + 0) w 0 k (inl (h.0, refl)) refl; above = (let l : m ≤ g.weight + 0 = omega arith in l) }
stars_above gates g from w k m (inr h) = above_by gates g from w k m (last_gate gates g from (Some w) m w k (split gates (g ∷ []) (Some w) from m h))

pub star_here : (gates : List Timed) (g : Timed) (from : Option Wire) (w : Wire) → member w g.wires ≡ true → star (gates ++ g ∷ []) from w ≡ over g.wires (λ v. plus (Some g.weight) (star gates from v))
star_here gates g from w k =
    greatest_unique (Stars (gates ++ g ∷ []) from w) (star (gates ++ g ∷ []) from w) (over g.wires (λ v. plus (Some g.weight) (star gates from v)))
    (greatest_stars (gates ++ g ∷ []) from w)
    (greatest_part (Through gates g from) (Stars (gates ++ g ∷ []) from w) (over g.wires (λ v. plus (Some g.weight) (star gates from v)))
    (stars_in gates g from w k) (stars_above gates g from w k) (greatest_through gates g from))

-- elsewhere nothing changes
away : (gates : List Timed) (g : Timed) (from : Option Wire) (w : Wire) (n : ℕ) → member w g.wires ≡ false → Joined gates (g ∷ []) from (Some w) n → Weighs gates from (Some w) n
away gates g from w n k (inl (inl h)) = h
away gates g from w n k (inl (inr h)) = let o = one_gate g from (Some w) n h in let e : member w g.wires ≡ true = o.1 in cc
away gates g from w n k (inr c) = let o = one_gate g (Some c.0) (Some w) c.2 c.4 in let e : member w g.wires ≡ true = o.1 in cc

pub star_away : (gates : List Timed) (g : Timed) (from : Option Wire) (w : Wire) → member w g.wires ≡ false → star (gates ++ g ∷ []) from w ≡ star gates from w
star_away gates g from w k =
    ap (more (when (may_start from w) (Some 0)))
    (greatest_unique (Weighs (gates ++ g ∷ []) from (Some w)) (best (gates ++ g ∷ []) from (Some w)) (best gates from (Some w))
    (greatest_weighs (gates ++ g ∷ []) (Some w) from)
    (greatest_same (Weighs gates from (Some w)) (Weighs (gates ++ g ∷ []) from (Some w)) (best gates from (Some w))
    (in_first gates (g ∷ []) (Some w) from) (λ n h. away gates g from w n k (split gates (g ∷ []) (Some w) from n h)) (greatest_weighs gates (Some w) from)))

-- chains that end anywhere
anywhere_in : (gates : List Timed) (g : Timed) (from : Option Wire) (n : ℕ) → Weighs gates from None n ⊎ Through gates g from n → Weighs (gates ++ g ∷ []) from None n
anywhere_in gates g from n (inl h) = in_first gates (g ∷ []) None from n h
anywhere_in gates g from n (inr h) = through_in gates g from None n refl h

pub best_last : (gates : List Timed) (g : Timed) (from : Option Wire) (u : Wire) → member u g.wires ≡ true →
    best (gates ++ g ∷ []) from None ≡ more (best gates from None) (over g.wires (λ v. plus (Some g.weight) (star gates from v)))
best_last gates g from u k =
    greatest_unique (Weighs (gates ++ g ∷ []) from None) (best (gates ++ g ∷ []) from None) (more (best gates from None) (over g.wires (λ v. plus (Some g.weight) (star gates from v))))
    (greatest_weighs (gates ++ g ∷ []) None from)
    (greatest_same (λ n. Weighs gates from None n ⊎ Through gates g from n) (Weighs (gates ++ g ∷ []) from None) (more (best gates from None) (over g.wires (λ v. plus (Some g.weight) (star gates from v))))
    (anywhere_in gates g from) (λ n h. last_gate gates g from None n u k (split gates (g ∷ []) None from n h))
    (greatest_either (Weighs gates from None) (Through gates g from) (best gates from None) (over g.wires (λ v. plus (Some g.weight) (star gates from v))) (greatest_weighs gates None from) (greatest_through gates g from)))
