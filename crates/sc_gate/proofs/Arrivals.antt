-- The arrival times that are made gate by gate are those of all chains.
use Rattle.std.proofs.Common.{◌≡◌, ℕ, zero, suc, ◌+◌, ◌<◌, ◌≤◌, List, [], ◌∷◌, ◌++◌, Bool, true, false, cond, Option, Some, None, ◌⊎◌, inl, inr, refl, ap, ◌∙◌, subst, arith}
use Rattle.std.specs.Prelude.{map, max, ◌||◌}
use Rattle.std.proofs.lemmas.Bool.{cases_lt}
use Rattle.sc_gate.specs.declared.gate.Wire.{Wire}
use Rattle.sc_gate.specs.Wires.{same_wire, member}
use Rattle.sc_gate.specs.Chains.{Timed, meets_at, wires_at, weight_of, last_of, Linked, Chain, Greatest, largest, start_time, Arrival, IsAfter, after_gate, after, Arrives, wire_of, times_of, arrival_by, more, plus, over, or_zero, best}
use Rattle.sc_gate.proofs.WireLemmas.{member_here, member_later, member_cases}
use Rattle.sc_gate.proofs.Greatest.{Above, AtSome, SumOf, greatest_part, greatest_back, greatest_one, greatest_either, greatest_over, greatest_sum}
use Rattle.sc_gate.proofs.Weighs.{Weighs, greatest_weighs, at_some_wire, at_some_from}
use Rattle.sc_gate.proofs.Positions.{chain_of, weighs_of}

largest_by : (times : Wire → ℕ) (x u : Wire) (ws : List Wire) → (member u ws ≡ true → times u ≤ largest (map times ws)) → (x ≡ u) ⊎ (member u ws ≡ true) → times u ≤ max (times x) (largest (map times ws))
largest_by times x u ws later (inl e) = let q : times x ≡ times u = ap times e in omega arith
largest_by times x u ws later (inr h) = let l : times u ≤ largest (map times ws) = later h in omega arith

pub largest_above : (times : Wire → ℕ) (u : Wire) (ws : List Wire) → member u ws ≡ true → times u ≤ largest (map times ws)
largest_above times u [] h = cc
largest_above times u (x ∷ ws) h = largest_by times x u ws (largest_above times u ws) (member_cases x u ws h)

-- a wire at which the largest time stands
abbrev pub Attains : (Wire → ℕ) → List Wire → Type 0
Attains times ws = (u : Wire) × (member u ws ≡ true) × (largest (map times ws) ≡ times u)

attains_by : (times : Wire → ℕ) (x u : Wire) (ws : List Wire) → member u ws ≡ true → largest (map times ws) ≡ times u → (times u < times x) ⊎ (times x ≤ times u) → Attains times (x ∷ ws)
attains_by times x u ws h e (inl l) = (x, member_here x ws, (let r : max (times x) (largest (map times ws)) ≡ times x = omega arith in r))
attains_by times x u ws h e (inr l) = (u, member_later x u ws h, (let r : max (times x) (largest (map times ws)) ≡ times u = omega arith in r))

pub largest_first : (times : Wire → ℕ) (x : Wire) (ws : List Wire) → Attains times (x ∷ ws)
largest_first times x [] = (x, member_here x [], (let r : max (times x) 0 ≡ times x = omega arith in r))
largest_first times x (y ∷ ws) = let a = largest_first times y ws in attains_by times x a.0 (y ∷ ws) a.1 a.2 (cases_lt (times a.0) (times x))

pub largest_at : (times : Wire → ℕ) (w : Wire) (ws : List Wire) → member w ws ≡ true → Attains times ws
largest_at times w [] h = cc
largest_at times w (x ∷ ws) h = largest_first times x ws

pub after_by : (times : Wire → ℕ) (g : Timed) (w : Wire) (t : Bool) → member w g.wires ≡ t → after_gate times g w ≡ cond t (g.weight + largest (map times g.wires)) (times w)
after_by times g w t h = ap (λ (b : Bool). cond b (g.weight + largest (map times g.wires)) (times w)) h

grows_by : (times : Wire → ℕ) (g : Timed) (w : Wire) (t : Bool) → member w g.wires ≡ t → times w ≤ after_gate times g w
grows_by times g w true h =
    let a : times w ≤ largest (map times g.wires) = largest_above times w g.wires h in
    let e : after_gate times g w ≡ g.weight + largest (map times g.wires) = after_by times g w true h in
    omega arith
grows_by times g w false h = let e : after_gate times g w ≡ times w = after_by times g w false h in omega arith

-- times never fall
pub after_grows : (times : Wire → ℕ) (g : Timed) (w : Wire) → times w ≤ after_gate times g w
after_grows times g w = grows_by times g w (member w g.wires) refl

-- the time at w, or that of a chain from one of its first wires to w
abbrev pub Terms : (Wire → ℕ) → List Timed → Wire → ℕ → Type 0
Terms times gates w n = (n ≡ times w) ⊎ ((u : Wire) × (m : ℕ) × Weighs gates (Some u) (Some w) m × (n ≡ m + times u))

here_by : (times : Wire → ℕ) (g : Timed) (gates : List Timed) (w : Wire) (n : ℕ) (t : Bool) → member w g.wires ≡ t → n ≡ after_gate times g w → Terms times (g ∷ gates) w n
here_by times g gates w n true h e =
    let a = largest_at times w g.wires h in
    let l : largest (map times g.wires) ≡ times a.0 = a.2 in
    let r : after_gate times g w ≡ g.weight + largest (map times g.wires) = after_by times g w true h in
    inr (a.0, g.weight, inr (a.1, inl (h, refl)), (let s : n ≡ g.weight + times a.0 = omega arith in s))
here_by times g gates w n false h e = let r : after_gate times g w ≡ times w = after_by times g w false h in inl (let s : n ≡ times w = omega arith in s)

later_by : (times : Wire → ℕ) (g : Timed) (gates : List Timed) (w : Wire) (n : ℕ) (u : Wire) (m : ℕ) (t : Bool) → member u g.wires ≡ t → Weighs gates (Some u) (Some w) m → n ≡ m + after_gate times g u → Terms times (g ∷ gates) w n
later_by times g gates w n u m true k h e =
    let a = largest_at times u g.wires k in
    let l : largest (map times g.wires) ≡ times a.0 = a.2 in
    let r : after_gate times g u ≡ g.weight + largest (map times g.wires) = after_by times g u true k in
    inr (a.0, g.weight + m, inr (a.1, inr (u, m, k, h, refl)), (let s : n ≡ (g.weight + m) + times a.0 = omega arith in s))
later_by times g gates w n u m false k h e =
    let r : after_gate times g u ≡ times u = after_by times g u false k in
    inr (u, m, inl h, (let s : n ≡ m + times u = omega arith in s))

-- what comes by the times after g comes by the times before it
step_in : (times : Wire → ℕ) (g : Timed) (gates : List Timed) (w : Wire) (n : ℕ) → Terms (after_gate times g) gates w n → Terms times (g ∷ gates) w n
step_in times g gates w n (inl e) = here_by times g gates w n (member w g.wires) refl e
step_in times g gates w n (inr (u, m, h, e)) = later_by times g gates w n u m (member u g.wires) refl h e

step_above : (times : Wire → ℕ) (g : Timed) (gates : List Timed) (w : Wire) (n : ℕ) → Terms times (g ∷ gates) w n → Above (Terms (after_gate times g) gates w) n
step_above times g gates w n (inl e) =
    let l : times w ≤ after_gate times g w = after_grows times g w in
    record { number = after_gate times g w; holds = inl refl; above = (let r : n ≤ after_gate times g w = omega arith in r) }
step_above times g gates w n (inr (u, m, inl h, e)) =
    let l : times u ≤ after_gate times g u = after_grows times g u in
    record { number = m + after_gate times g u; holds = inr (u, m, h, refl); above = (let r : n ≤ m + after_gate times g u = omega arith in r) }
step_above times g gates w n (inr (u, m, inr (s, inl (k, r)), e)) =
    let l : times u ≤ largest (map times g.wires) = largest_above times u g.wires s in
    let a : after_gate times g w ≡ g.weight + largest (map times g.wires) = after_by times g w true k in
    record { number = after_gate times g w; holds = inl refl; above = (let q : n ≤ after_gate times g w = omega arith in q) }
step_above times g gates w n (inr (u, m, inr (s, inr (v, p, k, h, r)), e)) =
    let l : times u ≤ largest (map times g.wires) = largest_above times u g.wires s in
    let a : after_gate times g v ≡ g.weight + largest (map times g.wires) = after_by times g v true k in
    record { number = p + after_gate times g v; holds = inr (v, p, h, refl); above = (let q : n ≤ p + after_gate times g v = omega arith in q) }

no_terms : (times : Wire → ℕ) (w : Wire) (n : ℕ) → Terms times [] w n → n ≤ times w
no_terms times w n (inl e) = omega arith
no_terms times w n (inr (u, m, h, e)) = absurd h

greatest_terms : (gates : List Timed) (times : Wire → ℕ) (w : Wire) → Greatest (Terms times gates w) (Some (after times gates w))
greatest_terms [] times w = record { reached = inl refl; bounds = no_terms times w }
greatest_terms (g ∷ gates) times w =
    greatest_part (Terms (after_gate times g) gates w) (Terms times (g ∷ gates) w) (Some (after (after_gate times g) gates w))
    (step_in times g gates w) (step_above times g gates w) (greatest_terms gates (after_gate times g) w)

-- a chain that ends at a wire starts at one
some_start : (gates : List Timed) (w : Wire) (p : ℕ) (rest : List ℕ) → Linked gates p rest → meets_at gates (last_of p rest) (Some w) ≡ true → (v : Wire) × (meets_at gates p (Some v) ≡ true)
some_start gates w p [] l e = (w, e)
some_start gates w p (q ∷ rest) l e = let d = l.1 in (d.0, d.1)

at_member : (gates : List Timed) (p : ℕ) (v : Wire) → meets_at gates p (Some v) ≡ true → member v (wires_at gates p) ≡ true
at_member [] p v h = cc
at_member (g ∷ gates) zero v h = h
at_member (g ∷ gates) (suc p) v h = at_member gates p v h

member_at : (gates : List Timed) (p : ℕ) (v : Wire) → member v (wires_at gates p) ≡ true → meets_at gates p (Some v) ≡ true
member_at [] p v h = cc
member_at (g ∷ gates) zero v h = h
member_at (g ∷ gates) (suc p) v h = member_at gates p v h

pub meets_any : (gates : List Timed) (p : ℕ) (v : Wire) → meets_at gates p (Some v) ≡ true → meets_at gates p None ≡ true
meets_any [] p v h = cc
meets_any (g ∷ gates) zero v h = refl
meets_any (g ∷ gates) (suc p) v h = meets_any gates p v h

abbrev pub Comes : (Wire → ℕ) → List Timed → Wire → ℕ → Type 0
Comes times gates w n = (n ≡ times w) ⊎ Arrival times gates w n

arrival_terms : (times : Wire → ℕ) (gates : List Timed) (w : Wire) (n : ℕ) → Comes times gates w n → Terms times gates w n
arrival_terms times gates w n (inl e) = inl e
arrival_terms times gates w n (inr a) =
    let s = some_start gates w a.first a.rest a.linked a.ends in
    let l = largest_at times s.0 (wires_at gates a.first) (at_member gates a.first s.0 s.1) in
    let q : start_time times gates a.first ≡ times l.0 = l.2 in
    let e : n ≡ weight_of gates a.first a.rest + start_time times gates a.first = a.is in
    let c : Chain gates (Some l.0) (Some w) (weight_of gates a.first a.rest) = record {
      first = a.first;
      rest = a.rest;
      linked = a.linked;
      starts = member_at gates a.first l.0 l.1;
      ends = a.ends;
      weighs = refl;
    } in
    inr (l.0, weight_of gates a.first a.rest, weighs_of gates (Some w) (Some l.0) (weight_of gates a.first a.rest) c, (let r : n ≡ weight_of gates a.first a.rest + times l.0 = omega arith in r))

arrival_above : (times : Wire → ℕ) (gates : List Timed) (w : Wire) (n : ℕ) → Terms times gates w n → Above (Comes times gates w) n
arrival_above times gates w n (inl e) = record { number = n; holds = inl e; above = (let l : n ≤ n = omega arith in l) }
arrival_above times gates w n (inr (u, m, h, e)) =
    let c : Chain gates (Some u) (Some w) m = chain_of gates (Some w) (Some u) m h in
    let l : times u ≤ start_time times gates c.first = largest_above times u (wires_at gates c.first) (at_member gates c.first u c.starts) in
    let k : m ≡ weight_of gates c.first c.rest = c.weighs in
    record {
      number = weight_of gates c.first c.rest + start_time times gates c.first;
      holds = inr (record { first = c.first; rest = c.rest; linked = c.linked; starts = meets_any gates c.first u c.starts; ends = c.ends; is = refl });
      above = (let r : n ≤ weight_of gates c.first c.rest + start_time times gates c.first = omega arith in r);
    }

pub arrivals : (times : Wire → ℕ) (gates : List Timed) (w : Wire) → IsAfter times gates w (after times gates w)
arrivals times gates w =
    greatest_back (Comes times gates w) (Terms times gates w) (Some (after times gates w)) (arrival_terms times gates w) (arrival_above times gates w) (greatest_terms gates times w)

-- the second list begins at the times that the first leaves
pub after-append : (times : Wire → ℕ) (xs ys : List Timed) → after times (xs ++ ys) ≡ after (after times xs) ys
after-append times [] ys = refl
after-append times (g ∷ xs) ys = after-append (after_gate times g) xs ys

-- what holds of two kinds of numbers, of which each has one above each of the other, has one greatest
same_by : (P Q : ℕ → Type 0) (a b : ℕ) → ((m : ℕ) → P m → Above Q m) → ((m : ℕ) → Q m → Above P m) → Greatest P (Some a) → Greatest Q (Some b) → a ≡ b
same_by P Q a b f g p q =
    let x = f a p.reached in
    let y = g b q.reached in
    let r : x.number ≤ b = q.bounds x.number x.holds in
    let s : y.number ≤ a = p.bounds y.number y.holds in
    let k : a ≤ x.number = x.above in
    let l : b ≤ y.number = y.above in
    omega arith

-- the numbers of which the formula is the greatest
abbrev Parts : List Arrives → List Timed → Wire → ℕ → Type 0
Parts arrivals gates w n =
    (n ≡ times_of arrivals w)
    ⊎ (Weighs gates None (Some w) n ⊎ AtSome (map wire_of arrivals) (λ u. SumOf (λ k. k ≡ times_of arrivals u) (Weighs gates (Some u) (Some w))) n)

some_more : (n : ℕ) (o : Option ℕ) → more (Some n) o ≡ Some (or_zero (more (Some n) o))
some_more n None = refl
some_more n (Some m) = refl

greatest_parts : (arrivals : List Arrives) (gates : List Timed) (w : Wire) → Greatest (Parts arrivals gates w) (Some (arrival_by arrivals (best gates) w))
greatest_parts arrivals gates w =
    let us : List Wire = map wire_of arrivals in
    subst (λ (o : Option ℕ). Greatest (Parts arrivals gates w) o)
    (some_more (times_of arrivals w) (more (best gates None (Some w)) (over (map wire_of arrivals) (λ u. plus (Some (times_of arrivals u)) (best gates (Some u) (Some w))))))
    (greatest_either (λ n. n ≡ times_of arrivals w)
    (λ n. Weighs gates None (Some w) n ⊎ AtSome (map wire_of arrivals) (λ u. SumOf (λ k. k ≡ times_of arrivals u) (Weighs gates (Some u) (Some w))) n)
    (Some (times_of arrivals w)) (more (best gates None (Some w)) (over (map wire_of arrivals) (λ u. plus (Some (times_of arrivals u)) (best gates (Some u) (Some w)))))
    (greatest_one (times_of arrivals w))
    (greatest_either (Weighs gates None (Some w)) (AtSome (map wire_of arrivals) (λ u. SumOf (λ k. k ≡ times_of arrivals u) (Weighs gates (Some u) (Some w))))
    (best gates None (Some w)) (over (map wire_of arrivals) (λ u. plus (Some (times_of arrivals u)) (best gates (Some u) (Some w))))
    (greatest_weighs gates (Some w) None)
    (greatest_over (λ u. SumOf (λ k. k ≡ times_of arrivals u) (Weighs gates (Some u) (Some w))) (λ u. plus (Some (times_of arrivals u)) (best gates (Some u) (Some w)))
    (λ u. greatest_sum (λ k. k ≡ times_of arrivals u) (Weighs gates (Some u) (Some w)) (Some (times_of arrivals u)) (best gates (Some u) (Some w)) (greatest_one (times_of arrivals u)) (greatest_weighs gates (Some w) (Some u)))
    (map wire_of arrivals))))

-- a chain that ends at a wire starts at one, and a chain that starts at a wire starts somewhere
starts_at : (gates : List Timed) (w : Wire) (n : ℕ) → Weighs gates None (Some w) n → (u : Wire) × Weighs gates (Some u) (Some w) n
starts_at [] w n h = absurd h
starts_at (g ∷ gates) w n (inl h) = let r = starts_at gates w n h in (r.0, inl r.1)
starts_at (g ∷ gates) w n (inr (s, inl (k, e))) = (w, inr (k, inl (k, e)))
starts_at (g ∷ gates) w n (inr (s, inr (v, m, k, h, e))) = (v, inr (k, inr (v, m, k, h, e)))

starts_somewhere : (gates : List Timed) (u w : Wire) (n : ℕ) → Weighs gates (Some u) (Some w) n → Weighs gates None (Some w) n
starts_somewhere [] u w n h = absurd h
starts_somewhere (g ∷ gates) u w n (inl h) = inl (starts_somewhere gates u w n h)
starts_somewhere (g ∷ gates) u w n (inr (s, b)) = inr (refl, b)

parts_above : (arrivals : List Arrives) (gates : List Timed) (w : Wire) (n : ℕ) → Parts arrivals gates w n → Above (Terms (times_of arrivals) gates w) n
parts_above arrivals gates w n (inl e) = record { number = n; holds = inl e; above = (let l : n ≤ n = omega arith in l) }
parts_above arrivals gates w n (inr (inl h)) =
    let s = starts_at gates w n h in
    record { number = n + times_of arrivals s.0; holds = inr (s.0, n, s.1, refl); above = (let l : n ≤ n + times_of arrivals s.0 = omega arith in l) }
parts_above arrivals gates w n (inr (inr h)) =
    let r = at_some_wire (λ u. SumOf (λ k. k ≡ times_of arrivals u) (Weighs gates (Some u) (Some w))) (map wire_of arrivals) n h in
    let s = r.2 in
    let t : s.0 ≡ times_of arrivals r.0 = s.2 in
    let e : n ≡ s.0 + s.1 = s.4 in
    record { number = n; holds = inr (r.0, s.1, s.3, (let q : n ≡ s.1 + times_of arrivals r.0 = omega arith in q)); above = (let l : n ≤ n = omega arith in l) }

time_by : (a : Arrives) (arrivals : List Arrives) (u : Wire) (t : Bool) → same_wire a.wire u ≡ t → (member u (map wire_of arrivals) ≡ true) ⊎ (times_of arrivals u ≡ 0) → (member u (map wire_of (a ∷ arrivals)) ≡ true) ⊎ (times_of (a ∷ arrivals) u ≡ 0)
time_by a arrivals u true h k = inl (ap (λ (b : Bool). b || member u (map wire_of arrivals)) h)
time_by a arrivals u false h (inl k) = inl (member_later a.wire u (map wire_of arrivals) k)
time_by a arrivals u false h (inr k) = inr (ap (λ (b : Bool). cond b a.time (times_of arrivals u)) h ∙ k)

-- a wire that has no time of its own has the time 0
listed_or_zero : (arrivals : List Arrives) (u : Wire) → (member u (map wire_of arrivals) ≡ true) ⊎ (times_of arrivals u ≡ 0)
listed_or_zero [] u = inr refl
listed_or_zero (a ∷ arrivals) u = time_by a arrivals u (same_wire a.wire u) refl (listed_or_zero arrivals u)

term_parts : (arrivals : List Arrives) (gates : List Timed) (w u : Wire) (m n : ℕ) → Weighs gates (Some u) (Some w) m → n ≡ m + times_of arrivals u → (member u (map wire_of arrivals) ≡ true) ⊎ (times_of arrivals u ≡ 0) → Parts arrivals gates w n
term_parts arrivals gates w u m n h e (inl k) =
    inr (inr (at_some_from (λ u. SumOf (λ k. k ≡ times_of arrivals u) (Weighs gates (Some u) (Some w))) (map wire_of arrivals) n u k (times_of arrivals u, m, refl, h, (let q : n ≡ times_of arrivals u + m = omega arith in q))))
term_parts arrivals gates w u m n h e (inr z) = inr (inl (subst (λ (x : ℕ). Weighs gates None (Some w) x) (let q : m ≡ n = omega arith in q) (starts_somewhere gates u w m h)))

terms_parts : (arrivals : List Arrives) (gates : List Timed) (w : Wire) (n : ℕ) → Terms (times_of arrivals) gates w n → Parts arrivals gates w n
terms_parts arrivals gates w n (inl e) = inl e
terms_parts arrivals gates w n (inr (u, m, h, e)) = term_parts arrivals gates w u m n h e (listed_or_zero arrivals u)

terms_above : (arrivals : List Arrives) (gates : List Timed) (w : Wire) (n : ℕ) → Terms (times_of arrivals) gates w n → Above (Parts arrivals gates w) n
terms_above arrivals gates w n h = record { number = n; holds = terms_parts arrivals gates w n h; above = (let l : n ≤ n = omega arith in l) }

-- the arrival times of parameter wires, by the table of greatest weights
pub arrivals_by_best : (arrivals : List Arrives) (gates : List Timed) (w : Wire) → after (times_of arrivals) gates w ≡ arrival_by arrivals (best gates) w
arrivals_by_best arrivals gates w =
    same_by (Terms (times_of arrivals) gates w) (Parts arrivals gates w) (after (times_of arrivals) gates w) (arrival_by arrivals (best gates) w)
    (terms_above arrivals gates w) (parts_above arrivals gates w) (greatest_terms gates (times_of arrivals) w) (greatest_parts arrivals gates w)
