-- Heights and heaviest chains through a gate, computed gate by gate, are those of all chains.
use Rattle.std.proofs.Common.{◌≡◌, ℕ, zero, suc, ◌+◌, ◌<◌, ◌≤◌, List, [], ◌∷◌, length, take, Bool, true, false, cond, Option, Some, None, ◌⊎◌, inl, inr, refl, ap, ◌∙◌, subst, sym, arith, if◌then◌else◌}
use Rattle.std.specs.Prelude.{map, max}
use Rattle.sc_gate.specs.declared.gate.Wire.{Wire}
use Rattle.sc_gate.specs.Wires.{member}
use Rattle.sc_gate.specs.Chains.{Timed, meets, meets_at, wires_at, weight_of, last_of, Linked, Depend, Chain, Greatest, more, plus, when, over, best, or_zero, largest, after_gate, after}
use Rattle.sc_gate.specs.Heights.{ChainFrom, ChainThrough, StandsIn, IsHeight, IsThrough, tail_of, height_at, no_time, through_at}
use Rattle.sc_gate.proofs.Greatest.{Above, greatest_part, greatest_same}
use Rattle.sc_gate.proofs.Weighs.{Weighs, Begins, greatest_weighs, greatest_begins}
use Rattle.sc_gate.proofs.Positions.{later_linked, later_weight, back_of, back_up, back_linked, chain_of, weighs_of}
use Rattle.sc_gate.proofs.Arrivals.{largest_above, largest_at, largest_first, after_by, after_grows, meets_any}

-- a chain that starts with g, by its parts
abbrev Starts : List Timed → Timed → ℕ → Type 0
Starts gates g n = Begins (λ f. Weighs gates f None) g None n

last_there : (gates : List Timed) (p : ℕ) (rest : List ℕ) → meets_at gates p None ≡ true → Linked gates p rest → meets_at gates (last_of p rest) None ≡ true
last_there gates p [] h l = h
last_there gates p (q ∷ rest) h l = let d = l.1 in last_there gates q rest (meets_any gates q d.0 d.2) l.2

starts_of : (g : Timed) (gates : List Timed) (n : ℕ) (rest : List ℕ) → Linked (g ∷ gates) 0 rest → n ≡ weight_of (g ∷ gates) 0 rest → Starts gates g n
starts_of g gates n [] l w = inl (refl, w)
starts_of g gates n (zero ∷ rest) l w = let k : 0 < 0 = l.0 in absurd (omega arith)
starts_of g gates n (suc q ∷ rest) l w =
    let d : Depend (g ∷ gates) 0 (suc q) = l.1 in
    let u : map suc (back_of rest) ≡ rest = back_up q g gates rest l.2 in
    let k : Linked gates q (back_of rest) = back_linked g gates q (back_of rest) (subst (λ (r : List ℕ). Linked (g ∷ gates) (suc q) r) (sym u) l.2) in
    let c : Chain gates (Some d.0) None (weight_of (g ∷ gates) (suc q) rest) = record {
      first = q;
      rest = back_of rest;
      linked = k;
      starts = d.2;
      ends = last_there gates q (back_of rest) (meets_any gates q d.0 d.2) k;
      weighs = ap (λ (r : List ℕ). weight_of (g ∷ gates) (suc q) r) (sym u) ∙ later_weight g gates q (back_of rest);
    } in
    inr (d.0, weight_of (g ∷ gates) (suc q) rest, d.1, weighs_of gates None (Some d.0) (weight_of (g ∷ gates) (suc q) rest) c, w)

-- the positions of a chain that starts with g
abbrev RestOf : Timed → List Timed → ℕ → Type 0
RestOf g gates n = (rest : List ℕ) × Linked (g ∷ gates) 0 rest × (n ≡ weight_of (g ∷ gates) 0 rest)

rest_of : (g : Timed) (gates : List Timed) (n : ℕ) → Starts gates g n → RestOf g gates n
rest_of g gates n (inl h) = ([], tt, h.1)
rest_of g gates n (inr f) =
    let c : Chain gates (Some f.0) None f.1 = chain_of gates None (Some f.0) f.1 f.3 in (
      suc c.first ∷ map suc c.rest,
      (let l : 0 < suc c.first = omega arith in l, (f.0, f.2, c.starts), later_linked g gates c.first c.rest c.linked),
      f.4 ∙ ap (λ (z : ℕ). g.weight + z) (c.weighs ∙ sym (later_weight g gates c.first c.rest)),
    )

or_zero-more : (a b : Option ℕ) → or_zero (more a b) ≡ max (or_zero a) (or_zero b)
or_zero-more None None = refl
or_zero-more None (Some b) = omega arith
or_zero-more (Some a) None = omega arith
or_zero-more (Some a) (Some b) = refl

or_zero-over : (ws : List Wire) (f : Wire → Option ℕ) → or_zero (over ws f) ≡ largest (map (λ v. or_zero (f v)) ws)
or_zero-over [] f = refl
or_zero-over (v ∷ ws) f = or_zero-more (f v) (over ws f) ∙ ap (λ (n : ℕ). max (or_zero (f v)) n) (or_zero-over ws f)

more_plus : (w : ℕ) (o : Option ℕ) → more (Some w) (plus (Some w) o) ≡ Some (w + or_zero o)
more_plus w None = ap Some (let e : w ≡ w + 0 = omega arith in e)
more_plus w (Some n) = ap Some (let e : max w (w + n) ≡ w + n = omega arith in e)

-- the greatest weight of a chain that starts with g
height_here : (g : Timed) (gates : List Timed) →
    more (Some g.weight) (plus (Some g.weight) (over g.wires (λ v. best gates (Some v) None))) ≡ Some (height_at (g ∷ gates) 0)
height_here g gates =
    more_plus g.weight (over g.wires (λ v. best gates (Some v) None))
    ∙ ap (λ (n : ℕ). Some (g.weight + n)) (or_zero-over g.wires (λ v. best gates (Some v) None))

greatest_starts : (g : Timed) (gates : List Timed) → Greatest (Starts gates g) (Some (height_at (g ∷ gates) 0))
greatest_starts g gates =
    subst (λ (o : Option ℕ). Greatest (Starts gates g) o) (height_here g gates)
    (greatest_begins (λ f. Weighs gates f None) (λ f. best gates f None) (λ f. greatest_weighs gates None f) g None)

-- a chain that starts at a wire, or anywhere, and holds the gate at a position
abbrev pub Holds : List Timed → Option Wire → ℕ → ℕ → Type 0
Holds [] from p n = ⊥
Holds (g ∷ gates) from zero n = (meets g from ≡ true) × Starts gates g n
Holds (g ∷ gates) from (suc p) n =
    Holds gates from p n ⊎ ((meets g from ≡ true) × ((v : Wire) × (m : ℕ) × (member v g.wires ≡ true) × Holds gates (Some v) p m × (n ≡ g.weight + m)))

-- the same by positions
abbrev HeldBy : List Timed → Option Wire → ℕ → ℕ → Type 0
HeldBy gates from p n =
    (first : ℕ) × (rest : List ℕ) × Linked gates first rest × (meets_at gates first from ≡ true) × StandsIn p (first ∷ rest) × (n ≡ weight_of gates first rest)

stands_up : (p : ℕ) (qs : List ℕ) → StandsIn p qs → StandsIn (suc p) (map suc qs)
stands_up p [] h = h
stands_up p (q ∷ qs) (inl e) = inl (ap suc e)
stands_up p (q ∷ qs) (inr h) = inr (stands_up p qs h)

stands_down : (p : ℕ) (qs : List ℕ) → StandsIn (suc p) (map suc qs) → StandsIn p qs
stands_down p [] h = h
stands_down p (q ∷ qs) (inl e) = inl (let f : q ≡ p = omega arith in f)
stands_down p (q ∷ qs) (inr h) = inr (stands_down p qs h)

-- a position before the first of a chain does not stand in it
not_before : (gates : List Timed) (p first : ℕ) (rest : List ℕ) → p < first → Linked gates first rest → StandsIn p (first ∷ rest) → ⊥
not_before gates p first [] h l (inl e) = omega arith
not_before gates p first [] h l (inr s) = s
not_before gates p first (q ∷ rest) h l (inl e) = omega arith
not_before gates p first (q ∷ rest) h l (inr s) = let k : first < q = l.0 in not_before gates p q rest (let r : p < q = omega arith in r) l.2 s

held_later : (g : Timed) (gates : List Timed) (from : Option Wire) (p n q : ℕ) (rest : List ℕ) → ((f : Option Wire) (m : ℕ) → HeldBy gates f p m → Holds gates f p m) →
    Linked (g ∷ gates) (suc q) rest → meets_at gates q from ≡ true → StandsIn (suc p) (suc q ∷ rest) → n ≡ weight_of (g ∷ gates) (suc q) rest → Holds gates from p n
held_later g gates from p n q rest ih l s h w =
    let u : map suc (back_of rest) ≡ rest = back_up q g gates rest l in
    ih from n (
      q,
      back_of rest,
      back_linked g gates q (back_of rest) (subst (λ (r : List ℕ). Linked (g ∷ gates) (suc q) r) (sym u) l),
      s,
      stands_down p (q ∷ back_of rest) (subst (λ (r : List ℕ). StandsIn (suc p) (suc q ∷ r)) (sym u) h),
      w ∙ ap (λ (r : List ℕ). weight_of (g ∷ gates) (suc q) r) (sym u) ∙ later_weight g gates q (back_of rest),
    )

held_after : (g : Timed) (gates : List Timed) (from : Option Wire) (p n : ℕ) (rest : List ℕ) → ((f : Option Wire) (m : ℕ) → HeldBy gates f p m → Holds gates f p m) →
    Linked (g ∷ gates) 0 rest → meets g from ≡ true → StandsIn (suc p) (0 ∷ rest) → n ≡ weight_of (g ∷ gates) 0 rest → Holds (g ∷ gates) from (suc p) n
held_after g gates from p n rest ih l s (inl e) w = absurd (omega arith)
held_after g gates from p n [] ih l s (inr h) w = absurd h
held_after g gates from p n (zero ∷ rest) ih l s (inr h) w = let k : 0 < 0 = l.0 in absurd (omega arith)
held_after g gates from p n (suc q ∷ rest) ih l s (inr h) w =
    let d : Depend (g ∷ gates) 0 (suc q) = l.1 in
    inr (s, (d.0, weight_of (g ∷ gates) (suc q) rest, d.1, held_later g gates (Some d.0) p (weight_of (g ∷ gates) (suc q) rest) q rest ih l.2 d.2 h refl, w))

held_by : (g : Timed) (gates : List Timed) (from : Option Wire) (p n first : ℕ) (rest : List ℕ) → ((q : ℕ) (f : Option Wire) (m : ℕ) → HeldBy gates f q m → Holds gates f q m) →
    Linked (g ∷ gates) first rest → meets_at (g ∷ gates) first from ≡ true → StandsIn p (first ∷ rest) → n ≡ weight_of (g ∷ gates) first rest → Holds (g ∷ gates) from p n
held_by g gates from zero n zero rest ih l s h w = (s, starts_of g gates n rest l w)
held_by g gates from zero n (suc q) rest ih l s h w = absurd (not_before (g ∷ gates) 0 (suc q) rest (omega arith) l h)
held_by g gates from (suc p) n zero rest ih l s h w = held_after g gates from p n rest (ih p) l s h w
held_by g gates from (suc p) n (suc q) rest ih l s h w = inl (held_later g gates from p n q rest (ih p) l s h w)

holds_of : (gates : List Timed) (p : ℕ) (from : Option Wire) (n : ℕ) → HeldBy gates from p n → Holds gates from p n
holds_of [] p from n h = let s : false ≡ true = h.3 in absurd (let f : ⊥ = cc in f)
holds_of (g ∷ gates) p from n h = held_by g gates from p n h.0 h.1 (holds_of gates) h.2 h.3 h.4 h.5

-- and back
held_up : (g : Timed) (gates : List Timed) (from : Option Wire) (p n : ℕ) → HeldBy gates from p n → HeldBy (g ∷ gates) from (suc p) n
held_up g gates from p n h =
    (suc h.0, map suc h.1, later_linked g gates h.0 h.1 h.2, h.3, stands_up p (h.0 ∷ h.1) h.4, h.5 ∙ sym (later_weight g gates h.0 h.1))

held_behind : (g : Timed) (gates : List Timed) (from : Option Wire) (p n m : ℕ) (v : Wire) → meets g from ≡ true → member v g.wires ≡ true → n ≡ g.weight + m → HeldBy gates (Some v) p m → HeldBy (g ∷ gates) from (suc p) n
held_behind g gates from p n m v s k e h = (
  0,
  suc h.0 ∷ map suc h.1,
  (let l : 0 < suc h.0 = omega arith in l, (v, k, h.3), later_linked g gates h.0 h.1 h.2),
  s,
  inr (stands_up p (h.0 ∷ h.1) h.4),
  e ∙ ap (λ (z : ℕ). g.weight + z) (h.5 ∙ sym (later_weight g gates h.0 h.1)),
)

of_holds : (gates : List Timed) (p : ℕ) (from : Option Wire) (n : ℕ) → Holds gates from p n → HeldBy gates from p n
of_holds [] p from n h = absurd h
of_holds (g ∷ gates) zero from n h = let r = rest_of g gates n h.1 in (0, r.0, r.1, h.0, inl refl, r.2)
of_holds (g ∷ gates) (suc p) from n (inl h) = held_up g gates from p n (of_holds gates p from n h)
of_holds (g ∷ gates) (suc p) from n (inr (s, (v, m, k, h, e))) = held_behind g gates from p n m v s k e (of_holds gates p (Some v) m h)

-- a chain through the gate at p, after the time of the wire at which it starts
abbrev Held : (Wire → ℕ) → List Timed → ℕ → ℕ → Type 0
Held times gates p n = Holds gates None p n ⊎ ((u : Wire) × (m : ℕ) × Holds gates (Some u) p m × (n ≡ m + times u))

abbrev reach_at : (Wire → ℕ) → List Timed → ℕ → ℕ
reach_at times gates p = height_at gates p + largest (map (after times (take p gates)) (wires_at gates p))

first_reached : (times : Wire → ℕ) (g : Timed) (gates : List Timed) (n : ℕ) (ws : List Wire) → ws ≡ g.wires → Starts gates g n → Held times (g ∷ gates) 0 (n + largest (map times ws))
first_reached times g gates n [] e h = inl (refl, subst (λ (m : ℕ). Starts gates g m) (let q : n ≡ n + 0 = omega arith in q) h)
first_reached times g gates n (w ∷ ws) e h =
    let a = largest_first times w ws in
    let k : member a.0 g.wires ≡ true = subst (λ (l : List Wire). member a.0 l ≡ true) e a.1 in
    inr (a.0, n, (k, h), ap (λ (z : ℕ). n + z) a.2)

first_bound : (times : Wire → ℕ) (g : Timed) (gates : List Timed) (n : ℕ) → Held times (g ∷ gates) 0 n → n ≤ height_at (g ∷ gates) 0 + largest (map times g.wires)
first_bound times g gates n (inl h) =
    let b : n ≤ height_at (g ∷ gates) 0 = (greatest_starts g gates).bounds n h.1 in
    omega arith
first_bound times g gates n (inr (u, m, h, e)) =
    let b : m ≤ height_at (g ∷ gates) 0 = (greatest_starts g gates).bounds m h.1 in
    let l : times u ≤ largest (map times g.wires) = largest_above times u g.wires h.0 in
    omega arith

held_in_by : (times : Wire → ℕ) (g : Timed) (gates : List Timed) (p n : ℕ) (u : Wire) (m : ℕ) (t : Bool) → member u g.wires ≡ t → Holds gates (Some u) p m → n ≡ m + after_gate times g u → Held times (g ∷ gates) (suc p) n
held_in_by times g gates p n u m true k h e =
    let a = largest_at times u g.wires k in
    let l : largest (map times g.wires) ≡ times a.0 = a.2 in
    let r : after_gate times g u ≡ g.weight + largest (map times g.wires) = after_by times g u true k in
    inr (a.0, g.weight + m, inr (a.1, (u, m, k, h, refl)), (let s : n ≡ (g.weight + m) + times a.0 = omega arith in s))
held_in_by times g gates p n u m false k h e =
    let r : after_gate times g u ≡ times u = after_by times g u false k in
    inr (u, m, inl h, (let s : n ≡ m + times u = omega arith in s))

held_in : (times : Wire → ℕ) (g : Timed) (gates : List Timed) (p n : ℕ) → Held (after_gate times g) gates p n → Held times (g ∷ gates) (suc p) n
held_in times g gates p n (inl h) = inl (inl h)
held_in times g gates p n (inr (u, m, h, e)) = held_in_by times g gates p n u m (member u g.wires) refl h e

held_above : (times : Wire → ℕ) (g : Timed) (gates : List Timed) (p n : ℕ) → Held times (g ∷ gates) (suc p) n → Above (Held (after_gate times g) gates p) n
held_above times g gates p n (inl (inl h)) = record { number = n; holds = inl h; above = (let l : n ≤ n = omega arith in l) }
held_above times g gates p n (inl (inr (s, (v, k, j, h, e)))) =
    let a : after_gate times g v ≡ g.weight + largest (map times g.wires) = after_by times g v true j in
    record { number = k + after_gate times g v; holds = inr (v, k, h, refl); above = (let l : n ≤ k + after_gate times g v = omega arith in l) }
held_above times g gates p n (inr (u, m, inl h, e)) =
    let l : times u ≤ after_gate times g u = after_grows times g u in
    record { number = m + after_gate times g u; holds = inr (u, m, h, refl); above = (let r : n ≤ m + after_gate times g u = omega arith in r) }
held_above times g gates p n (inr (u, m, inr (s, (v, k, j, h, q)), e)) =
    let l : times u ≤ largest (map times g.wires) = largest_above times u g.wires s in
    let a : after_gate times g v ≡ g.weight + largest (map times g.wires) = after_by times g v true j in
    record { number = k + after_gate times g v; holds = inr (v, k, h, refl); above = (let r : n ≤ k + after_gate times g v = omega arith in r) }

greatest_held : (gates : List Timed) (p : ℕ) (times : Wire → ℕ) → p < length gates → Greatest (Held times gates p) (Some (reach_at times gates p))
greatest_held [] p times h = absurd (omega arith)
greatest_held (g ∷ gates) zero times h =
    record {
      reached = first_reached times g gates (height_at (g ∷ gates) 0) g.wires refl (greatest_starts g gates).reached;
      bounds = first_bound times g gates;
    }
greatest_held (g ∷ gates) (suc p) times h =
    greatest_part (Held (after_gate times g) gates p) (Held times (g ∷ gates) (suc p)) (Some (reach_at (after_gate times g) gates p))
    (held_in times g gates p) (held_above times g gates p) (greatest_held gates p (after_gate times g) (omega arith))

-- a chain that starts at a wire starts somewhere
held_anywhere : (gates : List Timed) (p : ℕ) (u : Wire) (n : ℕ) → Holds gates (Some u) p n → Holds gates None p n
held_anywhere [] p u n h = absurd h
held_anywhere (g ∷ gates) zero u n h = (refl, h.1)
held_anywhere (g ∷ gates) (suc p) u n (inl h) = inl (held_anywhere gates p u n h)
held_anywhere (g ∷ gates) (suc p) u n (inr (s, r)) = inr (refl, r)

through_of : (gates : List Timed) (p n : ℕ) → Held no_time gates p n → ChainThrough gates p n
through_of gates p n (inl h) =
    let r = of_holds gates p None n h in
    record { first = r.0; rest = r.1; linked = r.2; here = r.3; holds = r.4; weighs = r.5 }
through_of gates p n (inr (u, m, h, e)) =
    let r = of_holds gates p None n (subst (λ (k : ℕ). Holds gates None p k) (let q : m ≡ n = omega arith in q) (held_anywhere gates p u m h)) in
    record { first = r.0; rest = r.1; linked = r.2; here = r.3; holds = r.4; weighs = r.5 }

of_through : (gates : List Timed) (p n : ℕ) → ChainThrough gates p n → Held no_time gates p n
of_through gates p n c = inl (holds_of gates p None n (c.first, c.rest, c.linked, c.here, c.holds, c.weighs))

pub greatest_through : (gates : List Timed) (p : ℕ) → p < length gates → IsThrough gates p (through_at gates p)
greatest_through gates p h =
    greatest_same (Held no_time gates p) (ChainThrough gates p) (Some (through_at gates p)) (through_of gates p) (of_through gates p) (greatest_held gates p no_time h)

-- a chain that starts with the gate at p
from_up : (g : Timed) (gates : List Timed) (p n : ℕ) → ChainFrom gates p n → ChainFrom (g ∷ gates) (suc p) n
from_up g gates p n c = record { rest = map suc c.rest; linked = later_linked g gates p c.rest c.linked; here = c.here; weighs = c.weighs ∙ sym (later_weight g gates p c.rest) }

from_down : (g : Timed) (gates : List Timed) (p n : ℕ) → ChainFrom (g ∷ gates) (suc p) n → ChainFrom gates p n
from_down g gates p n c =
    let u : map suc (back_of c.rest) ≡ c.rest = back_up p g gates c.rest c.linked in
    record {
      rest = back_of c.rest;
      linked = back_linked g gates p (back_of c.rest) (subst (λ (r : List ℕ). Linked (g ∷ gates) (suc p) r) (sym u) c.linked);
      here = c.here;
      weighs = c.weighs ∙ ap (λ (r : List ℕ). weight_of (g ∷ gates) (suc p) r) (sym u) ∙ later_weight g gates p (back_of c.rest);
    }

from_starts : (g : Timed) (gates : List Timed) (n : ℕ) → Starts gates g n → ChainFrom (g ∷ gates) 0 n
from_starts g gates n h = let r = rest_of g gates n h in record { rest = r.0; linked = r.1; here = refl; weighs = r.2 }

starts_from : (g : Timed) (gates : List Timed) (n : ℕ) → ChainFrom (g ∷ gates) 0 n → Starts gates g n
starts_from g gates n c = starts_of g gates n c.rest c.linked c.weighs

pub greatest_height : (gates : List Timed) (p : ℕ) → p < length gates → IsHeight gates p (height_at gates p)
greatest_height [] p h = absurd (omega arith)
greatest_height (g ∷ gates) zero h = greatest_same (Starts gates g) (ChainFrom (g ∷ gates) 0) (Some (height_at (g ∷ gates) 0)) (from_starts g gates) (starts_from g gates) (greatest_starts g gates)
greatest_height (g ∷ gates) (suc p) h = greatest_same (ChainFrom gates p) (ChainFrom (g ∷ gates) (suc p)) (Some (height_at gates p)) (from_up g gates p) (from_down g gates p) (greatest_height gates p (omega arith))

tail_by : (g : Timed) (gates : List Timed) (w : Wire) (t : Bool) → member w g.wires ≡ t → tail_of (g ∷ gates) w ≡ cond t (height_at (g ∷ gates) 0) (tail_of gates w)
tail_by g gates w true h =
    let here : Option ℕ = more (Some g.weight) (plus (Some g.weight) (over g.wires (λ v. best gates (Some v) None))) in
    let l : tail_of gates w ≤ largest (map (tail_of gates) g.wires) = largest_above (tail_of gates) w g.wires h in
    let m : max (tail_of gates w) (height_at (g ∷ gates) 0) ≡ height_at (g ∷ gates) 0 = omega arith in
    ap (λ (b : Bool). or_zero (more (best gates (Some w) None) (when b (more (Some g.weight) (plus (Some g.weight) (over g.wires (λ v. best gates (Some v) None))))))) h
    ∙ ap (λ (o : Option ℕ). or_zero (more (best gates (Some w) None) o)) (height_here g gates)
    ∙ or_zero-more (best gates (Some w) None) (Some (height_at (g ∷ gates) 0))
    ∙ m
tail_by g gates w false h =
    ap (λ (b : Bool). or_zero (more (best gates (Some w) None) (when b (more (Some g.weight) (plus (Some g.weight) (over g.wires (λ v. best gates (Some v) None))))))) h
    ∙ or_zero-more (best gates (Some w) None) None
    ∙ (let m : max (tail_of gates w) 0 ≡ tail_of gates w = omega arith in m)

-- one more gate in front: its height stands at each of its wires
pub tail_of-cons : (g : Timed) (gates : List Timed) (w : Wire) → tail_of (g ∷ gates) w ≡ (if member w g.wires then height_at (g ∷ gates) 0 else tail_of gates w)
tail_of-cons g gates w = tail_by g gates w (member w g.wires) refl
