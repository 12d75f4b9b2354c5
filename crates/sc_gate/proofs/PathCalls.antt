-- The laws of a list of gates and then a callee's, of fresh wires, and of chains of weight 0.
use Rattle.std.proofs.Common.{◌≡◌, ℕ, ◌+◌, ◌<◌, List, [], ◌∷◌, ◌++◌, true, false, Option, Some, None, ◌⊎◌, inl, inr, refl, sym, ap, ◌∙◌, subst, arith}
use Rattle.std.specs.Prelude.{max}
use Rattle.sc_gate.specs.declared.gate.Wire.{Wire}
use Rattle.sc_gate.specs.Chains.{Timed, Reached, more, plus, when, over, best}
use Rattle.sc_gate.specs.Paths.{may_start, star, WiresAre, TakeTime, MeetOnlyAt, IsAt, anywhere, call_adds}
use Rattle.sc_gate.specs.Wires.{member}
use Rattle.sc_gate.proofs.Greatest.{greatest_none, greatest_either, SumOf, greatest_sum, greatest_same, greatest_when, AtSome, greatest_over, greatest_unique}
use Rattle.sc_gate.proofs.Weighs.{Weighs, greatest_weighs, at_some_from, at_some_wire}
use Rattle.sc_gate.proofs.Joined.{Joined, split, in_first, in_second, crossing}
use Rattle.sc_gate.proofs.OneMoreGate.{Stars, greatest_stars}
use Rattle.sc_gate.proofs.WireLemmas.{same_wire-true, same_wire-refl}

pub ends_at : (P : Wire → Type 0) (gates : List Timed) (v : Wire) (from : Option Wire) (n : ℕ) → WiresAre P gates → Weighs gates from (Some v) n → P v
ends_at P [] v from n a h = absurd h
ends_at P (g ∷ gates) v from n a (inl h) = ends_at P gates v from n a.1 h
ends_at P (g ∷ gates) v from n a (inr (s, inl h)) = a.0 v h.0
ends_at P (g ∷ gates) v from n a (inr (s, inr (u, m, k, h, e))) = ends_at P gates v (Some u) m a.1 h

pub starts_at : (P : Wire → Type 0) (gates : List Timed) (v : Wire) (to : Option Wire) (n : ℕ) → WiresAre P gates → Weighs gates (Some v) to n → P v
starts_at P [] v to n a h = absurd h
starts_at P (g ∷ gates) v to n a (inl h) = starts_at P gates v to n a.1 h
starts_at P (g ∷ gates) v to n a (inr (s, b)) = a.0 v s

-- a chain that starts at a wire is one that starts anywhere
pub from_any : (gates : List Timed) (from to : Option Wire) (n : ℕ) → Weighs gates from to n → Weighs gates None to n
from_any [] from to n h = h
from_any (g ∷ gates) from to n (inl h) = inl (from_any gates from to n h)
from_any (g ∷ gates) from to n (inr h) = inr (refl, h.1)

pub more_assoc : (a b c : Option ℕ) → more (more a b) c ≡ more a (more b c)
more_assoc None b c = refl
more_assoc (Some a) None c = refl
more_assoc (Some a) (Some b) None = refl
more_assoc (Some a) (Some b) (Some c) = ap Some (let e : max (max a b) c ≡ max a (max b c) = omega arith in e)

-- what a call adds
abbrev pub Entered : List Timed → List Timed → List Wire → Option Wire → Option Wire → ℕ → Type 0
Entered xs ys ws from to n = ((anywhere from ≡ true) × Weighs ys None to n) ⊎ AtSome ws (λ v. SumOf (Stars xs from v) (Weighs ys (Some v) to)) n

entered_at : (xs ys : List Timed) (from to : Option Wire) (v : Wire) (a b n : ℕ) → Stars xs from v a → Weighs ys (Some v) to b → n ≡ a + b → Weighs (xs ++ ys) from to n
entered_at xs ys None to v a b n (inl h) k e =
    let z : a ≡ 0 = h.1 in let q : b ≡ n = omega arith in
    in_second xs ys to None n (subst (λ (m : ℕ). Weighs ys None to m) q (from_any ys (Some v) to b k))
entered_at xs ys (Some u) to v a b n (inl h) k e =
    let z : a ≡ 0 = h.1 in let q : b ≡ n = omega arith in
    let w : v ≡ u = sym (same_wire-true u v h.0) in
    in_second xs ys to (Some u) n (subst (λ (m : ℕ). Weighs ys (Some u) to m) q (subst (λ (x : Wire). Weighs ys (Some x) to b) w k))
entered_at xs ys from to v a b n (inr h) k e = crossing xs ys to from v a b n h k e

call_in : (xs ys : List Timed) (ws : List Wire) (from to : Option Wire) (n : ℕ) → Weighs xs from to n ⊎ Entered xs ys ws from to n → Weighs (xs ++ ys) from to n
call_in xs ys ws from to n (inl h) = in_first xs ys to from n h
call_in xs ys ws None to n (inr (inl h)) = in_second xs ys to None n h.1
call_in xs ys ws (Some u) to n (inr (inl h)) = let e : false ≡ true = h.0 in cc
call_in xs ys ws from to n (inr (inr h)) =
    let r = at_some_wire (λ v. SumOf (Stars xs from v) (Weighs ys (Some v) to)) ws n h in
    let s = r.2 in
    entered_at xs ys from to r.0 s.0 s.1 n s.2 s.3 s.4

entered_from : (xs ys : List Timed) (ws : List Wire) (from to : Option Wire) (n : ℕ) (v : Wire) (a b : ℕ) → member v ws ≡ true → Stars xs from v a → Weighs ys (Some v) to b → n ≡ a + b → Entered xs ys ws from to n
entered_from xs ys ws from to n v a b m s k e = inr (at_some_from (λ v. SumOf (Stars xs from v) (Weighs ys (Some v) to)) ws n v m (a, b, s, k, e))

second_in : (before after : Wire → Type 0) (xs ys : List Timed) (ws : List Wire) (from to : Option Wire) (n : ℕ) → MeetOnlyAt before after ws → IsAt before from → WiresAre after ys → Weighs ys from to n → Entered xs ys ws from to n
second_in before after xs ys ws None to n only p a h = inl (refl, h)
second_in before after xs ys ws (Some u) to n only p a h =
    entered_from xs ys ws (Some u) to n u 0 n (only u p (starts_at after ys u to n a h)) (inl (same_wire-refl u, refl)) h (let e : n ≡ 0 + n = omega arith in e)

call_out : (before after : Wire → Type 0) (xs ys : List Timed) (ws : List Wire) (from to : Option Wire) (n : ℕ) → MeetOnlyAt before after ws → IsAt before from → WiresAre before xs → WiresAre after ys → Joined xs ys from to n → Weighs xs from to n ⊎ Entered xs ys ws from to n
call_out before after xs ys ws from to n only p a b (inl (inl h)) = inl h
call_out before after xs ys ws from to n only p a b (inl (inr h)) = inr (second_in before after xs ys ws from to n only p b h)
call_out before after xs ys ws from to n only p a b (inr c) =
    inr (entered_from xs ys ws from to n c.0 c.1 c.2 (only c.0 (ends_at before xs c.0 from c.1 a c.3) (starts_at after ys c.0 to c.2 b c.4)) (inr c.3) c.4 c.5)

-- the call law: only the callee's own answers, at the call's wires
pub best_call : (before after : Wire → Type 0) (xs ys : List Timed) (ws : List Wire) (from to : Option Wire) → MeetOnlyAt before after ws → IsAt before from → WiresAre before xs → WiresAre after ys →
    best (xs ++ ys) from to ≡ more (best xs from to) (call_adds xs ys ws from to)
best_call before after xs ys ws from to only p a b =
    greatest_unique (Weighs (xs ++ ys) from to) (best (xs ++ ys) from to) (more (best xs from to) (call_adds xs ys ws from to))
    (greatest_weighs (xs ++ ys) to from)
    (greatest_same (λ n. Weighs xs from to n ⊎ Entered xs ys ws from to n) (Weighs (xs ++ ys) from to) (more (best xs from to) (call_adds xs ys ws from to))
    (call_in xs ys ws from to) (λ n h. call_out before after xs ys ws from to n only p a b (split xs ys to from n h))
    (greatest_either (Weighs xs from to) (Entered xs ys ws from to) (best xs from to) (call_adds xs ys ws from to) (greatest_weighs xs to from)
    (greatest_either (λ n. (anywhere from ≡ true) × Weighs ys None to n) (AtSome ws (λ v. SumOf (Stars xs from v) (Weighs ys (Some v) to))) (when (anywhere from) (best ys None to)) (over ws (λ v. plus (star xs from v) (best ys (Some v) to)))
    (greatest_when (Weighs ys None to) (anywhere from) (best ys None to) (greatest_weighs ys to None))
    (greatest_over (λ v. SumOf (Stars xs from v) (Weighs ys (Some v) to)) (λ v. plus (star xs from v) (best ys (Some v) to))
    (λ v. greatest_sum (Stars xs from v) (Weighs ys (Some v) to) (star xs from v) (best ys (Some v) to) (greatest_stars xs from v) (greatest_weighs ys to (Some v))) ws))))

pub star_call : (before after : Wire → Type 0) (xs ys : List Timed) (ws : List Wire) (from : Option Wire) (w : Wire) → MeetOnlyAt before after ws → IsAt before from → WiresAre before xs → WiresAre after ys →
    star (xs ++ ys) from w ≡ more (star xs from w) (call_adds xs ys ws from (Some w))
star_call before after xs ys ws from w only p a b =
    ap (more (when (may_start from w) (Some 0))) (best_call before after xs ys ws from (Some w) only p a b)
    ∙ sym (more_assoc (when (may_start from w) (Some 0)) (best xs from (Some w)) (call_adds xs ys ws from (Some w)))

-- no chain ends at a wire that no gate has
pub best_fresh : (P : Wire → Type 0) (gates : List Timed) (from : Option Wire) (w : Wire) → WiresAre P gates → (P w → ⊥) → best gates from (Some w) ≡ None
best_fresh P gates from w are fresh =
    greatest_unique (Weighs gates from (Some w)) (best gates from (Some w)) None (greatest_weighs gates (Some w) from)
    (greatest_none (Weighs gates from (Some w)) (λ m h. fresh (ends_at P gates w from m are h)))

-- the row of a fresh wire: 0 where a chain may start there
pub star_fresh : (P : Wire → Type 0) (gates : List Timed) (from : Option Wire) (w : Wire) → WiresAre P gates → (P w → ⊥) → star gates from w ≡ more (when (may_start from w) (Some 0)) None
star_fresh P gates from w are fresh = ap (more (when (may_start from w) (Some 0))) (best_fresh P gates from w are fresh)

-- where every gate takes time, no chain weighs 0
pub above_zero : (gates : List Timed) (to from : Option Wire) (n : ℕ) → TakeTime gates → Weighs gates from to n → 0 < n
above_zero [] to from n t h = absurd h
above_zero (g ∷ gates) to from n t (inl h) = above_zero gates to from n t.1 h
above_zero (g ∷ gates) to from n t (inr (s, inl h)) = let p : 0 < g.weight = t.0 in let e : n ≡ g.weight = h.1 in omega arith
above_zero (g ∷ gates) to from n t (inr (s, inr (v, m, k, h, e))) = let p : 0 < g.weight = t.0 in let q : n ≡ g.weight + m = e in omega arith

pub best_above_zero : (gates : List Timed) (from to : Option Wire) (n : ℕ) → TakeTime gates → best gates from to ≡ Some n → 0 < n
best_above_zero gates from to n t e =
    above_zero gates to from n t (subst (Reached (Weighs gates from to)) e (greatest_weighs gates to from).reached)
