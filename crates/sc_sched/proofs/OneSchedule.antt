-- Two priority schedules of a gate list are equal.
use Rattle.std.proofs.Common.{◌≡◌, ℕ, ◌<◌, Bool, Some, List, length, refl, sym, ap, ◌∙◌, ◌&&◌, ◌||◌}
use Rattle.std.specs.Prelude.{◌==◌}
use Rattle.sc_gate.specs.declared.gate.Gate.{Gate}
use Rattle.sc_gate.proofs.Greatest.{greatest_unique}
use Rattle.sc_sched.specs.declared.order.Rank.{Rank}
use Rattle.sc_sched.specs.Legal.{Step, stands_in}
use Rattle.sc_sched.specs.Ranks.{timed_gates, StartsAt, HoldsGate, IsRank}
use Rattle.sc_sched.specs.Step.{size, needed, fits, beside, IsStep, IsOrder}
use Rattle.sc_sched.specs.Schedule.{ready, cut, IsPriority}
use Rattle.sc_sched.specs.PrioritySchedules.{shop_of_gates, IsPrioritySchedule, IsRankOrder}
use Rattle.sc_sched.proofs.Step.{fits_same}
use Rattle.sc_sched.proofs.SameSchedules.{one_schedule}

some_same : (a b : ℕ) → Some a ≡ Some b → a ≡ b
some_same a b h = cc

rank_of : ℕ → ℕ → ℕ → Rank
rank_of h t p = record { height = h; through = t; position = p }

-- a gate has one rank
pub rank_unique : (times : List ℕ) (gates : List Gate) (x : ℕ) (a b : Rank) → IsRank (timed_gates times gates) x a → IsRank (timed_gates times gates) x b → a ≡ b
unfolding rank_of
rank_unique times gates x a b p q =
    let h : a.height ≡ b.height = some_same _ _ (greatest_unique (StartsAt (timed_gates times gates) x) _ _ p.height q.height) in
    let t : a.through ≡ b.through = some_same _ _ (greatest_unique (HoldsGate (timed_gates times gates) x) _ _ p.through q.through) in
    let o : a.position ≡ b.position = p.position ∙ sym q.position in
    ap (λ (n : ℕ). rank_of n a.through a.position) h ∙ (ap (λ (n : ℕ). rank_of b.height n a.position) t ∙ ap (λ (n : ℕ). rank_of b.height b.through n) o)

-- the rules do not look at the order but by what stands beside a gate
fits_order : (gates : List Gate) (k d : ℕ) (f g : ℕ → ℕ → Bool) (c : ℕ → Bool) → fits (shop_of_gates gates k d f) c ≡ fits (shop_of_gates gates k d g) c
unfolding fits needed size
fits_order gates k d f g c = refl

cut_order : (gates : List Gate) (k d : ℕ) (f g : ℕ → ℕ → Bool) (c : ℕ → Bool) → cut (shop_of_gates gates k d f) c ≡ cut (shop_of_gates gates k d g) c
unfolding cut
cut_order gates k d f g c = refl

step_order : (gates : List Gate) (k d : ℕ) (f g : ℕ → ℕ → Bool) (ready c : ℕ → Bool) → ((x y : ℕ) → x < length gates → y < length gates → f x y ≡ g x y) →
    IsStep (shop_of_gates gates k d f) ready c → IsStep (shop_of_gates gates k d g) ready c
step_order gates k d f g ready c same h = record {
  exact = λ x l. h.exact x l ∙ ap (λ (v : Bool). ready x && v)
      (fits_order gates k d f g (beside (shop_of_gates gates k d f) c x)
      ∙ fits_same (shop_of_gates gates k d g) (beside (shop_of_gates gates k d f) c x) (beside (shop_of_gates gates k d g) c x) (λ y b. ap (λ (v : Bool). (y == x) || (c y && v)) (same y x b l)));
}

pub priority_order : (gates : List Gate) (k d : ℕ) (f g : ℕ → ℕ → Bool) (steps : List Step) → ((x y : ℕ) → x < length gates → y < length gates → f x y ≡ g x y) →
    IsPriority (shop_of_gates gates k d f) steps → IsPriority (shop_of_gates gates k d g) steps
priority_order gates k d f g steps same h = record {
  everywhere = h.everywhere;
  not_empty = h.not_empty;
  exact = λ earlier step later e. step_order gates k d f g (ready (shop_of_gates gates k d f) earlier) (stands_in step) same (h.exact earlier step later e);
  regions = λ earlier step later e. h.regions earlier step later e ∙ cut_order gates k d f g (stands_in step);
}

pub order_of_ranks : (comes : Rank → Rank → Bool) (gates : List Gate) (k d : ℕ) (rank : ℕ → Rank) → IsRankOrder comes → ((x : ℕ) → x < length gates → (rank x).position ≡ x) →
    IsOrder (shop_of_gates gates k d (λ x y. comes (rank x) (rank y)))
order_of_ranks comes gates k d rank o at = record {
  irreflexive = λ x. o.irreflexive (rank x);
  transitive = λ x y z a b. o.transitive (rank x) (rank y) (rank z) a b;
  total = λ x y l b p q. sym (at x l) ∙ (o.total (rank x) (rank y) p q ∙ at y b);
}

pub only_schedule : (comes : Rank → Rank → Bool) (times : List ℕ) (gates : List Gate) (k d : ℕ) (xs ys : List Step) → IsRankOrder comes →
    IsPrioritySchedule comes times gates k d xs → IsPrioritySchedule comes times gates k d ys → xs ≡ ys
only_schedule comes times gates k d xs ys o p q =
    let same : (x : ℕ) → x < length gates → q.rank x ≡ p.rank x = λ x l. rank_unique times gates x (q.rank x) (p.rank x) (q.ranked x l) (p.ranked x l) in
    one_schedule (shop_of_gates gates k d (λ x y. comes (p.rank x) (p.rank y))) (order_of_ranks comes gates k d p.rank o (λ x l. (p.ranked x l).position)) xs ys p.taken
    (priority_order gates k d (λ x y. comes (q.rank x) (q.rank y)) (λ x y. comes (p.rank x) (p.rank y)) ys
    (λ x y l b. ap (λ (r : Rank). comes r (q.rank y)) (same x l) ∙ ap (comes (p.rank x)) (same y b)) q.taken)
