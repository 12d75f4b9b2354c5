-- One gate more of the passes that compute heights and ends.
use Rattle.std.proofs.Common.{◌≡◌, ℕ, zero, suc, ◌+◌, ◌-◌, ◌<◌, ◌≤◌, Option, Some, List, [], ◌∷◌, ◌++◌, length, get_or, map, refl, sym, ap, ◌∙◌, subst, arith, inl, inr, if◌then◌else◌}
use Rattle.std.specs.Prelude.{slice_set}
use Rattle.std.proofs.lemmas.List.{length-map, length-append}
use Rattle.std.proofs.lemmas.Option.{unwrap_or-slice_get}
use Rattle.std.proofs.Math.ListN.{get_or-append}
use Rattle.std.proofs.Math.Seq.{get_or-append_seam}
use Rattle.sc_gate.specs.declared.gate.Wire.{Wire}
use Rattle.sc_gate.specs.declared.gate.Gate.{Gate}
use Rattle.sc_gate.specs.Gates.{operands}
use Rattle.sc_gate.specs.Wires.{member}
use Rattle.sc_gate.specs.Times.{duration, AreTimes}
use Rattle.sc_gate.specs.Chains.{Timed, timed, weight_at, largest}
use Rattle.sc_gate.specs.Heights.{height_at, through_at}
use Rattle.sc_sched.specs.Ranks.{timed_gates, end_at, IsRank}
use Rattle.sc_sched.specs.declared.order.Rank.{Rank}
use Rattle.sc_sched.specs.Laid.{rank_at}
use Rattle.sc_sched.specs.WireTables.{value_or_zero}
use Rattle.sc_sched.proofs.HeaviestChains.{Tails, Ends, timed_here, height_next, tails_next, end_next, ends_next}
use Rattle.sc_sched.proofs.RanksAre.{height_within, through_within, end_within, total_few, is_rank}
use Rattle.sc_sched.proofs.Count.{lt_cases}

-- ranks of a longer list
rank_front : (xs ys : List Rank) (x : ℕ) → x < length xs → rank_at (xs ++ ys) x ≡ rank_at xs x
rank_front [] ys x l = absurd (omega (arith, l))
rank_front (r ∷ xs) ys zero l = refl
rank_front (r ∷ xs) ys (suc x) l = unwrap_or-slice_get (xs ++ ys) x _ ∙ (get_or-append xs ys _ x (omega (arith, l)) ∙ sym (unwrap_or-slice_get xs x _))

rank_end : (xs : List Rank) (r : Rank) (x : ℕ) → x ≡ length xs → rank_at (xs ++ r ∷ []) x ≡ r
rank_end xs r x e =
    let d : Rank = record { height = 0; through = 0; position = x } in
    unwrap_or-slice_get (xs ++ r ∷ []) x d ∙ (ap (λ (n : ℕ). get_or (xs ++ r ∷ []) n d) e ∙ get_or-append_seam xs r [] d)

-- the ranks of the gates before a position
pub record AreRanks (tg : List Timed) (x : ℕ) (ranks : List Rank) : Type 0 where
  pub many : length ranks ≡ x
  pub known : (y : ℕ) → y < x → IsRank tg y (rank_at ranks y)

module _ (times : List ℕ) (gates : List Gate) where
  pub many_timed : length (timed_gates times gates) ≡ length gates
  many_timed = length-map gates (timed times)

  pub height_fits : (x : ℕ) → x < length gates → length gates ≤ 4194304 → AreTimes times → height_at (timed_gates times gates) x ≤ 4194304000000
  height_fits x l few a = omega (arith, height_within (timed_gates times gates) x (omega (arith, many_timed, l)), total_few times gates a, few)

  pub end_fits : (x : ℕ) → x < length gates → length gates ≤ 4194304 → AreTimes times → end_at (timed_gates times gates) x ≤ 4194304000000
  end_fits x l few a = omega (arith, end_within (timed_gates times gates) x (omega (arith, many_timed, l)), total_few times gates a, few)

  pub through_fits : (x : ℕ) → x < length gates → length gates ≤ 4194304 → AreTimes times → through_at (timed_gates times gates) x ≤ 4194304000000
  through_fits x l few a = omega (arith, through_within (timed_gates times gates) x (omega (arith, many_timed, l)), total_few times gates a, few)

  -- what a chain that ends at a gate has before it
  weight_here : (gates : List Gate) (x : ℕ) (g : Gate) → x < length gates → weight_at (timed_gates times gates) x ≡ duration times (get_or gates x g).kind
  weight_here [] x g l = absurd (omega (arith, l))
  weight_here (h ∷ gates) zero g l = refl
  weight_here (h ∷ gates) (suc x) g l = weight_here gates x g (omega (arith, l))

  pub lasts_within : (x : ℕ) (g : Gate) → x < length gates → (end lasting : ℕ) → end ≡ end_at (timed_gates times gates) x → lasting ≡ duration times (get_or gates x g).kind → lasting ≤ end
  lasts_within x g l end lasting e f = omega (arith, weight_here gates x g l, e, f)

  pub through_is : (x : ℕ) (g : Gate) → x < length gates → (height end lasting : ℕ) → height ≡ height_at (timed_gates times gates) x → end ≡ end_at (timed_gates times gates) x → lasting ≡ duration times (get_or gates x g).kind →
      height + (end - lasting) ≡ through_at (timed_gates times gates) x
  through_is x g l height end lasting h e f = omega (arith, weight_here gates x g l, h, e, f)

  module _ (x : ℕ) (g : Gate) (l : x < length gates) (values seen : List ℕ) (same : seen ≡ values) (numbers : Wire → Option ℕ) (lasting greatest : ℕ)
      (first : lasting ≡ duration times (get_or gates x g).kind) (second : greatest ≡ largest (map (λ w. value_or_zero seen (numbers w)) (operands (get_or gates x g)))) where
    inside : x < length (timed_gates times gates)
    inside = omega (arith, many_timed, l)

    total_is : lasting + greatest ≡ duration times (get_or gates x g).kind + largest (map (λ w. value_or_zero values (numbers w)) (operands (get_or gates x g)))
    total_is =
        let e : largest (map (λ w. value_or_zero seen (numbers w)) (operands (get_or gates x g))) ≡ largest (map (λ w. value_or_zero values (numbers w)) (operands (get_or gates x g))) =
        ap (λ (z : List ℕ). largest (map (λ w. value_or_zero z (numbers w)) (operands (get_or gates x g)))) same in
        omega (arith, first, second, e)

    pub height_is : (y : ℕ) → y ≡ suc x → Tails (timed_gates times gates) y values numbers → lasting + greatest ≡ height_at (timed_gates times gates) x
    height_is y e h =
        let s : Tails (timed_gates times gates) (suc x) values numbers = subst (λ (z : ℕ). Tails (timed_gates times gates) z values numbers) e h in
        total_is ∙ height_next (timed_gates times gates) x (timed times g) (timed times (get_or gates x g)) inside (timed_here times gates x g) values numbers s

    pub tails_more : (y : ℕ) → y ≡ suc x → (numbers' : Wire → Option ℕ) → ((w : Wire) → numbers' w ≡ (if member w (operands (get_or gates x g)) then Some x else numbers w)) →
        Tails (timed_gates times gates) y values numbers → Tails (timed_gates times gates) x (slice_set values x (lasting + greatest)) numbers'
    tails_more y e numbers' n h =
        tails_next (timed_gates times gates) x (timed times g) (timed times (get_or gates x g)) inside (timed_here times gates x g) values numbers numbers' (lasting + greatest)
        (subst (λ (z : ℕ). Tails (timed_gates times gates) z values numbers) e h) (height_is y e h) n

    pub end_is : Ends (timed_gates times gates) x values numbers → lasting + greatest ≡ end_at (timed_gates times gates) x
    end_is h = total_is ∙ end_next (timed_gates times gates) x (timed times g) (timed times (get_or gates x g)) inside (timed_here times gates x g) values numbers h

    pub ends_more : (numbers' : Wire → Option ℕ) → ((w : Wire) → numbers' w ≡ (if member w (operands (get_or gates x g)) then Some x else numbers w)) → (y : ℕ) → y ≡ suc x → (values' : List ℕ) → values' ≡ values ++ (lasting + greatest) ∷ [] →
        Ends (timed_gates times gates) x values numbers → Ends (timed_gates times gates) y values' numbers'
    ends_more numbers' n y e values' v h =
        subst (λ (z : ℕ). Ends (timed_gates times gates) z values' numbers') (sym e) (subst (λ (z : List ℕ). Ends (timed_gates times gates) (suc x) z numbers') (sym v)
        (ends_next (timed_gates times gates) x (timed times g) (timed times (get_or gates x g)) inside (timed_here times gates x g) values numbers numbers' (lasting + greatest) h total_is n))

  -- one rank more
  pub ranks_more : (x : ℕ) → x < length gates → (ranks ranks' : List Rank) (rank : Rank) → AreRanks (timed_gates times gates) x ranks → ranks' ≡ ranks ++ rank ∷ [] → rank.height ≡ height_at (timed_gates times gates) x →
      rank.through ≡ through_at (timed_gates times gates) x → rank.position ≡ x → (y : ℕ) → y ≡ suc x → AreRanks (timed_gates times gates) y ranks'
  ranks_more x l ranks ranks' rank h e a b p y f = record {
    many = omega (arith, f, h.many, ap (λ (z : List Rank). length z) e, length-append ranks (rank ∷ []));
    known = λ z c. elim (lt_cases z x (omega (arith, c, f))) [
      | inl g ↦ subst (λ (r : Rank). IsRank (timed_gates times gates) z r) (sym (ap (λ (rs : List Rank). rank_at rs z) e ∙ rank_end ranks rank z (omega (arith, g, h.many))))
          (subst (λ (n : ℕ). IsRank (timed_gates times gates) n rank) (sym g) (is_rank (timed_gates times gates) x (omega (arith, many_timed, l)) rank a b p))
      | inr g ↦ subst (λ (r : Rank). IsRank (timed_gates times gates) z r) (sym (ap (λ (rs : List Rank). rank_at rs z) e ∙ rank_front ranks (rank ∷ []) z (omega (arith, g, h.many)))) (h.known z g)
    ];
  }
