-- The first greatest distance, one more gate at a time.
use Rattle.std.proofs.Common.{◌≡◌, ℕ, ◌+◌, ◌<◌, ◌≤◌, ◌^◌, ltb, List, [], ◌∷◌, ◌++◌, length, Some, inl, inr, refl, sym, ap, subst, ◌∙◌, arith}
use Rattle.std.proofs.lemmas.Bool.{cases_lt, ltb-true, ltb-false, cond_both}
use Rattle.std.proofs.lemmas.List.{length_push}
use Rattle.sc_gate.specs.declared.gate.Gate.{Gate}
use Rattle.sc_probe.specs.declared.rule.Rule.TheVariants.{Reach}
use Rattle.sc_probe.specs.States.{raised, Farthest, farthest_numbers}
use Rattle.sc_probe.specs.Rules.{start, step, folded, distance, farthest_after, state_text}
use Rattle.sc_probe.specs.Watched.{IsFirstFarthest, IsTextOf}
use Rattle.sc_probe.proofs.Fronts.{state_holds, raised_fits, value_at, value_at-front, value_at-last, value_at-within, value_at-push}

-- the greatest value, and the first place that has it; both 0 where every value is 0
pub record IsGreatest {X : Type 0} (f : X → ℕ) (xs : List X) (greatest place : ℕ) : Type 0 where
  pub most : (i v : ℕ) → value_at f xs i ≡ Some v → v ≤ greatest
  pub reached : 0 < greatest → value_at f xs place ≡ Some greatest
  pub first : (i : ℕ) → 0 < greatest → value_at f xs i ≡ Some greatest → place ≤ i
  pub none : greatest ≡ 0 → place ≡ 0

greatest_none : {X : Type 0} (f : X → ℕ) → IsGreatest f [] 0 0
greatest_none f = record {
  most = λ i v e. cc;
  reached = λ some. absurd (omega arith);
  first = λ i some e. omega arith;
  none = λ e. refl;
}

greatest_kept : {X : Type 0} (f : X → ℕ) (xs : List X) (x : X) (n p : ℕ) → f x ≤ n → IsGreatest f xs n p → IsGreatest f (xs ++ x ∷ []) n p
greatest_kept f xs x n p below g = record {
  most = λ i v e. elim (value_at-push f xs x i v e) as (λ _. v ≤ n) [ inl a ↦ g.most i v a | inr b ↦ omega (arith, b.1, below) ];
  reached = λ some. value_at-front f xs (x ∷ []) p (value_at-within f xs p n (g.reached some)) ∙ g.reached some;
  first = λ i some e. elim (value_at-push f xs x i n e) as (λ _. p ≤ i) [
    | inl a ↦ g.first i some a
    | inr b ↦ omega (arith, b.0, value_at-within f xs p n (g.reached some))
  ];
  none = g.none;
}

greatest_taken : {X : Type 0} (f : X → ℕ) (xs : List X) (x : X) (n p : ℕ) → n < f x → IsGreatest f xs n p → IsGreatest f (xs ++ x ∷ []) (f x) (length xs)
greatest_taken f xs x n p above g = record {
  most = λ i v e. elim (value_at-push f xs x i v e) as (λ _. v ≤ f x) [ inl a ↦ omega (arith, g.most i v a, above) | inr b ↦ omega (arith, b.1) ];
  reached = λ some. value_at-last f xs x;
  first = λ i some e. elim (value_at-push f xs x i (f x) e) as (λ _. length xs ≤ i) [
    | inl a ↦ absurd (omega (arith, g.most i (f x) a, above))
    | inr b ↦ omega (arith, b.0)
  ];
  none = λ e. absurd (omega (arith, e, above));
}

-- what a state says of the gates that led to it
pub record IsReach (gates : List Gate) (state : List ℕ) : Type 0 where
  pub far : Farthest
  pub numbers : state ≡ farthest_numbers far
  pub seen : far.seen ≡ length gates
  pub greatest : IsGreatest distance gates far.distance far.position

reach_more : (front : List Gate) (gate : Gate) (f : Farthest) → length front + 1 < 2 ^ 128 → f.seen ≡ length front → IsGreatest distance front f.distance f.position →
    IsReach (front ++ gate ∷ []) (farthest_numbers (farthest_after f (distance gate)))
reach_more front gate f short seen_is g =
    let grown : raised f.seen 1 ≡ length (front ++ gate ∷ []) =
    raised_fits f.seen 1 (omega (arith, short, seen_is)) ∙ ap (λ n. n + 1) seen_is ∙ sym (length_push front gate) in
    cond_both {A = Farthest} (ltb f.distance (distance gate)) (record { seen = raised f.seen 1; distance = distance gate; position = f.seen }) (record f { seen = raised f.seen 1 })
    (λ (far : Farthest). IsReach (front ++ gate ∷ []) (farthest_numbers far))
    (λ e. record {
      far = record { seen = raised f.seen 1; distance = distance gate; position = f.seen };
      numbers = refl;
      seen = grown;
      greatest = subst (λ p. IsGreatest distance (front ++ gate ∷ []) (distance gate) p) (sym seen_is)
          (greatest_taken distance front gate f.distance f.position (ltb-true f.distance (distance gate) e) g);
    })
    (λ e. record {
      far = record f { seen = raised f.seen 1 };
      numbers = refl;
      seen = grown;
      greatest = greatest_kept distance front gate f.distance f.position (ltb-false f.distance (distance gate) e) g;
    })

reach_reached : (gates : List Gate) → length gates < 2 ^ 128 → IsReach gates (folded Reach (start Reach) gates)
reach_reached =
    state_holds Reach (2 ^ 128) IsReach
    (record { far = record { seen = 0; distance = 0; position = 0 }; numbers = refl; seen = refl; greatest = greatest_none distance })
    (λ front gate state short r.
    subst (λ s. IsReach (front ++ gate ∷ []) (step Reach s gate)) (sym r.numbers) (reach_more front gate r.far short r.seen r.greatest))

none_above : (a n : ℕ) → a ≤ n → n ≡ 0 → a ≡ n
none_above a n below zero = omega arith

first_farthest : (gate : Gate) (gates : List Gate) (n p : ℕ) → IsGreatest distance (gate ∷ gates) n p → IsFirstFarthest (gate ∷ gates) n p
first_farthest gate gates n p g =
    elim (cases_lt 0 n) as (λ _. IsFirstFarthest (gate ∷ gates) n p) [
      | inl some ↦ record { reached = g.reached some; farthest = g.most; first = λ i e. g.first i some e }
      | inr less ↦
          let zero : n ≡ 0 = omega arith in
          let at_front : p ≡ 0 = g.none zero in
          let flat : distance gate ≡ n = none_above (distance gate) n (g.most 0 (distance gate) refl) zero in
          record {
            reached = subst (λ i. value_at distance (gate ∷ gates) i ≡ Some n) (sym at_front) (ap Some flat);
            farthest = g.most;
            first = λ i e. omega (arith, at_front);
          }
    ]

pub reach_law : (gates : List Gate) → length gates < 2 ^ 128 → IsTextOf Reach gates (state_text Reach (folded Reach (start Reach) gates))
reach_law [] short = IsTextOf.no_reach
reach_law (gate ∷ gates) short =
    let r : IsReach (gate ∷ gates) (folded Reach (start Reach) (gate ∷ gates)) = reach_reached (gate ∷ gates) short in
    subst (λ s. IsTextOf Reach (gate ∷ gates) (state_text Reach s)) (sym r.numbers)
    (IsTextOf.reach (gate ∷ gates) r.far.distance r.far.position (first_farthest gate gates r.far.distance r.far.position r.greatest))
