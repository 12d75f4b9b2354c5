-- The first longest run, one more gate at a time.
use Rattle.std.proofs.Common.{◌≡◌, ℕ, ◌+◌, ◌-◌, ◌<◌, ◌≤◌, ◌^◌, ltb, eqb, min, ◌&&◌, List, [], ◌∷◌, ◌++◌, length, Some, ◌⊎◌, inl, inr, refl, sym, ap, subst, ◌∙◌, arith}
use Rattle.std.proofs.lemmas.Bool.{cases_lt, ltb-true, ltb-false, eqb-true, eqb-false, cond_both, and_parts, and_cases}
use Rattle.std.proofs.lemmas.List.{length_push}
use Rattle.sc_gate.specs.declared.gate.Gate.{Gate}
use Rattle.sc_gate.specs.Gates.{name_of}
use Rattle.sc_probe.specs.declared.rule.Rule.TheVariants.{Burst}
use Rattle.sc_probe.specs.States.{raised, Run, Bursts, burst_numbers}
use Rattle.sc_probe.specs.Rules.{start, step, folded, place, run_after, longer, bursts_after, state_text}
use Rattle.sc_probe.specs.Watched.{IsRun, IsFirstLongest, IsTextOf}
use Rattle.sc_probe.proofs.Fronts.{state_holds, raised_fits, value_at, value_at-front, value_at-last, value_at-within, some_same}
use Rattle.sc_probe.proofs.PlaceLemmas.{place_of-le}

-- what is known of the run of the last gates
pub record IsTail (gates : List Gate) (run : Run) : Type 0 where
  pub ends : run.start + run.size ≡ length gates
  pub small : run.name ≤ 17
  pub named : (i : ℕ) → i < run.size → value_at place gates (run.start + i) ≡ Some run.name
  pub longest : (other : Run) → IsRun gates other → other.start + other.size ≡ length gates → other.size ≤ run.size

-- what is known of the best run, which may be empty
pub record IsBest (gates : List Gate) (run : Run) : Type 0 where
  pub named : (i : ℕ) → i < run.size → value_at place gates (run.start + i) ≡ Some run.name
  pub longest : (other : Run) → IsRun gates other → other.size ≤ run.size
  pub first : (other : Run) → IsRun gates other → other.size ≡ run.size → run.start ≤ other.start

run_within : (gates : List Gate) (run : Run) → IsRun gates run → run.start + run.size ≤ length gates
run_within gates run r =
    let last : run.start + (run.size - 1) < length gates =
    value_at-within place gates (run.start + (run.size - 1)) run.name (r.named (run.size - 1) (omega (arith, r.some))) in
    omega (arith, r.some, last)

-- a run that ends in front of the last gate
run_front : (gates : List Gate) (gate : Gate) (run : Run) → IsRun (gates ++ gate ∷ []) run → run.start + run.size ≤ length gates → IsRun gates run
run_front gates gate run r within = record {
  some = r.some;
  named = λ i h. sym (value_at-front place gates (gate ∷ []) (run.start + i) (omega arith)) ∙ r.named i h;
}

-- a run that ends with the last gate, without that gate
run_shorter : (gates : List Gate) (gate : Gate) (run : Run) → IsRun (gates ++ gate ∷ []) run → 2 ≤ run.size → run.start + run.size ≡ length gates + 1 →
    IsRun gates (record run { size = run.size - 1 })
run_shorter gates gate run r two ends = record {
  some = omega arith;
  named = λ i h. sym (value_at-front place gates (gate ∷ []) (run.start + i) (omega arith)) ∙ r.named i (omega arith);
}

run_name : (gates : List Gate) (gate : Gate) (run : Run) → IsRun (gates ++ gate ∷ []) run → run.start + run.size ≡ length gates + 1 → run.name ≡ place gate
run_name gates gate run r ends =
    let last : run.start + (run.size - 1) ≡ length gates = omega (arith, r.some) in
    let there : value_at place (gates ++ gate ∷ []) (length gates) ≡ Some run.name =
    subst (λ k. value_at place (gates ++ gate ∷ []) k ≡ Some run.name) last (r.named (run.size - 1) (omega (arith, r.some))) in
    some_same run.name (place gate) (sym there ∙ value_at-last place gates gate)

-- the run ends in front of the last gate or with it
run_ends : (gates : List Gate) (gate : Gate) (run : Run) → IsRun (gates ++ gate ∷ []) run → (run.start + run.size ≤ length gates) ⊎ (run.start + run.size ≡ length gates + 1)
run_ends gates gate run r =
    let within : run.start + run.size ≤ length (gates ++ gate ∷ []) = run_within (gates ++ gate ∷ []) run r in
    let size : length (gates ++ gate ∷ []) ≡ length gates + 1 = length_push gates gate in
    elim (cases_lt (length gates) (run.start + run.size)) as (λ _. (run.start + run.size ≤ length gates) ⊎ (run.start + run.size ≡ length gates + 1)) [
      | inl past ↦ inr (omega arith)
      | inr in_front ↦ inl in_front
    ]

tail_on : (gates : List Gate) (gate : Gate) (run : Run) → IsTail gates run → run.name ≡ place gate → IsTail (gates ++ gate ∷ []) (record run { size = run.size + 1 })
tail_on gates gate run t same =
    let size : length (gates ++ gate ∷ []) ≡ length gates + 1 = length_push gates gate in
    record {
      ends = omega (arith, t.ends, size);
      small = t.small;
      named = λ i h. elim (cases_lt i run.size) as (λ _. value_at place (gates ++ gate ∷ []) (run.start + i) ≡ Some run.name) [
        | inl before ↦ value_at-front place gates (gate ∷ []) (run.start + i) (omega (arith, t.ends)) ∙ t.named i before
        | inr last ↦
            let here : length gates ≡ run.start + i = omega (arith, t.ends) in
            subst (λ k. value_at place (gates ++ gate ∷ []) k ≡ Some run.name) here (value_at-last place gates gate ∙ ap Some (sym same))
      ];
      longest = λ other r ends. elim (cases_lt other.size 2) as (λ _. other.size ≤ run.size + 1) [
        | inl one ↦ omega arith
        | inr two ↦
            let stops : other.start + other.size ≡ length gates + 1 = ends ∙ size in
            let shorter : other.size - 1 ≤ run.size =
            t.longest (record other { size = other.size - 1 }) (run_shorter gates gate other r two stops) (omega arith) in
            omega arith
      ];
    }

tail_new : (gates : List Gate) (gate : Gate) (run : Run) → IsTail gates run → (0 < run.size → run.name ≡ place gate → ⊥) →
    IsTail (gates ++ gate ∷ []) (record { name = place gate; size = 1; start = length gates })
tail_new gates gate run t other_name =
    let size : length (gates ++ gate ∷ []) ≡ length gates + 1 = length_push gates gate in
    record {
      ends = sym size;
      small = place_of-le (name_of gate.kind);
      named = λ i h.
          let here : length gates ≡ length gates + i = omega arith in
          subst (λ k. value_at place (gates ++ gate ∷ []) k ≡ Some (place gate)) here (value_at-last place gates gate);
      longest = λ other r ends. elim (cases_lt other.size 2) as (λ _. other.size ≤ 1) [
        | inl one ↦ omega arith
        | inr two ↦
            let stops : other.start + other.size ≡ length gates + 1 = ends ∙ size in
            let less = run_shorter gates gate other r two stops in
            let shorter : other.size - 1 ≤ run.size = t.longest (record other { size = other.size - 1 }) less (omega arith) in
            let some : 0 < run.size = omega arith in
            let before : other.start + (other.size - 2) ≡ run.start + (run.size - 1) = omega (arith, t.ends) in
            let theirs : value_at place gates (run.start + (run.size - 1)) ≡ Some other.name =
            subst (λ k. value_at place gates k ≡ Some other.name) before (less.named (other.size - 2) (omega arith)) in
            let one_name : run.name ≡ other.name = some_same run.name other.name (sym (t.named (run.size - 1) (omega arith)) ∙ theirs) in
            absurd (other_name some (one_name ∙ run_name gates gate other r stops))
      ];
    }

best_more : (gates : List Gate) (gate : Gate) (best run : Run) → IsBest gates best → IsTail (gates ++ gate ∷ []) run → IsBest (gates ++ gate ∷ []) (longer best run)
best_more gates gate best run b t =
    let size : length (gates ++ gate ∷ []) ≡ length gates + 1 = length_push gates gate in
    cond_both (ltb best.size run.size) run best (IsBest (gates ++ gate ∷ []))
    (λ e.
    let above : best.size < run.size = ltb-true best.size run.size e in
    record {
      named = t.named;
      longest = λ other r. elim (run_ends gates gate other r) as (λ _. other.size ≤ run.size) [
        | inl within ↦ omega (arith, b.longest other (run_front gates gate other r within))
        | inr stops ↦ t.longest other r (stops ∙ sym size)
      ];
      first = λ other r same. elim (run_ends gates gate other r) as (λ _. run.start ≤ other.start) [
        | inl within ↦ absurd (omega (arith, b.longest other (run_front gates gate other r within)))
        | inr stops ↦ omega (arith, t.ends)
      ];
    })
    (λ e.
    let below : run.size ≤ best.size = ltb-false best.size run.size e in
    record {
      named = λ i h. value_at-front place gates (gate ∷ []) (best.start + i) (value_at-within place gates (best.start + i) best.name (b.named i h)) ∙ b.named i h;
      longest = λ other r. elim (run_ends gates gate other r) as (λ _. other.size ≤ best.size) [
        | inl within ↦ b.longest other (run_front gates gate other r within)
        | inr stops ↦ omega (arith, t.longest other r (stops ∙ sym size))
      ];
      first = λ other r same. elim (run_ends gates gate other r) as (λ _. best.start ≤ other.start) [
        | inl within ↦ b.first other (run_front gates gate other r within) same
        | inr stops ↦
            let some : 1 ≤ other.size = r.some in
            let last : best.start + (best.size - 1) < length gates =
            value_at-within place gates (best.start + (best.size - 1)) best.name (b.named (best.size - 1) (omega arith)) in
            omega arith
      ];
    })

-- the run of the last gates after one more
tail_more : (gates : List Gate) (gate : Gate) (seen : ℕ) (run : Run) → length gates + 1 < 2 ^ 128 → seen ≡ length gates → IsTail gates run →
    IsTail (gates ++ gate ∷ []) (run_after seen run (place gate))
tail_more gates gate seen run short seen_is t =
    let fits : raised run.size 1 ≡ run.size + 1 = raised_fits run.size 1 (omega (arith, t.ends, short)) in
    let own : min run.name 17 ≡ run.name = omega (arith, t.small) in
    cond_both {A = Run} (ltb 0 run.size && eqb (min run.name 17) (place gate)) (record run { size = raised run.size 1 }) (record { name = place gate; size = 1; start = seen })
    (IsTail (gates ++ gate ∷ []))
    (λ e.
    let same : run.name ≡ place gate = sym own ∙ eqb-true (min run.name 17) (place gate) (and_parts (ltb 0 run.size) (eqb (min run.name 17) (place gate)) e).1 in
    subst (λ n. IsTail (gates ++ gate ∷ []) (record run { size = n })) (sym fits) (tail_on gates gate run t same))
    (λ e.
    subst (λ n. IsTail (gates ++ gate ∷ []) (record { name = place gate; size = 1; start = n })) (sym seen_is)
    (tail_new gates gate run t (λ some same.
    elim (and_cases (ltb 0 run.size) (eqb (min run.name 17) (place gate)) e) as (λ _. ⊥) [
      | inl none ↦ omega (arith, ltb-false 0 run.size none, some)
      | inr other ↦ eqb-false (min run.name 17) (place gate) other (own ∙ same)
    ])))

-- what a state says of the gates that led to it
pub record IsBurst (gates : List Gate) (state : List ℕ) : Type 0 where
  pub bursts : Bursts
  pub numbers : state ≡ burst_numbers bursts
  pub seen : bursts.seen ≡ length gates
  pub tail : IsTail gates bursts.current
  pub best : IsBest gates bursts.best

run_nowhere : (run : Run) → IsRun [] run → ⊥
run_nowhere run r = omega (arith, run_within [] run r, r.some)

burst_none : IsBurst [] (start Burst)
burst_none = record {
  bursts = record { seen = 0; current = record { name = 0; size = 0; start = 0 }; best = record { name = 0; size = 0; start = 0 } };
  numbers = refl;
  seen = refl;
  tail = record { ends = refl; small = omega arith; named = λ i h. absurd (omega arith); longest = λ other r ends. absurd (run_nowhere other r) };
  best = record { named = λ i h. absurd (omega arith); longest = λ other r. absurd (run_nowhere other r); first = λ other r same. absurd (run_nowhere other r) };
}

burst_more : (front : List Gate) (gate : Gate) (b : Bursts) → length front + 1 < 2 ^ 128 → b.seen ≡ length front → IsTail front b.current → IsBest front b.best →
    IsBurst (front ++ gate ∷ []) (burst_numbers (bursts_after b (place gate)))
burst_more front gate b short seen t best =
    let more = tail_more front gate b.seen b.current short seen t in
    record {
      bursts = bursts_after b (place gate);
      numbers = refl;
      seen = raised_fits b.seen 1 (omega (arith, short, seen)) ∙ ap (λ n. n + 1) seen ∙ sym (length_push front gate);
      tail = more;
      best = best_more front gate b.best (run_after b.seen b.current (place gate)) best more;
    }

burst_reached : (gates : List Gate) → length gates < 2 ^ 128 → IsBurst gates (folded Burst (start Burst) gates)
burst_reached =
    state_holds Burst (2 ^ 128) IsBurst burst_none
    (λ front gate state short r.
    subst (λ s. IsBurst (front ++ gate ∷ []) (step Burst s gate)) (sym r.numbers) (burst_more front gate r.bursts short r.seen r.tail r.best))

-- the first gate alone is a run
run_of_first : (gate : Gate) (gates : List Gate) → IsRun (gate ∷ gates) (record { name = place gate; size = 1; start = 0 })
run_of_first gate gates = record {
  some = omega arith;
  named = λ i h.
      let here : 0 ≡ 0 + i = omega arith in
      subst (λ k. value_at place (gate ∷ gates) k ≡ Some (place gate)) here refl;
}

first_longest : (gate : Gate) (gates : List Gate) (run : Run) → IsBest (gate ∷ gates) run → IsFirstLongest (gate ∷ gates) run
first_longest gate gates run b = record {
  is_run = record { some = b.longest (record { name = place gate; size = 1; start = 0 }) (run_of_first gate gates); named = b.named };
  longest = b.longest;
  first = b.first;
}

pub burst_law : (gates : List Gate) → length gates < 2 ^ 128 → IsTextOf Burst gates (state_text Burst (folded Burst (start Burst) gates))
burst_law [] short = IsTextOf.no_burst
burst_law (gate ∷ gates) short =
    let r : IsBurst (gate ∷ gates) (folded Burst (start Burst) (gate ∷ gates)) = burst_reached (gate ∷ gates) short in
    subst (λ s. IsTextOf Burst (gate ∷ gates) (state_text Burst s)) (sym r.numbers)
    (IsTextOf.burst (gate ∷ gates) r.bursts.best (first_longest gate gates r.bursts.best r.best))
