-- The most marks among 16 gates in a row, one more gate at a time.
use Rattle.std.proofs.Common.{◌≡◌, ℕ, zero, suc, ◌+◌, ◌-◌, ◌<◌, ◌≤◌, ◌^◌, max, List, [], ◌∷◌, ◌++◌, length, map, take, drop, replicate, inl, inr, refl, sym, ap, subst, ◌∙◌, arith, append_assoc}
use Rattle.std.specs.Prelude.{sum, sum_by, slice_index}
use Rattle.std.proofs.lemmas.Bool.{cases_lt}
use Rattle.std.proofs.lemmas.List.{length_push, length-append, length-map, length-drop, length-take, map_push, drop-drop, drop-append-le, take-append-le, take_at, take_all, get_or_at, drop-map}
use Rattle.std.proofs.lemmas.List.Sums.{sum_by-cons, sum_by_push, sum-map, sum_by-take-le, sum_by-take-drop}
use Rattle.sc_gate.specs.declared.gate.Gate.{Gate}
use Rattle.sc_gate.specs.Gates.{name_of}
use Rattle.sc_probe.specs.declared.rule.Rule.TheVariants.{Window}
use Rattle.sc_probe.specs.States.{raised, first_numbers}
use Rattle.sc_probe.specs.Rules.{start, step, folded, mark, window_after, state_text, window_text}
use Rattle.sc_probe.specs.Watched.{IsMostMarks, IsTextOf}
use Rattle.sc_probe.proofs.Fronts.{state_holds, raised_fits}
use Rattle.sc_probe.proofs.PlaceLemmas.{mark_of-le}

-- the marks of the last 15 gates, the oldest first, with zeros where there are fewer
abbrev pub last_marks : List Gate → List ℕ
last_marks gates = drop (length gates) (replicate 15 0 ++ map mark gates)

last_marks-length : (gates : List Gate) → length (last_marks gates) ≡ 15
last_marks-length gates =
    let zeros : length (replicate 15 0 ++ map mark gates) ≡ 15 + length gates = length-append (replicate 15 0) (map mark gates) ∙ ap (λ n. 15 + n) (length-map gates mark) in
    omega (arith, length-drop (length gates) (replicate 15 0 ++ map mark gates), zeros)

last_marks_push : (gates : List Gate) (gate : Gate) → last_marks (gates ++ gate ∷ []) ≡ drop 1 (last_marks gates) ++ mark gate ∷ []
last_marks_push gates gate =
    let zeros : length (replicate 15 0 ++ map mark gates) ≡ 15 + length gates = length-append (replicate 15 0) (map mark gates) ∙ ap (λ n. 15 + n) (length-map gates mark) in
    ap (λ n. drop n (replicate 15 0 ++ map mark (gates ++ gate ∷ []))) (length_push gates gate)
    ∙ ap (λ ms. drop (length gates + 1) (replicate 15 0 ++ ms)) (map_push mark gates gate)
    ∙ ap (drop (length gates + 1)) (sym (append_assoc (replicate 15 0) (map mark gates) (mark gate ∷ [])))
    ∙ drop-append-le (length gates + 1) (replicate 15 0 ++ map mark gates) (mark gate ∷ []) (omega (arith, zeros))
    ∙ ap (λ ms. ms ++ mark gate ∷ []) (sym (drop-drop 1 (length gates) (replicate 15 0 ++ map mark gates)))

zero_more : (n : ℕ) → 0 + n ≡ n
zero_more n = omega arith

-- zeros in front of the marks count nothing
sum_of_last : (k n : ℕ) (gates : List Gate) → sum (drop n (replicate k 0 ++ map mark gates)) ≡ sum_by mark (drop (n - k) gates)
sum_of_last zero n gates =
    let all : n - zero ≡ n = omega arith in
    ap sum (drop-map mark n gates) ∙ sum-map mark (drop n gates) ∙ ap (λ m. sum_by mark (drop m gates)) (sym all)
sum_of_last (suc k) zero gates =
    let none : zero - k ≡ zero - suc k = omega arith in
    sum_by-cons (λ x. x) 0 (replicate k 0 ++ map mark gates) ∙ zero_more (sum (replicate k 0 ++ map mark gates))
    ∙ sum_of_last k zero gates ∙ ap (λ m. sum_by mark (drop m gates)) none
sum_of_last (suc k) (suc n) gates =
    let less : n - k ≡ suc n - suc k = omega arith in
    sum_of_last k n gates ∙ ap (λ m. sum_by mark (drop m gates)) less

marks-le-length : (gates : List Gate) → sum_by mark gates ≤ length gates
marks-le-length [] = omega arith
marks-le-length (gate ∷ gates) = omega (arith, sum_by-cons mark gate gates, marks-le-length gates, mark_of-le (name_of gate.kind))

-- the marks of the last 15 gates, of which there may be fewer
last_sum : (gates : List Gate) → sum (last_marks gates) ≡ sum_by mark (drop (length gates - 15) gates)
last_sum gates = sum_of_last 15 (length gates) gates

-- a window counts at most what stands from an earlier place on
window_late : (gates : List Gate) (from p : ℕ) → from ≤ p → sum_by mark (take 16 (drop p gates)) ≤ sum_by mark (drop from gates)
window_late gates from p late =
    let places : from + (p - from) ≡ p = omega arith in
    let rest : drop p gates ≡ drop (p - from) (drop from gates) = ap (λ k. drop k gates) (sym places) ∙ sym (drop-drop (p - from) from gates) in
    let parts : sum_by mark (take (p - from) (drop from gates)) + sum_by mark (drop (p - from) (drop from gates)) ≡ sum_by mark (drop from gates) =
    sum_by-take-drop mark (drop from gates) (p - from) in
    let whole : sum_by mark (drop p gates) ≡ sum_by mark (drop (p - from) (drop from gates)) = ap (sum_by mark) rest in
    omega (arith, sum_by-take-le mark (drop p gates) 16, parts, whole)

-- the window of the last 16 gates
window_last : (gates : List Gate) (gate : Gate) → sum_by mark (take 16 (drop (length gates - 15) (gates ++ gate ∷ []))) ≡ sum (last_marks gates) + mark gate
window_last gates gate =
    let n = length gates in
    let size : length (drop (n - 15) (gates ++ gate ∷ [])) ≤ 16 =
    omega (arith, length-drop (n - 15) (gates ++ gate ∷ []), length_push gates gate) in
    ap (sum_by mark) (take_all 16 (drop (n - 15) (gates ++ gate ∷ [])) size)
    ∙ ap (sum_by mark) (drop-append-le (n - 15) gates (gate ∷ []) (omega arith))
    ∙ sum_by_push mark (drop (n - 15) gates) gate
    ∙ ap (λ m. m + mark gate) (sym (last_sum gates))

-- a window in front of the last gate
window_same : (gates : List Gate) (gate : Gate) (p : ℕ) → p + 16 ≤ length gates → take 16 (drop p (gates ++ gate ∷ [])) ≡ take 16 (drop p gates)
window_same gates gate p within =
    ap (take 16) (drop-append-le p gates (gate ∷ []) (omega arith))
    ∙ take-append-le 16 (drop p gates) (gate ∷ []) (omega (arith, length-drop p gates))

most_more : (gates : List Gate) (gate : Gate) (best : ℕ) → IsMostMarks gates best → IsMostMarks (gates ++ gate ∷ []) (max best (sum (last_marks gates) + mark gate))
most_more gates gate best b =
    let n = length gates in
    let window = window_last gates gate in
    let ending : drop (n - 15) (gates ++ gate ∷ []) ≡ drop (n - 15) gates ++ gate ∷ [] = drop-append-le (n - 15) gates (gate ∷ []) (omega arith) in
    let whole : sum_by mark (drop (n - 15) (gates ++ gate ∷ [])) ≡ sum (last_marks gates) + mark gate =
    ap (sum_by mark) ending ∙ sum_by_push mark (drop (n - 15) gates) gate ∙ ap (λ m. m + mark gate) (sym (last_sum gates)) in
    let most : (p : ℕ) → sum_by mark (take 16 (drop p (gates ++ gate ∷ []))) ≤ max best (sum (last_marks gates) + mark gate) =
    λ p. elim (cases_lt (p + 15) n) as (λ _. sum_by mark (take 16 (drop p (gates ++ gate ∷ []))) ≤ max best (sum (last_marks gates) + mark gate)) [
      | inl early ↦ omega (arith, ap (sum_by mark) (window_same gates gate p (omega arith)), b.most p)
      | inr late ↦ omega (arith, window_late (gates ++ gate ∷ []) (n - 15) p (omega arith), whole)
    ] in
    elim (cases_lt (sum (last_marks gates) + mark gate) best) as (λ _. IsMostMarks (gates ++ gate ∷ []) (max best (sum (last_marks gates) + mark gate))) [
      | inl kept ↦
          let early : b.from + 16 ≤ n =
          elim (cases_lt (b.from + 15) n) as (λ _. b.from + 16 ≤ n) [
            | inl within ↦ omega arith
            | inr late ↦ absurd (omega (arith, window_late gates (n - 15) b.from (omega arith), last_sum gates, b.reached, kept))
          ] in
          record {
            from = b.from;
            reached = omega (arith, b.reached, ap (sum_by mark) (window_same gates gate b.from early), kept);
            most = most;
          }
      | inr taken ↦ record {
        from = n - 15;
        reached = omega (arith, window, taken);
        most = most;
      }
    ]

-- what a state says of the gates that led to it
pub record IsWindow (gates : List Gate) (state : List ℕ) : Type 0 where
  pub best : ℕ
  pub numbers : state ≡ last_marks gates ++ best ∷ []
  pub most : IsMostMarks gates best

no_marks : (p : ℕ) → sum_by mark (take 16 (drop p [])) ≤ 0
no_marks zero = omega arith
no_marks (suc p) = omega arith

window_none : IsWindow [] (start Window)
window_none = record { best = 0; numbers = refl; most = record { from = 0; reached = refl; most = no_marks } }

window_more : (front : List Gate) (gate : Gate) (best : ℕ) → IsMostMarks front best → IsWindow (front ++ gate ∷ []) (window_after (last_marks front ++ best ∷ []) (mark gate))
window_more front gate best b =
    let size : length (last_marks front) ≡ 15 = last_marks-length front in
    let firsts : first_numbers 15 (last_marks front ++ best ∷ []) ≡ last_marks front =
    ap (take 15) (append_assoc (last_marks front) (best ∷ []) (replicate 15 0)) ∙ take_at (last_marks front) (best ∷ replicate 15 0) 15 size in
    let best_is : slice_index (last_marks front ++ best ∷ []) 15 ≡ best = get_or_at (last_marks front) best [] 0 15 size in
    let few : sum (last_marks front) + mark gate ≤ 16 =
    omega (
      arith,
      window_last front gate,
      marks-le-length (take 16 (drop (length front - 15) (front ++ gate ∷ []))),
      length-take 16 (drop (length front - 15) (front ++ gate ∷ [])),
    ) in
    let fits : raised (sum (last_marks front)) (mark gate) ≡ sum (last_marks front) + mark gate = raised_fits (sum (last_marks front)) (mark gate) (omega (arith, few)) in
    record {
      best = max best (sum (last_marks front) + mark gate);
      numbers =
          ap (λ ms. (drop 1 ms ++ mark gate ∷ []) ++ max (slice_index (last_marks front ++ best ∷ []) 15) (raised (sum ms) (mark gate)) ∷ []) firsts
          ∙ ap (λ n. (drop 1 (last_marks front) ++ mark gate ∷ []) ++ max n (raised (sum (last_marks front)) (mark gate)) ∷ []) best_is
          ∙ ap (λ n. (drop 1 (last_marks front) ++ mark gate ∷ []) ++ max best n ∷ []) fits
          ∙ ap (λ ms. ms ++ max best (sum (last_marks front) + mark gate) ∷ []) (sym (last_marks_push front gate));
      most = most_more front gate best b;
    }

window_reached : (gates : List Gate) → length gates < 2 ^ 128 → IsWindow gates (folded Window (start Window) gates)
window_reached =
    state_holds Window (2 ^ 128) IsWindow window_none
    (λ front gate state short r.
    subst (λ s. IsWindow (front ++ gate ∷ []) (step Window s gate)) (sym r.numbers) (window_more front gate r.best r.most))

pub window_law : (gates : List Gate) → length gates < 2 ^ 128 → IsTextOf Window gates (state_text Window (folded Window (start Window) gates))
window_law gates short =
    let r : IsWindow gates (folded Window (start Window) gates) = window_reached gates short in
    let best_is : slice_index (last_marks gates ++ r.best ∷ []) 15 ≡ r.best = get_or_at (last_marks gates) r.best [] 0 15 (last_marks-length gates) in
    subst (λ s. IsTextOf Window gates (state_text Window s)) (sym r.numbers)
    (subst (λ n. IsTextOf Window gates (window_text n)) (sym best_is) (IsTextOf.window gates r.best r.most))
