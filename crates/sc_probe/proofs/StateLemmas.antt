-- States of one more gate, as the observers keep them.
use Rattle.std.proofs.Common.{◌≡◌, ℕ, ◌+◌, ◌<◌, max, List, [], ◌∷◌, ◌++◌, length, take, drop, replicate, refl, sym, ap, ◌∙◌, arith, append_assoc}
use Rattle.std.specs.Prelude.{sum, slice_index, slice_set}
use Rattle.std.proofs.lemmas.List.{take_at, get_or_at, take_more}
use Rattle.std.proofs.lemmas.List.Sums.{sum_by_push}
use Rattle.sc_gate.specs.declared.gate.Gate.{Gate}
use Rattle.sc_probe.specs.States.{raised, first_numbers}
use Rattle.sc_probe.specs.Rules.{place, kinds_after, window_after}

whole_first : (n : ℕ) (state : List ℕ) → length state ≡ n → first_numbers n state ≡ state
whole_first n state size = take_at state (replicate n 0) n size

-- one count more
pub kinds_step : (counts : List ℕ) (gate : Gate) (p n : ℕ) → length counts ≡ 18 → p ≡ place gate → n ≡ raised (slice_index counts p) 1 →
    slice_set counts p n ≡ kinds_after counts gate
kinds_step counts gate p n size place_is n_is =
    ap (slice_set counts p) n_is
    ∙ ap (λ q. slice_set counts q (raised (slice_index counts q) 1)) place_is
    ∙ ap (λ state. slice_set state (place gate) (raised (slice_index counts (place gate)) 1)) (sym (whole_first 18 counts size))

-- a saturated sum with one term more
pub raised_sum : (marks : List ℕ) (i mark : ℕ) → i < length marks → raised (raised (sum (take i marks)) mark) (slice_index marks i) ≡ raised (sum (take (i + 1) marks)) mark
raised_sum marks i mark within =
    let more : sum (take (i + 1) marks) ≡ sum (take i marks) + slice_index marks i =
    ap sum (take_more marks i 0 within) ∙ sum_by_push (λ x. x) (take i marks) (slice_index marks i) in
    omega (arith, more)

-- the oldest mark is overwritten and then stands last
pub oldest_last : (marks : List ℕ) (mark : ℕ) → length marks ≡ 15 → drop 1 (slice_set marks 0 mark) ++ take 1 (slice_set marks 0 mark) ≡ drop 1 marks ++ mark ∷ []
oldest_last [] mark size = absurd (omega arith)
oldest_last (m ∷ marks) mark size = refl

pub window_step : (marks now : List ℕ) (best mark sum_now : ℕ) → length marks ≡ 15 → sum_now ≡ raised (sum marks) mark → now ≡ drop 1 marks ++ mark ∷ [] →
    now ++ max best sum_now ∷ [] ≡ window_after (marks ++ best ∷ []) mark
window_step marks now best mark sum_now size sum_is now_is =
    let firsts : first_numbers 15 (marks ++ best ∷ []) ≡ marks =
    ap (take 15) (append_assoc marks (best ∷ []) (replicate 15 0)) ∙ take_at marks (best ∷ replicate 15 0) 15 size in
    let best_is : slice_index (marks ++ best ∷ []) 15 ≡ best = get_or_at marks best [] 0 15 size in
    ap (λ ms. ms ++ max best sum_now ∷ []) now_is
    ∙ ap (λ n. (drop 1 marks ++ mark ∷ []) ++ max best n ∷ []) sum_is
    ∙ ap (λ n. (drop 1 marks ++ mark ∷ []) ++ max n (raised (sum marks) mark) ∷ []) (sym best_is)
    ∙ ap (λ ms. (drop 1 ms ++ mark ∷ []) ++ max (slice_index (marks ++ best ∷ []) 15) (raised (sum ms) mark) ∷ []) (sym firsts)
