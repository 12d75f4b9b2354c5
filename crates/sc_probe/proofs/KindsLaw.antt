-- The gates of each name, one more gate at a time.
use Rattle.std.proofs.Common.{◌≡◌, ℕ, zero, suc, ◌+◌, ◌<◌, ◌^◌, cond, eqb, List, [], ◌∷◌, ◌++◌, length, get_or, inl, inr, refl, sym, ap, subst, ◌∙◌, arith}
use Rattle.std.specs.Prelude.{count_by, slice_index}
use Rattle.std.proofs.Math.ListN.{set}
use Rattle.std.proofs.lemmas.Bool.{cases_eq, eq-eqb, ne_eqb}
use Rattle.std.proofs.lemmas.List.{length-set, get_or-set_same, get_or-set_other, ext_get_or}
use Rattle.std.proofs.lemmas.List.Sums.{sum_by_push, count_by-le-length}
use Rattle.sc_gate.specs.declared.gate.Gate.{Gate}
use Rattle.sc_gate.specs.Gates.{name_of}
use Rattle.sc_probe.specs.declared.rule.Rule.TheVariants.{Kinds}
use Rattle.sc_probe.specs.States.{raised}
use Rattle.sc_probe.specs.Rules.{start, step, folded, place, kinds_after, kinds_text, state_text}
use Rattle.sc_probe.specs.Watched.{kind_counts, IsTextOf}
use Rattle.sc_probe.proofs.Fronts.{state_holds, raised_fits}
use Rattle.sc_probe.proofs.PlaceLemmas.{place_of-le}

-- how many gates have the name at this place
abbrev pub count_at : List Gate → ℕ → ℕ
count_at gates i = count_by (λ gate. eqb (place gate) i) gates

kind_counts-get : (gates : List Gate) (i : ℕ) → i < 18 → get_or (kind_counts gates) i 0 ≡ count_at gates i
kind_counts-get gates zero h = refl
kind_counts-get gates (suc zero) h = refl
kind_counts-get gates (suc (suc zero)) h = refl
kind_counts-get gates (suc (suc (suc zero))) h = refl
kind_counts-get gates (suc (suc (suc (suc zero)))) h = refl
kind_counts-get gates (suc (suc (suc (suc (suc zero))))) h = refl
kind_counts-get gates (suc (suc (suc (suc (suc (suc zero)))))) h = refl
kind_counts-get gates (suc (suc (suc (suc (suc (suc (suc zero))))))) h = refl
kind_counts-get gates (suc (suc (suc (suc (suc (suc (suc (suc zero)))))))) h = refl
kind_counts-get gates (suc (suc (suc (suc (suc (suc (suc (suc (suc zero))))))))) h = refl
kind_counts-get gates (suc (suc (suc (suc (suc (suc (suc (suc (suc (suc zero)))))))))) h = refl
kind_counts-get gates (suc (suc (suc (suc (suc (suc (suc (suc (suc (suc (suc zero))))))))))) h = refl
kind_counts-get gates (suc (suc (suc (suc (suc (suc (suc (suc (suc (suc (suc (suc zero)))))))))))) h = refl
kind_counts-get gates (suc (suc (suc (suc (suc (suc (suc (suc (suc (suc (suc (suc (suc zero))))))))))))) h = refl
kind_counts-get gates (suc (suc (suc (suc (suc (suc (suc (suc (suc (suc (suc (suc (suc (suc zero)))))))))))))) h = refl
kind_counts-get gates (suc (suc (suc (suc (suc (suc (suc (suc (suc (suc (suc (suc (suc (suc (suc zero))))))))))))))) h = refl
kind_counts-get gates (suc (suc (suc (suc (suc (suc (suc (suc (suc (suc (suc (suc (suc (suc (suc (suc zero)))))))))))))))) h = refl
kind_counts-get gates (suc (suc (suc (suc (suc (suc (suc (suc (suc (suc (suc (suc (suc (suc (suc (suc (suc zero))))))))))))))))) h = refl
kind_counts-get gates (suc (suc (suc (suc (suc (suc (suc (suc (suc (suc (suc (suc (suc (suc (suc (suc (suc (suc i)))))))))))))))))) h = absurd (omega arith)

count_at-push : (gates : List Gate) (gate : Gate) (i : ℕ) → count_at (gates ++ gate ∷ []) i ≡ count_at gates i + cond (eqb (place gate) i) 1 0
count_at-push gates gate i = sum_by_push (λ g. cond (eqb (place g) i) 1 0) gates gate

kinds_at : (front : List Gate) (gate : Gate) → length front + 1 < 2 ^ 128 → (i : ℕ) → i < 18 →
    get_or (set (kind_counts front) (place gate) (raised (slice_index (kind_counts front) (place gate)) 1)) i 0 ≡ get_or (kind_counts (front ++ gate ∷ [])) i 0
kinds_at front gate short i within =
    let named : place gate < 18 = omega (arith, place_of-le (name_of gate.kind)) in
    let after : get_or (kind_counts (front ++ gate ∷ [])) i 0 ≡ count_at front i + cond (eqb (place gate) i) 1 0 =
    kind_counts-get (front ++ gate ∷ []) i within ∙ count_at-push front gate i in
    elim (cases_eq (place gate) i) as (λ _. get_or (set (kind_counts front) (place gate) (raised (slice_index (kind_counts front) (place gate)) 1)) i 0 ≡ get_or (kind_counts (front ++ gate ∷ [])) i 0) [
      | inl same ↦
          let count : slice_index (kind_counts front) (place gate) ≡ count_at front (place gate) = kind_counts-get front (place gate) named in
          let fits : raised (count_at front (place gate)) 1 ≡ count_at front (place gate) + 1 =
          raised_fits (count_at front (place gate)) 1 (omega (arith, count_by-le-length (λ g. eqb (place g) (place gate)) front, short)) in
          let one : cond (eqb (place gate) i) 1 0 ≡ 1 = ap (λ b. cond b 1 0) (eq-eqb (place gate) i same) in
          ap (λ k. get_or (set (kind_counts front) (place gate) (raised (slice_index (kind_counts front) (place gate)) 1)) k 0) (sym same)
          ∙ get_or-set_same (kind_counts front) (place gate) (raised (slice_index (kind_counts front) (place gate)) 1) 0 named
          ∙ ap (λ n. raised n 1) count ∙ fits ∙ ap (λ k. count_at front k + 1) same ∙ ap (λ n. count_at front i + n) (sym one) ∙ sym after
      | inr other ↦
          let none : cond (eqb (place gate) i) 1 0 ≡ 0 = ap (λ b. cond b 1 0) (ne_eqb (place gate) i other) in
          let nothing : count_at front i ≡ count_at front i + 0 = omega arith in
          get_or-set_other (kind_counts front) (place gate) i (raised (slice_index (kind_counts front) (place gate)) 1) 0 (λ e. other (sym e))
          ∙ kind_counts-get front i within ∙ nothing ∙ ap (λ n. count_at front i + n) (sym none) ∙ sym after
    ]

kinds_more : (front : List Gate) (gate : Gate) → length front + 1 < 2 ^ 128 → kinds_after (kind_counts front) gate ≡ kind_counts (front ++ gate ∷ [])
kinds_more front gate short =
    let size : length (set (kind_counts front) (place gate) (raised (slice_index (kind_counts front) (place gate)) 1)) ≡ 18 =
    length-set (kind_counts front) (place gate) (raised (slice_index (kind_counts front) (place gate)) 1) in
    ext_get_or 0 (set (kind_counts front) (place gate) (raised (slice_index (kind_counts front) (place gate)) 1)) (kind_counts (front ++ gate ∷ [])) size
    (λ i h. kinds_at front gate short i (omega (arith, size, h)))

kinds_reached : (gates : List Gate) → length gates < 2 ^ 128 → folded Kinds (start Kinds) gates ≡ kind_counts gates
kinds_reached =
    state_holds Kinds (2 ^ 128) (λ gates state. state ≡ kind_counts gates) refl
    (λ front gate state short e. ap (λ s. step Kinds s gate) e ∙ kinds_more front gate short)

pub kinds_law : (gates : List Gate) → length gates < 2 ^ 128 → IsTextOf Kinds gates (state_text Kinds (folded Kinds (start Kinds) gates))
kinds_law gates short =
    subst (λ s. IsTextOf Kinds gates (kinds_text s)) (sym (kinds_reached gates short)) (IsTextOf.kinds gates)
