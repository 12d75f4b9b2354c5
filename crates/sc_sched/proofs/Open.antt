-- The kinds of a tray, and the end of a step.
use Rattle.std.proofs.Common.{◌≡◌, ℕ, zero, suc, ◌+◌, ◌%◌, ◌<◌, ◌≤◌, Bool, true, false, cond, List, [], ◌∷◌, ◌++◌, length, refl, sym, ap, ◌∙◌, arith, rules, inl, inr, ◌&&◌, not}
use Rattle.std.specs.Prelude.{◌==◌, slice_index, slice_index_or, slice_set}
use Rattle.std.proofs.lemmas.Bool.{false≢true, cases_lt, cases_eq, eqb-true, eq-eqb}
use Rattle.std.proofs.lemmas.List.{get_or-set_same, get_or-set_other, length-set, get_or_default}
use Rattle.std.proofs.lemmas.List.Folds.{list_any-append}
use Rattle.sc_sched.specs.Step.{Shop, IsShop, IsStep}
use Rattle.sc_sched.specs.Rounds.{stands, Opened, Fill, Free}
use Rattle.sc_sched.proofs.Count.{either, or_left, or_right}
use Rattle.sc_sched.proofs.Fill.{filled_is_step}
use Rattle.sc_sched.proofs.Take.{taking_all, filling_all}

positive : (n : ℕ) → (n == 0) ≡ false → 0 < n
positive n e = elim (cases_lt 0 n) [ inl l ↦ l | inr g ↦ absurd (false≢true (sym e ∙ eq-eqb n 0 (omega (arith, g)))) ]

kept_kind : (kinds used : List ℕ) (kind : ℕ) → Opened kinds used → kind < length used → (v : Bool) → (slice_index used kind == 0) ≡ v → Opened (cond v (kinds ++ kind ∷ []) kinds) (slice_set used kind (slice_index used kind + 1))
kept_kind kinds used kind o b true e = record {
  listed = λ k m p. elim (cases_eq k kind) [
    | inl q ↦ list_any-append (λ x. k == x) kinds (kind ∷ []) ∙ or_right (stands kinds k) _ (or_left _ false (eq-eqb k kind q))
    | inr n ↦ list_any-append (λ x. k == x) kinds (kind ∷ []) ∙ or_left _ _ (o.listed k (rw (length-set used kind (slice_index used kind + 1)) at m) (rw (get_or-set_other used kind k (slice_index used kind + 1) 0 n) at p))
  ];
  live = λ k h. elim (cases_eq k kind) [
    | inl q ↦ rw (q, length-set used kind (slice_index used kind + 1), get_or-set_same used kind (slice_index used kind + 1) 0 b) (b, omega arith)
    | inr n ↦ (let u : stands kinds k ≡ true = elim (either (stands kinds k) _ (sym (list_any-append (λ x. k == x) kinds (kind ∷ [])) ∙ h)) [
      | inl t ↦ t
      | inr t ↦ elim (either (k == kind) false t) [ inl w ↦ absurd (n (eqb-true k kind w)) | inr w ↦ absurd (false≢true w) ]
    ] in
        rw (length-set used kind (slice_index used kind + 1), get_or-set_other used kind k (slice_index used kind + 1) 0 n) (o.live k u))
  ];
}
kept_kind kinds used kind o b false e = record {
  listed = λ k m p. elim (cases_eq k kind) [
    | inl q ↦ o.listed k (rw (length-set used kind (slice_index used kind + 1)) at m) (rw q (positive (slice_index used kind) e))
    | inr n ↦ o.listed k (rw (length-set used kind (slice_index used kind + 1)) at m) (rw (get_or-set_other used kind k (slice_index used kind + 1) 0 n) at p)
  ];
  live = λ k h. elim (cases_eq k kind) [
    | inl q ↦ rw (q, length-set used kind (slice_index used kind + 1), get_or-set_same used kind (slice_index used kind + 1) 0 b) (b, omega arith)
    | inr n ↦ rw (length-set used kind (slice_index used kind + 1), get_or-set_other used kind k (slice_index used kind + 1) 0 n) (o.live k h)
  ];
}

pub opened_more : (kinds used kinds' used' : List ℕ) (kind : ℕ) → Opened kinds used → kind < length used → kinds' ≡ cond (slice_index used kind == 0) (kinds ++ kind ∷ []) kinds → used' ≡ slice_set used kind (slice_index used kind + 1) → Opened kinds' used'
opened_more kinds used kinds' used' kind o b ek eu = rw (ek, eu) (kept_kind kinds used kind o b (slice_index used kind == 0) refl)

pub place_of : (xs : List ℕ) (k : ℕ) → stands xs k ≡ true → (i : ℕ) × (i < length xs) × (slice_index xs i ≡ k)
place_of [] k h = absurd (false≢true h)
place_of (x ∷ xs) k h = elim (either (k == x) (stands xs k) h) [
  | inl e ↦ (0, omega arith, sym (eqb-true k x e))
  | inr t ↦ (let (i, l, e) = place_of xs k t in (suc i, omega (arith, l), e))
]

waits_left : (r t w : Bool) → w ≡ (r && not t) → r ≡ true → t ≡ false → w ≡ true
waits_left r t w e h n = e ∙ rw (h, n) refl

-- the first loop found no more
pub free_ends : (s : Shop ℕ) (o : IsShop s) (ready waits taken : ℕ → Bool) (used : List ℕ) (free : ℕ) → Free s ready waits taken used free → ((z : ℕ) → z < s.gates → waits z ≡ false) → IsStep s ready taken
free_ends s o ready waits taken used free f none = filled_is_step s o ready taken taken (taking_all s ready taken f.taking
    (λ x b r n. false≢true (sym (none x b) ∙ waits_left (ready x) (taken x) (waits x) (f.counted.left x b) r n)))

-- each kind that waits is full
pub fill_ends : (s : Shop ℕ) (ready waits taken chosen : ℕ → Bool) (used : List ℕ) → Fill s ready waits taken chosen used → ((x : ℕ) → x < s.gates → s.kind_of x < length used) →
    ((x : ℕ) → x < s.gates → waits x ≡ true → slice_index used (s.kind_of x) % s.room (s.kind_of x) ≡ 0) → IsStep s ready chosen
fill_ends s ready waits taken chosen used f inside done = filled_is_step s f.shop ready taken chosen (filling_all s f.shop ready taken chosen f.filling
    (λ x b r n. eq-eqb _ 0 (rw (f.counted.counts (s.kind_of x) (inside x b)) at (done x b (waits_left (ready x) (chosen x) (waits x) (f.counted.left x b) r n)))))

pub stands_at : (xs : List ℕ) (i : ℕ) → i < length xs → stands xs (slice_index xs i) ≡ true
stands_at [] i l = absurd (omega (arith, l))
stands_at (x ∷ xs) zero l = or_left _ _ (eq-eqb x x refl)
stands_at (x ∷ xs) (suc i) l = or_right (slice_index xs i == x) _ (stands_at xs i (omega (arith, l)))

no_rest : (n : ℕ) → 0 % n ≡ 0
no_rest n = search rules

-- a kind that waits is full, at the end of the second loop
pub all_full : (kind room first used kinds : List ℕ) (waits : ℕ → Bool) (at : ℕ) → length used ≡ length room → length first ≡ length used → Opened kinds first → length kinds ≤ at →
    ((k : ℕ) → slice_index first k ≡ 0 → slice_index used k ≡ 0) → ((x : ℕ) → x < length kind → slice_index kind x < length room) →
    ((i : ℕ) → i < at → (z : ℕ) → z < length kind → slice_index kind z ≡ slice_index kinds i → waits z ≡ true → slice_index used (slice_index kinds i) % slice_index room (slice_index kinds i) ≡ 0) →
    (x : ℕ) → x < length kind → waits x ≡ true → slice_index used (slice_index kind x) % slice_index_or room (slice_index kind x) 1 ≡ 0
all_full kind room first used kinds waits at eu ef o l rest inside done x b w = rw (get_or_default room (slice_index kind x) 1 0 (inside x b)) (
    elim (cases_lt 0 (slice_index first (slice_index kind x))) [
      | inl p ↦ (let (i, m, e) = place_of kinds (slice_index kind x) (o.listed (slice_index kind x) (rw (ef, eu) (inside x b)) p) in
          rw e at (done i (omega (arith, m, l)) x b (sym e) w))
      | inr g ↦ rw (rest (slice_index kind x) (omega (arith, g))) (no_rest (slice_index room (slice_index kind x)))
    ])

-- counts grow, but not from 0
pub opened_same : (kinds used kinds' used' : List ℕ) → Opened kinds used → kinds' ≡ kinds → length used' ≡ length used → ((k : ℕ) → slice_index used k ≤ slice_index used' k) → ((k : ℕ) → slice_index used k ≡ 0 → slice_index used' k ≡ 0) → Opened kinds' used'
opened_same kinds used kinds' used' o ek many grows rest = rw ek (record {
  listed = λ k l p. o.listed k (omega (arith, l, many)) (elim (cases_lt 0 (slice_index used k)) [ inl m ↦ m | inr g ↦ absurd (omega (arith, p, rest k (omega (arith, g)))) ]);
  live = λ k h. (let r : (k < length used) × (0 < slice_index used k) = o.live k h in (omega (arith, r.0, many), omega (arith, r.1, grows k)));
})

-- the count of the last kind is 0 again
pub record Listed (kinds used : List ℕ) (kind : ℕ) : Type 0 where
  pub below : kind < length used
  pub inside : (k : ℕ) → stands kinds k ≡ true → k < length (slice_set used kind 0)
  pub listed : (k : ℕ) → k < length (slice_set used kind 0) → 0 < slice_index (slice_set used kind 0) k → stands kinds k ≡ true

pub listed_less : (kinds used : List ℕ) (kind : ℕ) → ((k : ℕ) → stands (kinds ++ kind ∷ []) k ≡ true → k < length used) →
    ((k : ℕ) → k < length used → 0 < slice_index used k → stands (kinds ++ kind ∷ []) k ≡ true) → Listed kinds used kind
listed_less kinds used kind inside listed =
    let b : kind < length used = inside kind (list_any-append (λ x. kind == x) kinds (kind ∷ []) ∙ or_right (stands kinds kind) _ (or_left _ false (eq-eqb kind kind refl))) in
    record {
      below = b;
      inside = λ k h. rw (length-set used kind 0) (inside k (list_any-append (λ x. k == x) kinds (kind ∷ []) ∙ or_left _ _ h));
      listed = λ k l p. elim (cases_eq k kind) [
        | inl q ↦ absurd (omega (arith, p, ap (slice_index (slice_set used kind 0)) q ∙ get_or-set_same used kind 0 0 b))
        | inr n ↦ elim (either (stands kinds k) _ (sym (list_any-append (λ x. k == x) kinds (kind ∷ [])) ∙ listed k (rw (length-set used kind 0) at l) (rw (get_or-set_other used kind k 0 0 n) at p))) [
          | inl t ↦ t
          | inr t ↦ elim (either (k == kind) false t) [ inl w ↦ absurd (n (eqb-true k kind w)) | inr w ↦ absurd (false≢true w) ]
        ]
      ];
    }

pub none_listed : (kinds used : List ℕ) (k : ℕ) → length kinds ≡ 0 → k < length used → ((k : ℕ) → k < length used → 0 < slice_index used k → stands kinds k ≡ true) → slice_index used k ≡ 0
none_listed [] used k e l listed = elim (cases_lt 0 (slice_index used k)) [ inl p ↦ absurd (false≢true (listed k l p)) | inr g ↦ omega (arith, g) ]
none_listed (x ∷ kinds) used k e l listed = absurd (omega (arith, e))
