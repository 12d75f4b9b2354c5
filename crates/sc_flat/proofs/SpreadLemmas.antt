-- What is spread of runs and of the single numbers among them.
use Rattle.std.proofs.Common.{◌≡◌, ℕ, zero, suc, ◌+◌, ◌-◌, ◌<◌, ◌≤◌, ◌^◌, List, [], ◌∷◌, ◌++◌, length, take, drop, get_or, refl, sym, ap, ◌∙◌, subst, inl, inr, arith, append_assoc}
use Rattle.std.specs.Prelude.{min, reverse, slice_get, Some}
use Rattle.std.proofs.lemmas.List.{length-append, length-drop, length-take, length-reverse, append-nil, take-append-le, drop-append-le, take_all, drop_all, take-append-drop, take-take, drop-take, take_more, reverse-append, get_or-reverse, get_or-drop, get_or-append_right, get_or_append_left}
use Rattle.std.proofs.lemmas.Option.{slice_get_within, get_or_from_slice_get}
use Rattle.std.proofs.lemmas.Bool.{cases_lt}
use Rattle.std.proofs.Math.Seq.{drop-cons, drop-append_seam, take-append-add}
use Rattle.sc_flat.specs.declared.number_list.Run.{Run}
use Rattle.sc_flat.specs.Frames.{numbers_from}
use Rattle.sc_flat.proofs.RunLemmas.{length-numbers}
use Rattle.sc_flat.specs.Runs.{spread, RunsKept, IsFound, BeginBefore}

-- single numbers more
pub spread_more : (rs : List Run) (xs ys : List ℕ) → RunsKept rs xs → spread rs (xs ++ ys) ≡ spread rs xs ++ ys
spread_more [] xs ys kept = refl
spread_more (r ∷ rs) xs ys kept =
    let t : take r.singles (xs ++ ys) ≡ take r.singles xs = take-append-le r.singles xs ys kept.0 in
    let d : drop r.singles (xs ++ ys) ≡ drop r.singles xs ++ ys = drop-append-le r.singles xs ys kept.0 in
    ap (λ (us : List ℕ). (spread rs us ++ numbers_from r.first r.count) ++ drop r.singles (xs ++ ys)) t
    ∙ ap (λ (us : List ℕ). (spread rs (take r.singles xs) ++ numbers_from r.first r.count) ++ us) d
    ∙ sym (append_assoc (spread rs (take r.singles xs) ++ numbers_from r.first r.count) (drop r.singles xs) ys)

pub kept_more : (rs : List Run) (xs ys : List ℕ) → RunsKept rs xs → RunsKept rs (xs ++ ys)
kept_more [] xs ys kept = tt
kept_more (r ∷ rs) xs ys kept =
    let t : take r.singles xs ≡ take r.singles (xs ++ ys) = sym (take-append-le r.singles xs ys kept.0) in
    let n = length-append xs ys in
    (omega arith, kept.1 ∙ ap (λ (us : List ℕ). length (spread rs us)) t, kept.2, subst (RunsKept rs) t kept.3)

-- how many numbers there are
pub length-spread : (r : Run) (rs : List Run) (xs : List ℕ) → RunsKept (r ∷ rs) xs → length (spread (r ∷ rs) xs) ≡ r.start + r.count + (length xs - r.singles)
length-spread r rs xs kept =
    let e = length-append (spread rs (take r.singles xs) ++ numbers_from r.first r.count) (drop r.singles xs) in
    let f = length-append (spread rs (take r.singles xs)) (numbers_from r.first r.count) in
    let g = length-numbers r.first r.count in
    let h = length-drop r.singles xs in
    let s : r.start ≡ length (spread rs (take r.singles xs)) = kept.1 in
    omega arith

pub singles_within : (rs : List Run) (xs : List ℕ) → RunsKept rs xs → length xs ≤ length (spread rs xs)
singles_within [] xs kept = omega arith
singles_within (r ∷ rs) xs kept =
    let e = length-spread r rs xs kept in
    let i = singles_within rs (take r.singles xs) kept.3 in
    let s : r.start ≡ length (spread rs (take r.singles xs)) = kept.1 in
    let t = length-take r.singles xs in
    let k : r.singles ≤ length xs = kept.0 in
    omega arith

-- a run more
pub spread_run : (rs : List Run) (xs : List ℕ) (r : Run) → r.singles ≡ length xs → spread (r ∷ rs) xs ≡ spread rs xs ++ numbers_from r.first r.count
spread_run rs xs r s =
    let t : take r.singles xs ≡ xs = take_all r.singles xs (omega arith) in
    let d : drop r.singles xs ≡ [] = drop_all r.singles xs (omega arith) in
    ap (λ (us : List ℕ). (spread rs us ++ numbers_from r.first r.count) ++ drop r.singles xs) t
    ∙ ap (λ (us : List ℕ). (spread rs xs ++ numbers_from r.first r.count) ++ us) d
    ∙ append-nil (spread rs xs ++ numbers_from r.first r.count)

pub kept_run : (rs : List Run) (xs : List ℕ) (r : Run) → RunsKept rs xs → r.singles ≡ length xs → r.start ≡ length (spread rs xs) → r.first + r.count < 2 ^ 32 → RunsKept (r ∷ rs) xs
kept_run rs xs r kept s at few =
    let t : xs ≡ take r.singles xs = sym (take_all r.singles xs (omega arith)) in
    (omega arith, at ∙ ap (λ (us : List ℕ). length (spread rs us)) t, few, subst (RunsKept rs) t kept)

-- the single numbers before all but so many of the last runs
abbrev pub cut : ℕ → List Run → List ℕ → List ℕ
cut zero rs xs = xs
cut (suc j) [] xs = xs
cut (suc j) (r ∷ rs) xs = cut j rs (take r.singles xs)

pub cut_kept : (j : ℕ) (rs : List Run) (xs : List ℕ) → RunsKept rs xs → RunsKept (drop j rs) (cut j rs xs)
cut_kept zero rs xs kept = kept
cut_kept (suc j) [] xs kept = tt
cut_kept (suc j) (r ∷ rs) xs kept = cut_kept j rs (take r.singles xs) kept.3

pub cut_numbers : (j : ℕ) (rs : List Run) (xs : List ℕ) → (ys : List ℕ) × (spread rs xs ≡ spread (drop j rs) (cut j rs xs) ++ ys)
cut_numbers zero rs xs = ([], sym (append-nil (spread rs xs)))
cut_numbers (suc j) [] xs = ([], sym (append-nil xs))
cut_numbers (suc j) (r ∷ rs) xs =
    let p = cut_numbers j rs (take r.singles xs) in
    let ns : List ℕ = numbers_from r.first r.count in
    let ds : List ℕ = drop r.singles xs in
    let ss : List ℕ = spread (drop j rs) (cut j rs (take r.singles xs)) in (
      p.0 ++ (ns ++ ds),
      ap (λ (us : List ℕ). (us ++ ns) ++ ds) p.1 ∙ ap (λ (us : List ℕ). us ++ ds) (append_assoc ss p.0 ns) ∙ append_assoc ss (p.0 ++ ns) ds
          ∙ ap (λ (us : List ℕ). ss ++ us) (append_assoc p.0 ns ds),
    )

pub cut_singles : (j : ℕ) (rs : List Run) (xs : List ℕ) → (ys : List ℕ) × (xs ≡ cut j rs xs ++ ys)
cut_singles zero rs xs = ([], sym (append-nil xs))
cut_singles (suc j) [] xs = ([], sym (append-nil xs))
cut_singles (suc j) (r ∷ rs) xs =
    let p = cut_singles j rs (take r.singles xs) in
    let ds : List ℕ = drop r.singles xs in
    (p.0 ++ ds, sym (take-append-drop r.singles xs) ∙ ap (λ (us : List ℕ). us ++ ds) p.1 ∙ append_assoc (cut j rs (take r.singles xs)) p.0 ds)

pub cut_start : (j : ℕ) (rs : List Run) (xs : List ℕ) (d : Run) → j < length rs → RunsKept rs xs → length (spread (drop (suc j) rs) (cut (suc j) rs xs)) ≡ (get_or rs j d).start
cut_start j [] xs d below kept = absurd (omega arith)
cut_start zero (r ∷ rs) xs d below kept = sym kept.1
cut_start (suc j) (r ∷ rs) xs d below kept = let b : j < length rs = omega arith in cut_start j rs (take r.singles xs) d b kept.3

singles_at : (j : ℕ) (rs : List Run) (xs : List ℕ) (d : Run) → j < length rs → RunsKept rs xs → (get_or rs j d).singles ≤ length xs
singles_at j [] xs d below kept = absurd (omega arith)
singles_at zero (r ∷ rs) xs d below kept = kept.0
singles_at (suc j) (r ∷ rs) xs d below kept =
    let b : j < length rs = omega arith in
    let i = singles_at j rs (take r.singles xs) d b kept.3 in
    let t = length-take r.singles xs in
    omega arith

pub cut_take : (j : ℕ) (rs : List Run) (xs : List ℕ) (d : Run) → j < length rs → RunsKept rs xs → cut (suc j) rs xs ≡ take (get_or rs j d).singles xs
cut_take j [] xs d below kept = absurd (omega arith)
cut_take zero (r ∷ rs) xs d below kept = refl
cut_take (suc j) (r ∷ rs) xs d below kept =
    let b : j < length rs = omega arith in
    let i = singles_at j rs (take r.singles xs) d b kept.3 in
    let t = length-take r.singles xs in
    cut_take j rs (take r.singles xs) d b kept.3 ∙ take-take (get_or rs j d).singles r.singles xs (omega arith)

-- runs from their other end
pub reverse_take : {X : Type 0} (k : ℕ) (xs : List X) → k ≤ length xs → reverse (take k xs) ≡ drop (length xs - k) (reverse xs)
reverse_take k xs within =
    let e : reverse xs ≡ reverse (drop k xs) ++ reverse (take k xs) = ap reverse (sym (take-append-drop k xs)) ∙ reverse-append (take k xs) (drop k xs) in
    let l : length (reverse (drop k xs)) ≡ length xs - k = length-reverse (drop k xs) ∙ length-drop k xs in
    sym (ap (λ n. drop n (reverse xs)) (sym l) ∙ ap (drop (length (reverse (drop k xs)))) e ∙ drop-append_seam (reverse (drop k xs)) (reverse (take k xs)))

pub reverse_last : {X : Type 0} (xs : List X) (x : X) → slice_get xs (length xs - 1) ≡ Some x → reverse xs ≡ x ∷ reverse (take (length xs - 1) xs)
reverse_last xs x at =
    let i : ℕ = length xs - 1 in
    let h : i < length xs = slice_get_within xs i x at in
    let e : i + 1 ≡ length xs = omega arith in
    let t : xs ≡ take i xs ++ get_or xs i x ∷ [] = sym (take_all (i + 1) xs (omega arith)) ∙ take_more xs i x h in
    let g : get_or xs i x ≡ x = get_or_from_slice_get xs i x x at in
    ap reverse (t ∙ ap (λ y. take i xs ++ y ∷ []) g) ∙ reverse-append (take i xs) (x ∷ [])

-- the place of a number is before the runs that begin behind it
at_front : (j : ℕ) (rs : List Run) (xs : List ℕ) (place : ℕ) (d : Run) → RunsKept rs xs → j ≤ length rs → place < length (spread rs xs) → (0 < j → place < (get_or rs (j - 1) d).start) →
    (get_or (spread rs xs) place 0 ≡ get_or (spread (drop j rs) (cut j rs xs)) place 0) × (place < length (spread (drop j rs) (cut j rs xs)))
at_front zero rs xs place d kept within below behind = (refl, below)
at_front (suc j) rs xs place d kept within below behind =
    let p = cut_numbers (suc j) rs xs in
    let s = cut_start j rs xs d within kept in
    let e : suc j - 1 ≡ j = omega arith in
    let b : place < (get_or rs j d).start = subst (λ i. place < (get_or rs i d).start) e (behind (omega arith)) in
    let l : place < length (spread (drop (suc j) rs) (cut (suc j) rs xs)) = omega arith in
    (ap (λ (us : List ℕ). get_or us place 0) p.1 ∙ get_or_append_left (spread (drop (suc j) rs) (cut (suc j) rs xs)) p.0 0 place l, l)

numbers-at : (first n k : ℕ) → k < n → get_or (numbers_from first n) k 0 ≡ first + k
numbers-at first zero k below = absurd (omega arith)
numbers-at first (suc n) zero below = omega arith
numbers-at first (suc n) (suc k) below = let b : k < n = omega arith in let i = numbers-at (suc first) n k b in omega arith

-- where the number at a place is, by the last run that begins before it ends
pub record ByRun (r : Run) (xs numbers : List ℕ) (place : ℕ) : Type 0 where
  pub from : r.start ≤ place
  pub few : r.first + r.count < 2 ^ 32
  pub inside : place - r.start < r.count → get_or numbers place 0 ≡ r.first + (place - r.start)
  pub behind : r.count ≤ place - r.start → (r.singles + (place - r.start - r.count) < length xs) × (get_or numbers place 0 ≡ get_or xs (r.singles + (place - r.start - r.count)) 0)

by_last : (r : Run) (rs : List Run) (ys xs zs : List ℕ) (place : ℕ) → RunsKept (r ∷ rs) ys → xs ≡ ys ++ zs → r.start ≤ place → place < length (spread (r ∷ rs) ys) → ByRun r xs (spread (r ∷ rs) ys) place
by_last r rs ys xs zs place kept front from below =
    let fs : List ℕ = spread rs (take r.singles ys) in
    let ns : List ℕ = numbers_from r.first r.count in
    let ds : List ℕ = drop r.singles ys in
    let a : length fs ≡ r.start = sym kept.1 in
    let n : length ns ≡ r.count = length-numbers r.first r.count in
    let an : length (fs ++ ns) ≡ length fs + length ns = length-append fs ns in
    let l : length (spread (r ∷ rs) ys) ≡ r.start + r.count + (length ys - r.singles) = length-spread r rs ys kept in
    let x : length xs ≡ length ys + length zs = ap length front ∙ length-append ys zs in
    record {
      from = from;
      few = kept.2;
      inside = λ h.
          get_or_append_left (fs ++ ns) ds 0 place (omega arith) ∙ get_or-append_right fs ns r.start place 0 a from ∙ numbers-at r.first r.count (place - r.start) h;
      behind = λ h.
          let i : ℕ = r.singles + (place - r.start - r.count) in
          let iy : i < length ys = omega arith in (
            omega arith,
            get_or-append_right (fs ++ ns) ds (r.start + r.count) place 0 (omega arith) (omega arith) ∙ get_or-drop r.singles ys (place - (r.start + r.count)) 0
                ∙ ap (λ m. get_or ys (r.singles + m) 0) (omega arith) ∙ sym (get_or_append_left ys zs 0 i iy) ∙ ap (λ (us : List ℕ). get_or us i 0) (sym front),
          );
    }

pub by_run : (runs : List Run) (xs : List ℕ) (place k : ℕ) (d : Run) → RunsKept (reverse runs) xs → IsFound runs (place + 1) k → 0 < k → place < length (spread (reverse runs) xs) →
    ByRun (get_or runs (k - 1) d) xs (spread (reverse runs) xs) place
by_run runs xs place k d kept found some below =
    let rs : List Run = reverse runs in
    let n : length rs ≡ length runs = length-reverse runs in
    let w : k ≤ length runs = found.within in
    let j : ℕ = length runs - k in
    let r : Run = get_or runs (k - 1) d in
    let r_is : get_or rs j d ≡ r = get_or-reverse runs j d (omega arith) ∙ ap (λ i. get_or runs i d) (omega arith) in
    let front = at_front j rs xs place d kept (omega arith) below (λ (h : 0 < j).
    let b = found.after d (omega arith) in
    let e : get_or rs (j - 1) d ≡ get_or runs k d = get_or-reverse runs (j - 1) d (omega arith) ∙ ap (λ i. get_or runs i d) (omega arith) in
    let s = ap (λ (q : Run). q.start) e in
    omega arith) in
    let cons : drop j rs ≡ r ∷ drop (suc j) rs = drop-cons rs j d (omega arith) ∙ ap (λ (q : Run). q ∷ drop (suc j) rs) r_is in
    let ys : List ℕ = cut j rs xs in
    let zs = cut_singles j rs xs in
    let k_ys : RunsKept (r ∷ drop (suc j) rs) ys = subst (λ (qs : List Run). RunsKept qs ys) cons (cut_kept j rs xs kept) in
    let b_ys : place < length (spread (r ∷ drop (suc j) rs) ys) = subst (λ (qs : List Run). place < length (spread qs ys)) cons front.1 in
    let start = found.before d some in
    let at = by_last r (drop (suc j) rs) ys xs zs.0 place k_ys zs.1 (omega arith) b_ys in
    let same : get_or (spread rs xs) place 0 ≡ get_or (spread (r ∷ drop (suc j) rs) ys) place 0 = front.0 ∙ ap (λ (qs : List Run). get_or (spread qs ys) place 0) cons in
    record {
      from = at.from;
      few = at.few;
      inside = λ h. same ∙ at.inside h;
      behind = λ h. ((at.behind h).0, same ∙ (at.behind h).1);
    }

pub by_none : (runs : List Run) (xs : List ℕ) (place : ℕ) (d : Run) → RunsKept (reverse runs) xs → IsFound runs (place + 1) 0 → place < length (spread (reverse runs) xs) →
    (place < length xs) × (get_or xs place 0 ≡ get_or (spread (reverse runs) xs) place 0)
by_none runs xs place d kept found below =
    let rs : List Run = reverse runs in
    let n : length rs ≡ length runs = length-reverse runs in
    let j : ℕ = length rs in
    let front = at_front j rs xs place d kept (omega arith) below (λ (h : 0 < j).
    let b = found.after d (omega arith) in
    let e : get_or rs (j - 1) d ≡ get_or runs 0 d = get_or-reverse runs (j - 1) d (omega arith) ∙ ap (λ i. get_or runs i d) (omega arith) in
    let s = ap (λ (q : Run). q.start) e in
    omega arith) in
    let none : drop j rs ≡ [] = drop_all j rs (omega arith) in
    let ys : List ℕ = cut j rs xs in
    let zs = cut_singles j rs xs in
    let b_ys : place < length ys = subst (λ (qs : List Run). place < length (spread qs ys)) none front.1 in
    let same : get_or (spread rs xs) place 0 ≡ get_or ys place 0 = front.0 ∙ ap (λ (qs : List Run). get_or (spread qs ys) place 0) none in
    let x : length xs ≡ length ys + length zs.0 = ap length zs.1 ∙ length-append ys zs.0 in
    (omega arith, ap (λ (us : List ℕ). get_or us place 0) zs.1 ∙ get_or_append_left ys zs.0 0 place b_ys ∙ sym same)

-- runs that begin behind so many numbers are gone
pub without_runs : (runs : List Run) (xs : List ℕ) (n k : ℕ) (d : Run) → RunsKept (reverse runs) xs → IsFound runs n k → k < length runs →
    RunsKept (reverse (take k runs)) (take (get_or runs k d).singles xs) × (take n (spread (reverse (take k runs)) (take (get_or runs k d).singles xs)) ≡ take n (spread (reverse runs) xs))
without_runs runs xs n k d kept found more =
    let rs : List Run = reverse runs in
    let l : length rs ≡ length runs = length-reverse runs in
    let j : ℕ = length runs - k - 1 in
    let sj : suc j ≡ length runs - k = omega arith in
    let at : get_or rs j d ≡ get_or runs k d = get_or-reverse runs j d (omega arith) ∙ ap (λ i. get_or runs i d) (omega arith) in
    let c : cut (suc j) rs xs ≡ take (get_or runs k d).singles xs = cut_take j rs xs d (omega arith) kept ∙ ap (λ (q : Run). take q.singles xs) at in
    let r : drop (suc j) rs ≡ reverse (take k runs) = ap (λ i. drop i rs) sj ∙ sym (reverse_take k runs (omega arith)) in
    let p = cut_numbers (suc j) rs xs in
    let s : length (spread (drop (suc j) rs) (cut (suc j) rs xs)) ≡ (get_or rs j d).start = cut_start j rs xs d (omega arith) kept in
    let a = found.after d more in
    let e = ap (λ (q : Run). q.start) at in
    let t : take n (spread rs xs) ≡ take n (spread (drop (suc j) rs) (cut (suc j) rs xs)) =
    ap (take n) p.1 ∙ take-append-le n (spread (drop (suc j) rs) (cut (suc j) rs xs)) p.0 (omega arith) in (
      subst (λ (ys : List ℕ). RunsKept (reverse (take k runs)) ys) c (subst (λ (qs : List Run). RunsKept qs (cut (suc j) rs xs)) r (cut_kept (suc j) rs xs kept)),
      sym (t ∙ ap (λ (qs : List Run). take n (spread qs (cut (suc j) rs xs))) r ∙ ap (λ (ys : List ℕ). take n (spread (reverse (take k runs)) ys)) c),
    )

pub begin_before : (runs : List Run) (n k : ℕ) (d : Run) → IsFound runs n k → BeginBefore n (reverse (take k runs))
begin_before runs n zero d found = tt
begin_before runs n (suc k) d found =
    let w : suc k ≤ length runs = found.within in
    let m : suc k - 1 ≡ k = omega arith in
    let b : (get_or runs k d).start < n = subst (λ i. (get_or runs i d).start < n) m (found.before d (omega arith)) in
    let e : suc k ≡ k + 1 = omega arith in
    let r : reverse (take (suc k) runs) ≡ get_or runs k d ∷ reverse (take k runs) =
    ap (λ i. reverse (take i runs)) e ∙ ap reverse (take_more runs k d (omega arith)) ∙ reverse-append (take k runs) (get_or runs k d ∷ []) in
    subst (BeginBefore n) (sym r) b

-- fewer numbers, where the last run begins before their end
take-append : {X : Type 0} (n : ℕ) (xs ys : List X) → length xs ≤ n → take n (xs ++ ys) ≡ xs ++ take (n - length xs) ys
take-append n xs ys past = let e : n ≡ length xs + (n - length xs) = omega arith in ap (λ m. take m (xs ++ ys)) e ∙ take-append-add xs ys (n - length xs)

numbers-take : (first n k : ℕ) → k ≤ n → take k (numbers_from first n) ≡ numbers_from first k
numbers-take first n zero within = refl
numbers-take first zero (suc k) within = absurd (omega arith)
numbers-take first (suc n) (suc k) within = let w : k ≤ n = omega arith in ap (λ (us : List ℕ). first ∷ us) (numbers-take (suc first) n k w)

take_min : {X : Type 0} (n m : ℕ) (xs : List X) → m ≡ min n (length xs) → take m xs ≡ take n xs
take_min n m xs is = elim (cases_lt (length xs) n) [ inl h ↦ take_all m xs (omega arith) ∙ sym (take_all n xs (omega arith)) | inr h ↦ (let e : m ≡ n = omega arith in ap (λ i. take i xs) e) ]

abbrev pub shorter : Run → ℕ → Run
shorter r count = record r { count = count }

pub cut_run : (r : Run) (rs : List Run) (xs : List ℕ) (n count behind : ℕ) → RunsKept (r ∷ rs) xs → r.start ≤ n → count ≡ min (n - r.start) r.count → behind ≡ min (n - r.start - count) (length xs - r.singles) →
    RunsKept (shorter r count ∷ rs) (take (r.singles + behind) xs) × (spread (shorter r count ∷ rs) (take (r.singles + behind) xs) ≡ take n (spread (r ∷ rs) xs))
cut_run r rs xs n count behind kept from count_is behind_is =
    let m : ℕ = r.singles + behind in
    let s : r.singles ≤ length xs = kept.0 in
    let few : r.first + r.count < 2 ^ 32 = kept.2 in
    let front : take r.singles (take m xs) ≡ take r.singles xs = take-take r.singles m xs (omega arith) in
    let l = length-take m xs in
    let fs : List ℕ = spread rs (take r.singles xs) in
    let ns : List ℕ = numbers_from r.first r.count in
    let ds : List ℕ = drop r.singles xs in
    let a : length fs ≡ r.start = sym kept.1 in
    let nl : length ns ≡ r.count = length-numbers r.first r.count in
    let dl : length ds ≡ length xs - r.singles = length-drop r.singles xs in
    let past : ℕ = n - r.start in
    let ns_cut : take past ns ≡ numbers_from r.first count = sym (take_min past count ns (omega arith)) ∙ numbers-take r.first r.count count (omega arith) in
    let ds_cut : drop r.singles (take m xs) ≡ take behind ds = drop-take r.singles behind xs in
    let left : spread (shorter r count ∷ rs) (take m xs) ≡ (fs ++ numbers_from r.first count) ++ take behind ds =
    ap (λ (us : List ℕ). (spread rs us ++ numbers_from r.first count) ++ drop r.singles (take m xs)) front ∙ ap (λ (us : List ℕ). (fs ++ numbers_from r.first count) ++ us) ds_cut in
    let right : take n (spread (r ∷ rs) xs) ≡ fs ++ take past (ns ++ ds) =
    ap (take n) (append_assoc fs ns ds) ∙ take-append n fs (ns ++ ds) (omega arith) ∙ ap (λ i. fs ++ take i (ns ++ ds)) (omega arith) in
    let both : take past (ns ++ ds) ≡ numbers_from r.first count ++ take behind ds = cut_both past count behind ns ds (numbers_from r.first count) ns_cut (omega arith) (omega arith) in (
      (omega arith, kept.1 ∙ ap (λ (us : List ℕ). length (spread rs us)) (sym front), omega arith, subst (RunsKept rs) (sym front) kept.3),
      left ∙ append_assoc fs (numbers_from r.first count) (take behind ds) ∙ sym (right ∙ ap (λ (us : List ℕ). fs ++ us) both),
    )
  where
    cut_both : (past count behind : ℕ) (ns ds cs : List ℕ) → take past ns ≡ cs → count ≡ min past (length ns) → behind ≡ min (past - count) (length ds) → take past (ns ++ ds) ≡ cs ++ take behind ds
    cut_both past count behind ns ds cs cs_is count_is behind_is =
        elim (cases_lt (length ns) past) [
          | inl h ↦
              let c : count ≡ length ns = omega arith in
              let e : behind ≡ min (past - length ns) (length ds) = behind_is ∙ ap (λ i. min (past - i) (length ds)) c in
              take-append past ns ds (omega arith) ∙ ap (λ (us : List ℕ). ns ++ us) (sym (take_min (past - length ns) behind ds e))
              ∙ ap (λ (us : List ℕ). us ++ take behind ds) (sym (take_all past ns (omega arith)) ∙ cs_is)
          | inr h ↦
              let b : behind ≡ 0 = omega arith in
              take-append-le past ns ds h ∙ cs_is ∙ sym (append-nil cs) ∙ ap (λ i. cs ++ take i ds) (sym b)
        ]

pub length_by_last : (runs : List Run) (xs : List ℕ) (r : Run) → RunsKept (reverse runs) xs → slice_get runs (length runs - 1) ≡ Some r → length (spread (reverse runs) xs) ≡ r.start + r.count + (length xs - r.singles)
length_by_last runs xs r kept at =
    let e : reverse runs ≡ r ∷ reverse (take (length runs - 1) runs) = reverse_last runs r at in
    ap (λ (qs : List Run). length (spread qs xs)) e ∙ length-spread r (reverse (take (length runs - 1) runs)) xs (subst (λ (qs : List Run). RunsKept qs xs) e kept)

-- a list of numbers with one more, and with a run more
pub record Longer (runs : List Run) (singles ns old : List ℕ) : Type 0 where
  pub kept : RunsKept (reverse runs) singles
  pub numbers : spread (reverse runs) singles ≡ old ++ ns

pub one_more : (runs : List Run) (xs : List ℕ) (x : ℕ) (old : List ℕ) → RunsKept (reverse runs) xs → spread (reverse runs) xs ≡ old → Longer runs (xs ++ x ∷ []) (x ∷ []) old
one_more runs xs x old kept is =
    record {
      kept = kept_more (reverse runs) xs (x ∷ []) kept;
      numbers = spread_more (reverse runs) xs (x ∷ []) kept ∙ ap (λ (us : List ℕ). us ++ x ∷ []) is;
    }

pub run_more : (runs : List Run) (xs : List ℕ) (r : Run) (old : List ℕ) → RunsKept (reverse runs) xs → spread (reverse runs) xs ≡ old → r.singles ≡ length xs → r.start ≡ length old → r.first + r.count < 2 ^ 32 →
    Longer (runs ++ r ∷ []) xs (numbers_from r.first r.count) old
run_more runs xs r old kept is s at few =
    let e : reverse (runs ++ r ∷ []) ≡ r ∷ reverse runs = reverse-append runs (r ∷ []) in
    record {
      kept = subst (λ (qs : List Run). RunsKept qs xs) (sym e) (kept_run (reverse runs) xs r kept s (at ∙ ap length (sym is)) few);
      numbers = ap (λ (qs : List Run). spread qs xs) e ∙ spread_run (reverse runs) xs r s ∙ ap (λ (us : List ℕ). us ++ numbers_from r.first r.count) is;
    }

-- the same as the code reads it
pub none_at : (runs slice : List Run) (xs numbers : List ℕ) (place k : ℕ) (d : Run) → RunsKept (reverse runs) xs → slice ≡ runs → IsFound slice (place + 1) k → k ≡ 0 → spread (reverse runs) xs ≡ numbers → place < length numbers →
    (place < length xs) × (get_or xs place 0 ≡ get_or numbers place 0)
none_at runs slice xs numbers place k d kept same found none is below =
    let f = subst (λ (qs : List Run). IsFound qs (place + 1) k) same found in
    let g = subst (λ i. IsFound runs (place + 1) i) none f in
    let n = by_none runs xs place d kept g (subst (λ (us : List ℕ). place < length us) (sym is) below) in
    (n.0, n.1 ∙ ap (λ (us : List ℕ). get_or us place 0) is)

pub run_at : (runs slice : List Run) (xs numbers : List ℕ) (place k : ℕ) (r : Run) → RunsKept (reverse runs) xs → slice ≡ runs → IsFound slice (place + 1) k → (k ≡ 0 → ⊥) → spread (reverse runs) xs ≡ numbers → place < length numbers →
    r ≡ get_or runs (k - 1) r → ByRun r xs numbers place
run_at runs slice xs numbers place k r kept same found some is below at =
    let f = subst (λ (qs : List Run). IsFound qs (place + 1) k) same found in
    let b = by_run runs xs place k r kept f (omega (arith, some)) (subst (λ (us : List ℕ). place < length us) (sym is) below) in
    subst (λ (q : Run). ByRun q xs numbers place) (sym at) (subst (λ (us : List ℕ). ByRun (get_or runs (k - 1) r) xs us place) is b)

pub last_cut : (runs rest new : List Run) (xs cut_xs : List ℕ) (r : Run) (n count behind : ℕ) → RunsKept (reverse runs) xs → BeginBefore n (reverse runs) → runs ≡ rest ++ r ∷ [] →
    count ≡ min (n - r.start) r.count → behind ≡ min (n - r.start - count) (length xs - r.singles) → new ≡ rest ++ shorter r count ∷ [] → cut_xs ≡ take (r.singles + behind) xs →
    RunsKept (reverse new) cut_xs × (spread (reverse new) cut_xs ≡ take n (spread (reverse runs) xs))
last_cut runs rest new xs cut_xs r n count behind kept before runs_are count_is behind_is new_is cut_is =
    let e : reverse runs ≡ r ∷ reverse rest = ap reverse runs_are ∙ reverse-append rest (r ∷ []) in
    let f : reverse new ≡ shorter r count ∷ reverse rest = ap reverse new_is ∙ reverse-append rest (shorter r count ∷ []) in
    let k : RunsKept (r ∷ reverse rest) xs = subst (λ (qs : List Run). RunsKept qs xs) e kept in
    let b : r.start < n = subst (BeginBefore n) e before in
    let c = cut_run r (reverse rest) xs n count behind k (omega arith) count_is behind_is in (
      subst (λ (qs : List Run). RunsKept qs cut_xs) (sym f) (subst (λ (ys : List ℕ). RunsKept (shorter r count ∷ reverse rest) ys) (sym cut_is) c.0),
      ap (λ (qs : List Run). spread qs cut_xs) f ∙ ap (spread (shorter r count ∷ reverse rest)) cut_is ∙ c.1 ∙ ap (λ (qs : List Run). take n (spread qs xs)) (sym e),
    )
