-- The rows before the first item, and what a table keeps of rows.
use Rattle.std.proofs.Common.{◌≡◌, ℕ, zero, suc, ◌+◌, ◌<◌, ◌≤◌, List, [], ◌∷◌, ◌++◌, length, get_or, take, Bool, true, false, Option, Some, None, refl, sym, ap, ◌∙◌, arith, eqb-true, eq-eqb}
use Rattle.std.specs.Prelude.{nat_eq, max, slice_index}
use Rattle.std.proofs.lemmas.List.{take_more}
use Rattle.sc_gate.specs.Chains.{more, when, or_zero}
use Rattle.sc_path.specs.declared.row.Entry.{Entry}
use Rattle.sc_path.specs.Rows.{same_start, look, place}
use Rattle.sc_path.specs.Ends.{begin, positive, number_at, start_of}
use Rattle.sc_path.proofs.Rows.{more_none, look_append}

same_by : (t u : Bool) → (t ≡ true → u ≡ true) → (u ≡ true → t ≡ true) → u ≡ t
same_by true u f g = f refl
same_by false true f g = sym (g refl)
same_by false false f g = refl

zero_suc : (v : ℕ) → nat_eq 0 (suc v) ≡ false
zero_suc v = same_by false (nat_eq 0 (suc v)) (λ e. cc) (λ e. let h : 0 ≡ suc v = eqb-true 0 (suc v) e in absurd (omega arith))

suc_zero : (v : ℕ) → nat_eq (suc v) 0 ≡ false
suc_zero v = same_by false (nat_eq (suc v) 0) (λ e. cc) (λ e. let h : suc v ≡ 0 = eqb-true (suc v) 0 e in absurd (omega arith))

suc_suc : (u v : ℕ) → nat_eq (suc u) (suc v) ≡ nat_eq u v
suc_suc u v = same_by (nat_eq u v) (nat_eq (suc u) (suc v)) (λ e. let h : u ≡ v = eqb-true u v e in eq-eqb (suc u) (suc v) (ap suc h)) (λ e. let h : suc u ≡ suc v = eqb-true (suc u) (suc v) e in let q : u ≡ v = omega arith in eq-eqb u v q)

pub begin_none : (s : Option ℕ) → look (record { start = None; weight = 0 } ∷ []) s ≡ begin None s
begin_none None = refl
begin_none (Some v) = refl

pub begin_some : (u : ℕ) (s : Option ℕ) → look (record { start = None; weight = 0 } ∷ record { start = Some u; weight = 0 } ∷ []) s ≡ begin (Some u) s
begin_some u None = refl
begin_some u (Some v) = more_none (when (nat_eq u v) (Some 0))

pub positive_more : (a b : Option ℕ) → positive (more a b) ≡ more (positive a) (positive b)
positive_more None b = refl
positive_more (Some zero) None = refl
positive_more (Some (suc a)) None = refl
positive_more (Some zero) (Some b) = ap (λ (n : ℕ). positive (Some n)) (let e : max 0 b ≡ b = omega arith in e)
positive_more (Some (suc a)) (Some zero) = ap (λ (n : ℕ). positive (Some n)) (let e : max (suc a) 0 ≡ suc a = omega arith in e)
positive_more (Some (suc a)) (Some (suc b)) = let e : max (suc a) (suc b) ≡ suc (max a b) = omega arith in ap (λ (n : ℕ). positive (Some n)) e ∙ ap Some (sym e)

pub positive_some : (n : ℕ) → 0 < n → positive (Some n) ≡ Some n
positive_some zero h = absurd (omega arith)
positive_some (suc n) h = refl

one_by : (t : Bool) (n : ℕ) → 0 < n → positive (more (when t (Some n)) None) ≡ more (when t (Some n)) None
one_by true n h = positive_some n h
one_by false n h = refl

none_by : (t : Bool) (n : ℕ) → n ≡ 0 → positive (more (when t (Some n)) None) ≡ None
none_by true n h = ap (λ (x : ℕ). positive (Some x)) h
none_by false n h = refl

number_append : (xs : List ℕ) (n p : ℕ) → number_at (xs ++ n ∷ []) p ≡ more (number_at xs p) (when (nat_eq (length xs) p) (Some n))
number_append [] n zero = ap (λ (t : Bool). when t (Some n)) (sym (eq-eqb 0 0 refl))
number_append [] n (suc p) = ap (λ (t : Bool). when t (Some n)) (sym (zero_suc p))
number_append (x ∷ xs) n zero = ap (λ (t : Bool). more (Some x) (when t (Some n))) (sym (suc_zero (length xs)))
number_append (x ∷ xs) n (suc p) = number_append xs n p ∙ ap (λ (t : Bool). more (number_at xs p) (when t (Some n))) (sym (suc_suc (length xs) p))

same_place : (at : ℕ) (s : Option ℕ) → same_start (start_of at) s ≡ nat_eq at (place s)
same_place zero None = sym (eq-eqb 0 0 refl)
same_place zero (Some v) = sym (zero_suc v)
same_place (suc u) None = sym (suc_zero u)
same_place (suc u) (Some v) = sym (suc_suc u v)

taken : (k : ℕ) (xs : List ℕ) → k ≤ length xs → length (take k xs) ≡ k
taken zero xs h = refl
taken (suc k) [] h = absurd (omega arith)
taken (suc k) (x ∷ xs) h = ap suc (taken k xs (omega arith))

number_more : (last : List ℕ) (k p : ℕ) → k < length last → number_at (take (k + 1) last) p ≡ more (number_at (take k last) p) (when (nat_eq k p) (Some (get_or last k 0)))
number_more last k p h =
    ap (λ (x : List ℕ). number_at x p) (take_more last k 0 h) ∙ number_append (take k last) (get_or last k 0) p
    ∙ ap (λ (n : ℕ). more (number_at (take k last) p) (when (nat_eq n p) (Some (get_or last k 0)))) (taken k last (omega arith))

pub number_in : (numbers : List ℕ) (p : ℕ) → p < length numbers → number_at numbers p ≡ Some (slice_index numbers p)
number_in [] p h = absurd (omega arith)
number_in (n ∷ numbers) zero h = refl
number_in (n ∷ numbers) (suc p) h = number_in numbers p (omega arith)

pub number_past : (numbers : List ℕ) (p : ℕ) → length numbers ≤ p → number_at numbers p ≡ None
number_past [] p h = refl
number_past (n ∷ numbers) zero h = absurd (omega arith)
number_past (n ∷ numbers) (suc p) h = number_past numbers p (omega arith)

pub positive_zero : (o : Option ℕ) → ((n : ℕ) → o ≡ Some n → 0 < n) → positive (Some (or_zero o)) ≡ o
positive_zero None f = refl
positive_zero (Some n) f = positive_some n (f n refl)

pub positive_same : (o : Option ℕ) → ((n : ℕ) → o ≡ Some n → 0 < n) → positive o ≡ o
positive_same None f = refl
positive_same (Some n) f = positive_some n (f n refl)

pub positive_start : (t : Bool) → positive (when t (Some 0)) ≡ None
positive_start true = refl
positive_start false = refl

-- an entry that is kept where it has a weight
pub dropped_one : (old : List Entry) (e : Entry) (s : Option ℕ) → e.weight ≡ 0 → look old s ≡ more (look old s) (positive (look (e ∷ []) s))
dropped_one old e s p = sym (more_none (look old s)) ∙ ap (more (look old s)) (sym (none_by (same_start e.start s) e.weight p))

pub kept_one : (old : List Entry) (e : Entry) (s : Option ℕ) → 0 < e.weight → look (old ++ e ∷ []) s ≡ more (look old s) (positive (look (e ∷ []) s))
kept_one old e s p = look_append old (e ∷ []) s ∙ ap (more (look old s)) (sym (one_by (same_start e.start s) e.weight p))

pub kept_next : (row out next : List Entry) (k : ℕ) (d : Entry) (s : Option ℕ) → k < length row → look out s ≡ positive (look (take k row) s) → look next s ≡ more (look out s) (positive (look (get_or row k d ∷ []) s)) →
    look next s ≡ positive (look (take (k + 1) row) s)
kept_next row out next k d s h i n =
    n ∙ ap (λ (o : Option ℕ). more o (positive (look (get_or row k d ∷ []) s))) i
    ∙ sym (positive_more (look (take k row) s) (look (get_or row k d ∷ []) s))
    ∙ ap positive (sym (look_append (take k row) (get_or row k d ∷ []) s))
    ∙ ap (λ (x : List Entry). positive (look x s)) (sym (take_more row k d h))

pub last_next : (last : List ℕ) (out next : List Entry) (k : ℕ) (e : Entry) (s : Option ℕ) → k < length last → e.start ≡ start_of k → e.weight ≡ get_or last k 0 → look out s ≡ positive (number_at (take k last) (place s)) →
    look next s ≡ more (look out s) (positive (look (e ∷ []) s)) → look next s ≡ positive (number_at (take (k + 1) last) (place s))
last_next last out next k e s h st w i n =
    n ∙ ap (λ (o : Option ℕ). more o (positive (look (e ∷ []) s))) i
    ∙ ap (λ (t : Option ℕ). more (positive (number_at (take k last) (place s))) (positive (more (when (same_start t s) (Some e.weight)) None))) st
    ∙ ap (λ (m : ℕ). more (positive (number_at (take k last) (place s))) (positive (more (when (same_start (start_of k) s) (Some m)) None))) w
    ∙ ap (λ (t : Bool). more (positive (number_at (take k last) (place s))) (positive (more (when t (Some (get_or last k 0))) None))) (same_place k s)
    ∙ ap (λ (o : Option ℕ). more (positive (number_at (take k last) (place s))) (positive o)) (more_none (when (nat_eq k (place s)) (Some (get_or last k 0))))
    ∙ sym (positive_more (number_at (take k last) (place s)) (when (nat_eq k (place s)) (Some (get_or last k 0))))
    ∙ ap positive (sym (number_more last k (place s) h))
