-- Parentheses by their depth.
use Rattle.std.proofs.Common.{◌⊎◌, ℕ, zero, suc, ◌≡◌, refl, sym, ap, ◌∙◌, subst, ◌+◌, ◌-◌, ◌<◌, ◌≤◌, Bool, true, false, cond, List, length, take, get_or, inl, inr, arith}
use Rattle.std.proofs.lemmas.List.{take_all}
use Rattle.std.proofs.lemmas.List.Sums.{count_by_more_yes, count_by_more_no}
use Rattle.std.proofs.lemmas.Bool.{cases_lt}
use Rattle.sc_syntax.specs.declared.token.Mark.{Mark}
use Rattle.sc_syntax.specs.declared.token.Mark.TheVariants as mark
use Rattle.sc_syntax.specs.declared.token.Token.{Token}
use Rattle.sc_syntax.specs.declared.token.TokenSort.{TokenSort}
use Rattle.sc_syntax.specs.declared.token.TokenSort.TheVariants as sort
use Rattle.sc_syntax.specs.Directives.{is_open, is_close, opened, closed, IsEnclosed}

open_not_close_mark : (m : Mark) → is_open (sort.Mark m) ≡ true → is_close (sort.Mark m) ≡ false
open_not_close_mark mark.OpenParen e = refl
open_not_close_mark _ e = cc

open_not_close : (s : TokenSort) → is_open s ≡ true → is_close s ≡ false
open_not_close (sort.Mark m) e = open_not_close_mark m e
open_not_close _ e = cc

-- the depth behind a token
abbrev pub depth_of : TokenSort → ℕ → ℕ
depth_of s depth = cond (is_open s) (depth + 1) (cond (is_close s) (depth - 1) depth)

-- the first i tokens leave this depth, and no shorter front of them leaves none
pub record DepthAt (value : List Token) (i depth : ℕ) : Type 0 where
  pub sum : depth + closed (take i value) ≡ opened (take i value)
  pub positive : 0 < i → 0 < depth
  pub within : (k : ℕ) → 0 < k → k ≤ i → closed (take k value) < opened (take k value)
  pub small : depth ≤ i

pub depth_begins : (value : List Token) → DepthAt value 0 0
depth_begins value = record { sum = refl; positive = λ h. absurd (omega arith); within = λ k h l. absurd (omega arith); small = omega arith }

-- counts of one token more
count_open : (value : List Token) (i : ℕ) (t : Token) (b : Bool) → i < length value → is_open (get_or value i t).sort ≡ b → opened (take (i + 1) value) ≡ cond b (opened (take i value) + 1) (opened (take i value))
count_open value i t true l e = count_by_more_yes (λ x. is_open x.sort) value i t l e
count_open value i t false l e = count_by_more_no (λ x. is_open x.sort) value i t l e

count_close : (value : List Token) (i : ℕ) (t : Token) (b : Bool) → i < length value → is_close (get_or value i t).sort ≡ b → closed (take (i + 1) value) ≡ cond b (closed (take i value) + 1) (closed (take i value))
count_close value i t true l e = count_by_more_yes (λ x. is_close x.sort) value i t l e
count_close value i t false l e = count_by_more_no (λ x. is_close x.sort) value i t l e

-- the sum behind one token more, where the depth was above 0 or the token opens
sum_case : (value : List Token) (i depth : ℕ) (t : Token) (a b : Bool) → i < length value → is_open (get_or value i t).sort ≡ a → is_close (get_or value i t).sort ≡ b
    → depth + closed (take i value) ≡ opened (take i value) → (0 < depth) → cond a (depth + 1) (cond b (depth - 1) depth) + closed (take (i + 1) value) ≡ opened (take (i + 1) value)
sum_case value i depth t true true l e f h p =
    let apart = open_not_close (get_or value i t).sort e in
    cc
sum_case value i depth t true false l e f h p = omega (arith, count_open value i t true l e, count_close value i t false l f)
sum_case value i depth t false true l e f h p = omega (arith, count_open value i t false l e, count_close value i t true l f)
sum_case value i depth t false false l e f h p = omega (arith, count_open value i t false l e, count_close value i t false l f)

-- at the first token the depth is above 0 exactly where it opens
first_case : (value : List Token) (t : Token) (a b : Bool) → 0 < length value → is_open (get_or value 0 t).sort ≡ a → is_close (get_or value 0 t).sort ≡ b
    → 0 < cond a (0 + 1) (cond b (0 - 1) 0) → (a ≡ true) × (cond a (0 + 1) (cond b (0 - 1) 0) + closed (take (0 + 1) value) ≡ opened (take (0 + 1) value))
first_case value t true true l e f p =
    let apart = open_not_close (get_or value 0 t).sort e in
    cc
first_case value t true false l e f p = (refl, omega (arith, count_open value 0 t true l e, count_close value 0 t false l f))
first_case value t false true l e f p = absurd (omega arith)
first_case value t false false l e f p = absurd (omega arith)

sum_step : (value : List Token) (i depth : ℕ) (t : Token) → i < length value → DepthAt value i depth → 0 < depth_of (get_or value i t).sort depth
    → depth_of (get_or value i t).sort depth + closed (take (i + 1) value) ≡ opened (take (i + 1) value)
sum_step value zero zero t l h p = (first_case value t _ _ l refl refl p).1
sum_step value zero (suc d) t l h p = absurd (omega (arith, h.small))
sum_step value (suc i) depth t l h p = sum_case value (suc i) depth t _ _ l refl refl h.sum (h.positive (omega arith))

depth_small : (s : TokenSort) (depth : ℕ) (a b : Bool) → cond a (depth + 1) (cond b (depth - 1) depth) ≤ depth + 1
depth_small s depth true b = omega arith
depth_small s depth false true = omega arith
depth_small s depth false false = omega arith

within_case : (value : List Token) (i k : ℕ) → ((k : ℕ) → 0 < k → k ≤ i → closed (take k value) < opened (take k value)) → closed (take (i + 1) value) < opened (take (i + 1) value)
    → 0 < k → k ≤ i + 1 → (i < k) ⊎ (k ≤ i) → closed (take k value) < opened (take k value)
within_case value i k h last above upto (inr small) = h k above small
within_case value i k h last above upto (inl past) =
    let same : i + 1 ≡ k = omega arith in
    let P : ℕ → Type 0 = λ n. closed (take n value) < opened (take n value) in
    subst P same last

-- one token more
pub depth_step : (value : List Token) (i depth next : ℕ) (t : Token) → i < length value → t ≡ get_or value i t → DepthAt value i depth → next ≡ depth_of t.sort depth → 0 < next → DepthAt value (i + 1) next
depth_step value i depth next t l is h e p =
    let next_is : next ≡ depth_of (get_or value i t).sort depth = e ∙ ap (λ x. depth_of x.sort depth) is in
    let positive : 0 < depth_of (get_or value i t).sort depth = omega (arith, next_is) in
    let sum = sum_step value i depth t l h positive in
    let last : closed (take (i + 1) value) < opened (take (i + 1) value) = omega arith in
    record {
      sum = omega (arith, next_is, sum);
      positive = λ _. p;
      within = λ k above upto. within_case value i k h.within last above upto (cases_lt i k);
      small = omega (arith, next_is, h.small, depth_small (get_or value i t).sort depth (is_open (get_or value i t).sort) (is_close (get_or value i t).sort));
    }

-- ---- where the depth comes back to 0

-- a token that leaves no depth
sum_closing : (value : List Token) (i depth : ℕ) (t : Token) (a b : Bool) → i < length value → is_open (get_or value i t).sort ≡ a → is_close (get_or value i t).sort ≡ b
    → depth + closed (take i value) ≡ opened (take i value) → 0 < depth → cond a (depth + 1) (cond b (depth - 1) depth) ≡ 0 → closed (take (i + 1) value) ≡ opened (take (i + 1) value)
sum_closing value i depth t a b l e f h p z = omega (arith, sum_case value i depth t a b l e f h p)

grows_open : (value : List Token) (i : ℕ) (t : Token) (b : Bool) → i < length value → is_open (get_or value i t).sort ≡ b → opened (take i value) ≤ opened (take (i + 1) value)
grows_open value i t true l e = omega (arith, count_open value i t true l e)
grows_open value i t false l e = omega (arith, count_open value i t false l e)

-- the first token does not open
first_none : (value : List Token) (t : Token) (a : Bool) (b : Bool) → 0 < length value → is_open (get_or value 0 t).sort ≡ a → cond a (0 + 1) (cond b (0 - 1) 0) ≡ 0 → opened (take (0 + 1) value) ≡ 0
first_none value t true b l e z = absurd (omega arith)
first_none value t false b l e z = count_open value 0 t false l e

zero_first : (value : List Token) (depth : ℕ) (t : Token) → 0 < length value → DepthAt value 0 depth → depth_of (get_or value 0 t).sort depth ≡ 0 → opened (take (0 + 1) value) ≡ 0
zero_first value zero t l h z = first_none value t (is_open (get_or value 0 t).sort) (is_close (get_or value 0 t).sort) l refl z
zero_first value (suc d) t l h z = absurd (omega (arith, h.small))

-- the depth is 0 behind the last token and no other
pub enclosed_here : (value : List Token) (i depth : ℕ) (t : Token) → i < length value → t ≡ get_or value i t → DepthAt value i depth → depth_of t.sort depth ≡ 0
    → 0 < i → i + 1 ≡ length value → IsEnclosed value
enclosed_here value i depth t l is h z above last =
    let zero_is : depth_of (get_or value i t).sort depth ≡ 0 = ap (λ x. depth_of x.sort depth) (sym is) ∙ z in
    let closing = sum_closing value i depth t (is_open (get_or value i t).sort) (is_close (get_or value i t).sort) l refl refl h.sum (h.positive above) zero_is in
    let whole : take (i + 1) value ≡ value = take_all (i + 1) value (omega arith) in
    record {
      some = omega (arith, h.within i above (omega arith), grows_open value i t (is_open (get_or value i t).sort) l refl, ap opened whole);
      balanced = sym (ap closed whole) ∙ closing ∙ ap opened whole;
      within = λ k low high. h.within k low (omega arith);
    }

pub enclosed_last : (value : List Token) (i depth : ℕ) (t : Token) → i < length value → t ≡ get_or value i t → DepthAt value i depth → depth_of t.sort depth ≡ 0
    → IsEnclosed value → (0 < i) × (i + 1 ≡ length value)
enclosed_last value zero depth t l is h z e =
    let zero_is : depth_of (get_or value 0 t).sort depth ≡ 0 = ap (λ x. depth_of x.sort depth) (sym is) ∙ z in
    let none = zero_first value depth t l h zero_is in
    absurd (one_case value none e (cases_lt 1 (length value)))
  where
    one_case : (value : List Token) → opened (take (0 + 1) value) ≡ 0 → IsEnclosed value → (1 < length value) ⊎ (length value ≤ 1) → ⊥
    one_case value none e (inl more) = absurd (omega (arith, e.within 1 (omega arith) more))
    one_case value none e (inr one) = absurd (omega (arith, e.some, ap opened (take_all 1 value one)))
enclosed_last value (suc i) depth t l is h z e =
    let zero_is : depth_of (get_or value (suc i) t).sort depth ≡ 0 = ap (λ x. depth_of x.sort depth) (sym is) ∙ z in
    let closing = sum_closing value (suc i) depth t (is_open (get_or value (suc i) t).sort) (is_close (get_or value (suc i) t).sort) l refl refl h.sum (h.positive (omega arith)) zero_is in
    (omega arith, last_case value (suc i) l closing e (cases_lt (suc i + 1) (length value)))
  where
    last_case : (value : List Token) (j : ℕ) → j < length value → closed (take (j + 1) value) ≡ opened (take (j + 1) value) → IsEnclosed value → (j + 1 < length value) ⊎ (length value ≤ j + 1) → j + 1 ≡ length value
    last_case value j l closing e (inl more) = absurd (omega (arith, e.within (j + 1) (omega arith) more))
    last_case value j l closing e (inr last) = omega arith

-- the depth never came back to 0
pub not_enclosed : (value : List Token) (i depth : ℕ) → DepthAt value i depth → length value ≤ i → IsEnclosed value → ⊥
not_enclosed value i depth h l e =
    let whole : take i value ≡ value = take_all i value l in
    open_case value i depth h (ap opened whole) (ap closed whole) e (cases_lt 0 i)
  where
    open_case : (value : List Token) (i depth : ℕ) → DepthAt value i depth → opened (take i value) ≡ opened value → closed (take i value) ≡ closed value → IsEnclosed value → (0 < i) ⊎ (i ≤ 0) → ⊥
    open_case value i depth h o c e (inl above) = absurd (omega (arith, h.sum, h.positive above, e.balanced))
    open_case value i depth h o c e (inr none) =
        let nothing : i ≡ 0 = omega arith in
        let P : ℕ → Type 0 = λ n. opened (take n value) ≡ opened value in
        absurd (omega (arith, subst P nothing o, e.some))
