-- How many numbers pass.
use Rattle.std.proofs.Common.{◌≡◌, ℕ, zero, suc, ◌<◌, ◌≤◌, Bool, true, false, cond, refl, sym, arith, ◌⊎◌, inl, inr, ◌&&◌, ◌||◌}
use Rattle.std.proofs.lemmas.Bool.{false≢true, cases_lt}
use Rattle.sc_sched.specs.Step.{count_below}

bit_le : (a b : Bool) → (a ≡ true → b ≡ true) → cond a 1 0 ≤ cond b 1 0
bit_le true b h = rw (h refl) (omega arith)
bit_le false true h = omega arith
bit_le false false h = omega arith

pub count_below_le : (p q : ℕ → Bool) (n : ℕ) → ((y : ℕ) → y < n → p y ≡ true → q y ≡ true) → count_below p n ≤ count_below q n
count_below_le p q zero h = omega arith
count_below_le p q (suc n) h =
    let a : count_below p n ≤ count_below q n = count_below_le p q n (λ y b. h y (omega arith)) in
    let b : cond (p n) 1 0 ≤ cond (q n) 1 0 = bit_le (p n) (q n) (h n (omega arith)) in
    omega arith

pub count_below_same : (p q : ℕ → Bool) (n : ℕ) → ((y : ℕ) → y < n → p y ≡ q y) → count_below p n ≡ count_below q n
count_below_same p q zero h = refl
count_below_same p q (suc n) h =
    let a : count_below p n ≡ count_below q n = count_below_same p q n (λ y b. h y (omega arith)) in
    rw (a, h n (omega arith)) refl

pub lt_cases : (x n : ℕ) → x < suc n → (x ≡ n) ⊎ (x < n)
lt_cases x n h = elim (cases_lt x n) [ inl l ↦ inr l | inr g ↦ inl (omega (arith, h, g)) ]

pub count_below_lt : (p q : ℕ → Bool) (n x : ℕ) → ((y : ℕ) → y < n → p y ≡ true → q y ≡ true) → x < n → p x ≡ false → q x ≡ true → count_below p n < count_below q n
count_below_lt p q zero x h b u v = omega arith
count_below_lt p q (suc n) x h b u v =
    elim (lt_cases x n b) [
      | inl e ↦
          (let a : count_below p n ≤ count_below q n = count_below_le p q n (λ y b. h y (omega arith)) in
          rw (← e, u, v) (rw e (omega arith)))
      | inr l ↦
          (let a : count_below p n < count_below q n = count_below_lt p q n x (λ y b. h y (omega arith)) l u v in
          let b : cond (p n) 1 0 ≤ cond (q n) 1 0 = bit_le (p n) (q n) (h n (omega arith)) in
          omega arith)
    ]

-- truth values
pub and_left : (a b : Bool) → (a && b) ≡ true → a ≡ true
and_left true b h = refl
and_left false b h = h

pub and_right : (a b : Bool) → (a && b) ≡ true → b ≡ true
and_right true b h = h
and_right false b h = absurd (false≢true h)

pub both : (a b : Bool) → a ≡ true → b ≡ true → (a && b) ≡ true
both a b h k = rw (h, k) refl

pub either : (a b : Bool) → (a || b) ≡ true → (a ≡ true) ⊎ (b ≡ true)
either true b h = inl refl
either false b h = inr h

pub or_left : (a b : Bool) → a ≡ true → (a || b) ≡ true
or_left a b h = rw h refl

pub or_right : (a b : Bool) → b ≡ true → (a || b) ≡ true
or_right true b h = refl
or_right false b h = h

pub same_truth : (a b : Bool) → (a ≡ true → b ≡ true) → (b ≡ true → a ≡ true) → a ≡ b
same_truth true b h k = sym (h refl)
same_truth false true h k = k refl
same_truth false false h k = refl
