-- Greatest numbers of unions and sums.
use Rattle.std.proofs.Common.{◌≡◌, ℕ, ◌+◌, ◌<◌, ◌≤◌, List, [], ◌∷◌, Bool, true, false, Option, Some, None, ◌⊎◌, inl, inr, refl, ap, subst, arith}
use Rattle.std.specs.Prelude.{max}
use Rattle.std.proofs.lemmas.Bool.{cases_lt}
use Rattle.sc_gate.specs.declared.gate.Wire.{Wire}
use Rattle.sc_gate.specs.Chains.{Greatest, Reached, Bounds, more, plus, when, over}

pub greatest_none : (P : ℕ → Type 0) → ((m : ℕ) → P m → ⊥) → Greatest P None
greatest_none P empty = record { reached = tt; bounds = empty }

max_reached : (P Q : ℕ → Type 0) (a b : ℕ) → P a → Q b → (a < b) ⊎ (b ≤ a) → P (max a b) ⊎ Q (max a b)
max_reached P Q a b p q (inl h) = let e : b ≡ max a b = omega arith in inr (subst Q e q)
max_reached P Q a b p q (inr h) = let e : a ≡ max a b = omega arith in inl (subst P e p)

either_reached : (P Q : ℕ → Type 0) (a b : Option ℕ) → Reached P a → Reached Q b → Reached (λ n. P n ⊎ Q n) (more a b)
either_reached P Q None None p q = tt
either_reached P Q None (Some b) p q = inr q
either_reached P Q (Some a) None p q = inl p
either_reached P Q (Some a) (Some b) p q = max_reached P Q a b p q (cases_lt a b)

pub bounds_left : (a b : Option ℕ) (m : ℕ) → Bounds a m → Bounds (more a b) m
bounds_left None b m h = absurd h
bounds_left (Some a) None m h = h
bounds_left (Some a) (Some b) m h = omega arith

pub bounds_right : (a b : Option ℕ) (m : ℕ) → Bounds b m → Bounds (more a b) m
bounds_right None b m h = h
bounds_right (Some a) None m h = absurd h
bounds_right (Some a) (Some b) m h = omega arith

bounds_either : (P Q : ℕ → Type 0) (a b : Option ℕ) (m : ℕ) → Greatest P a → Greatest Q b → P m ⊎ Q m → Bounds (more a b) m
bounds_either P Q a b m g h (inl p) = bounds_left a b m (g.bounds m p)
bounds_either P Q a b m g h (inr q) = bounds_right a b m (h.bounds m q)

pub greatest_either : (P Q : ℕ → Type 0) (a b : Option ℕ) → Greatest P a → Greatest Q b → Greatest (λ n. P n ⊎ Q n) (more a b)
greatest_either P Q a b g h = record {
  reached = either_reached P Q a b g.reached h.reached;
  bounds = λ m. bounds_either P Q a b m g h;
}

-- sums of a number of each
abbrev pub SumOf : (ℕ → Type 0) → (ℕ → Type 0) → ℕ → Type 0
SumOf P Q n = (a b : ℕ) × P a × Q b × (n ≡ a + b)

sum_reached : (P Q : ℕ → Type 0) (a b : Option ℕ) → Reached P a → Reached Q b → Reached (SumOf P Q) (plus a b)
sum_reached P Q None b p q = tt
sum_reached P Q (Some a) None p q = tt
sum_reached P Q (Some a) (Some b) p q = (a, b, p, q, refl)

bounds_plus : (a b : Option ℕ) (m k n : ℕ) → Bounds a m → Bounds b k → n ≡ m + k → Bounds (plus a b) n
bounds_plus None b m k n p q e = absurd p
bounds_plus (Some a) None m k n p q e = absurd q
bounds_plus (Some a) (Some b) m k n p q e = omega arith

pub greatest_sum : (P Q : ℕ → Type 0) (a b : Option ℕ) → Greatest P a → Greatest Q b → Greatest (SumOf P Q) (plus a b)
greatest_sum P Q a b g h = record {
  reached = sum_reached P Q a b g.reached h.reached;
  bounds = λ m s. bounds_plus a b s.0 s.1 m (g.bounds s.0 s.2) (h.bounds s.1 s.3) s.4;
}

same_reached : (P Q : ℕ → Type 0) (a : Option ℕ) → ((n : ℕ) → P n → Q n) → Reached P a → Reached Q a
same_reached P Q None f p = tt
same_reached P Q (Some a) f p = f a p

pub greatest_same : (P Q : ℕ → Type 0) (a : Option ℕ) → ((n : ℕ) → P n → Q n) → ((n : ℕ) → Q n → P n) → Greatest P a → Greatest Q a
greatest_same P Q a f g h = record { reached = same_reached P Q a f h.reached; bounds = λ m q. h.bounds m (g m q) }

pub greatest_one : (k : ℕ) → Greatest (λ n. n ≡ k) (Some k)
greatest_one k = record { reached = refl; bounds = λ m e. let r : m ≤ k = omega arith in r }

pub greatest_when : (P : ℕ → Type 0) (t : Bool) (a : Option ℕ) → Greatest P a → Greatest (λ n. (t ≡ true) × P n) (when t a)
greatest_when P true a g = greatest_same P (λ n. (true ≡ true) × P n) a (λ n p. (refl, p)) (λ n q. q.1) g
greatest_when P false a g = record { reached = tt; bounds = λ m q. let e : false ≡ true = q.0 in cc }

-- what holds at one of these wires
abbrev pub AtSome : List Wire → (Wire → ℕ → Type 0) → ℕ → Type 0
AtSome [] P n = ⊥
AtSome (v ∷ vs) P n = P v n ⊎ AtSome vs P n

pub greatest_over : (P : Wire → ℕ → Type 0) (f : Wire → Option ℕ) → ((v : Wire) → Greatest (P v) (f v)) → (vs : List Wire) → Greatest (AtSome vs P) (over vs f)
greatest_over P f g [] = greatest_none (AtSome [] P) (λ m h. h)
greatest_over P f g (v ∷ vs) = greatest_either (P v) (AtSome vs P) (f v) (over vs f) (g v) (greatest_over P f g vs)

unique_at : (P : ℕ → Type 0) (a b : Option ℕ) → Greatest P a → Greatest P b → Reached P a → Reached P b → a ≡ b
unique_at P None None g h p q = refl
unique_at P None (Some b) g h p q = absurd (g.bounds b q)
unique_at P (Some a) None g h p q = absurd (h.bounds a p)
unique_at P (Some a) (Some b) g h p q =
    let x : b ≤ a = g.bounds b q in
    let y : a ≤ b = h.bounds a p in
    let e : a ≡ b = omega arith in ap Some e

pub greatest_unique : (P : ℕ → Type 0) (a b : Option ℕ) → Greatest P a → Greatest P b → a ≡ b
greatest_unique P a b g h = unique_at P a b g h g.reached h.reached

-- a number with the property that is not below m
pub record Above (P : ℕ → Type 0) (m : ℕ) : Type 0 where
  pub number : ℕ
  pub holds : P number
  pub above : m ≤ number

bounds_above : (r : Option ℕ) (m n : ℕ) → m ≤ n → Bounds r n → Bounds r m
bounds_above None m n h b = absurd b
bounds_above (Some k) m n h b = omega arith

-- the greatest of a part that holds a number above each is that of all
pub greatest_part : (P Q : ℕ → Type 0) (a : Option ℕ) → ((n : ℕ) → P n → Q n) → ((m : ℕ) → Q m → Above P m) → Greatest P a → Greatest Q a
greatest_part P Q a f u g = record {
  reached = same_reached P Q a f g.reached;
  bounds = λ m q. let x = u m q in bounds_above a m x.number x.above (g.bounds x.number x.holds);
}

back_reached : (P Q : ℕ → Type 0) (a : Option ℕ) → ((n : ℕ) → P n → Q n) → ((m : ℕ) → Q m → Above P m) → Greatest Q a → Reached Q a → Reached P a
back_reached P Q None f u g r = tt
back_reached P Q (Some n) f u g r =
    let x = u n r in
    let b : x.number ≤ n = g.bounds x.number (f x.number x.holds) in
    let l : n ≤ x.number = x.above in
    let e : x.number ≡ n = omega arith in
    subst P e x.holds

-- the greatest of all is that of a part that holds a number above each
pub greatest_back : (P Q : ℕ → Type 0) (a : Option ℕ) → ((n : ℕ) → P n → Q n) → ((m : ℕ) → Q m → Above P m) → Greatest Q a → Greatest P a
greatest_back P Q a f u g = record { reached = back_reached P Q a f u g g.reached; bounds = λ m p. g.bounds m (f m p) }
