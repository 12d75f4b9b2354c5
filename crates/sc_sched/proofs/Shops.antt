-- The rules over a layout meet the conditions of a shop.
use Rattle.std.proofs.Common.{◌≡◌, ℕ, zero, suc, ◌<◌, ◌≤◌, Bool, true, false, List, [], ◌∷◌, ◌++◌, length, refl, sym, ap, ◌∙◌, arith, inl, inr, append_assoc, ◌&&◌, not}
use Rattle.std.specs.Prelude.{◌==◌, slice_index, slice_index_or, nat_lt}
use Rattle.std.specs.List.{All}
use Rattle.std.proofs.lemmas.Bool.{false≢true, cases_lt, eqb-true, eq-eqb, lt-ltb, le-ltb, ltb-true}
use Rattle.std.proofs.lemmas.List.Elements.{All-append, All-cons, All-nil}
use Rattle.std.proofs.lemmas.List.{get_or_default}
use Rattle.std.proofs.Math.ListN.{get_or-eq_default}
use Rattle.sc_sched.specs.Step.{Shop, IsShop, IsOrder}
use Rattle.sc_sched.specs.Schedule.{positions}
use Rattle.sc_sched.specs.Layout.{Layout, IsLayout}
use Rattle.sc_sched.specs.Rounds.{shop_of, stands, Free, Opened}
use Rattle.sc_sched.proofs.Take.{not_eq, taking_none}
use Rattle.sc_sched.proofs.Build.{needed_none, size_none}

-- a number among those below n: what stands before it and after it is another
pub record Among (n k : ℕ) : Type 0 where
  pub front : List ℕ
  pub back : List ℕ
  pub is : positions n ≡ front ++ k ∷ back
  pub not_front : All (λ j. (k == j) ≡ false) front
  pub not_back : All (λ j. (k == j) ≡ false) back

all_other : (n k : ℕ) → n ≤ k → All (λ j. (k == j) ≡ false) (positions n)
all_other zero k l = All-nil _
all_other (suc n) k l = All-append (λ (j : ℕ). (k == j) ≡ false) (positions n) (n ∷ []) (all_other n k (omega (arith, l))) (All-cons (λ (j : ℕ). (k == j) ≡ false) n [] (not_eq n k (λ e. omega (arith, e, l))) (All-nil _))

pub among : (n k : ℕ) → k < n → Among n k
among zero k l = absurd (omega (arith, l))
among (suc n) k l = elim (cases_lt k n) [
  | inl m ↦ (let a : Among n k = among n k m in record {
    front = a.front;
    back = a.back ++ n ∷ [];
    is = ap (λ (z : List ℕ). z ++ n ∷ []) a.is ∙ append_assoc a.front (k ∷ a.back) (n ∷ []);
    not_front = a.not_front;
    not_back = All-append (λ (j : ℕ). (k == j) ≡ false) a.back (n ∷ []) a.not_back (All-cons (λ (j : ℕ). (k == j) ≡ false) n [] (not_eq n k (λ e. omega (arith, e, m))) (All-nil _));
  })
  | inr g ↦ (let e : n ≡ k = omega (arith, l, g) in record {
    front = positions n;
    back = [];
    is = ap (λ (z : ℕ). positions n ++ z ∷ []) e;
    not_front = all_other n k g;
    not_back = All-nil _;
  })
]

room_pos : (room : List ℕ) (k : ℕ) → ((k : ℕ) → k < length room → 0 < slice_index room k) → 0 < slice_index_or room k 1
room_pos room k h = elim (cases_lt k (length room)) [
  | inl l ↦ rw (get_or_default room k 1 0 l) (h k l)
  | inr g ↦ rw (get_or-eq_default room 1 g) (omega arith)
]

pub shop_is : (l : Layout) (room : List ℕ) (regions : ℕ) → ((k : ℕ) → k < length room → 0 < slice_index room k) → ((x : ℕ) → x < length l.kind → slice_index l.kind x < length room) → IsShop (shop_of l room regions)
shop_is l room regions pos inside = record {
  roomy = λ k. room_pos room k pos;
  of_kind = λ x b. eq-eqb _ _ refl;
  same_kind = λ x k b h. sym (eqb-true _ _ h);
  listed = λ x b. (let a : Among (length room) (slice_index l.kind x) = among (length room) (slice_index l.kind x) (inside x b) in
      record { front = a.front; back = a.back; is = a.is; not_front = a.not_front; not_back = a.not_back });
}

same_place : (m n : ℕ) → nat_lt m n ≡ false → nat_lt n m ≡ false → m ≡ n
same_place m n a c = elim (cases_lt m n) [ inl l ↦ absurd (false≢true (sym a ∙ lt-ltb m n l)) | inr g ↦ elim (cases_lt n m) [ inl l ↦ absurd (false≢true (sym c ∙ lt-ltb n m l)) | inr k ↦ omega (arith, g, k) ] ]

pub order_is : (l : Layout) (room : List ℕ) (regions : ℕ) (places slots : List Bool) → IsLayout l places slots → IsOrder (shop_of l room regions)
order_is l room regions places slots h = record {
  irreflexive = λ x. le-ltb _ _ (omega arith);
  transitive = λ x y z a b. lt-ltb _ _ (omega (arith, ltb-true _ _ a, ltb-true _ _ b));
  total = λ x y b d a c. sym (h.at_place x b) ∙ (ap (slice_index l.gate_at) (same_place (slice_index l.place x) (slice_index l.place y) a c) ∙ h.at_place y d);
}

and_true : (v : Bool) → (v && not false) ≡ v
and_true true = refl
and_true false = refl

-- the start of a step: nothing is taken, and every count is 0
pub free_start : (s : Shop ℕ) (o : IsShop s) (waits : ℕ → Bool) (used : List ℕ) → ((k : ℕ) → k < length used → slice_index used k ≡ 0) → Free s waits waits (stands []) used s.regions
free_start s o waits used zeros = record {
  counted = record {
    left = λ z d. sym (and_true (waits z));
    counts = λ k l. zeros k l ∙ sym (size_none s k);
  };
  taking = taking_none s waits (needed_none s o);
  regions = rw (needed_none s o) (omega arith);
}

pub opened_start : (used : List ℕ) → ((k : ℕ) → k < length used → slice_index used k ≡ 0) → Opened [] used
opened_start used zeros = record {
  listed = λ k l p. absurd (omega (arith, p, zeros k l));
  live = λ k h. absurd (false≢true h);
}
