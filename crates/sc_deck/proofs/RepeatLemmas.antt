-- Lists of distinct wires, one wire longer.
use Rattle.std.proofs.Common.{◌≡◌, ◌≢◌, ℕ, ◌+◌, ◌<◌, ◌≤◌, List, [], ◌∷◌, ◌++◌, length, take, get_or, All, Contains, inl, inr, sym, ap, ◌∙◌, subst, arith, get_or-set_same, get_or-set_other}
use Rattle.std.proofs.Math.ListN.{set}
use Rattle.std.specs.Prelude.{slice_index, ◌/◌, ◌%◌, ◌^◌, bit_or, ◌⊎◌}
use Rattle.std.specs.Int.{bit_at}
use Rattle.std.proofs.lemmas.Bool.{cases_eq, cases_lt}
use Rattle.std.proofs.lemmas.Nat.Bits.{bit_at-zero, bit_at-lt, bit_at-pow_same, bit_at-pow_other, bit_at_or}
use Rattle.std.proofs.lemmas.List.Elements.{Contains-push, Contains-append_left}
use Rattle.sc_base.specs.declared.names.Class.{Class}
use Rattle.sc_base.specs.declared.names.Class.TheVariants.{Q, C}
use Rattle.sc_deck.specs.Repeats.{class_place, wire_place, mark_at}
use Rattle.sc_gate.specs.declared.gate.Wire.{Wire}
use Rattle.sc_gate.specs.Gates.{AreDistinct, IsNew}
use Rattle.std.proofs.lemmas.List.{take_more, get_or_past}

pub IsNew-push : (w : Wire) (vs : List Wire) (v : Wire) → IsNew w vs → w ≢ v → IsNew w (vs ++ v ∷ [])
IsNew-push w [] v new apart = (apart, tt)
IsNew-push w (u ∷ vs) v new apart = (new.0, IsNew-push w vs v new.1 apart)

pub AreDistinct-push : (vs : List Wire) (w : Wire) → AreDistinct vs → IsNew w vs → AreDistinct (vs ++ w ∷ [])
AreDistinct-push [] w distinct new = (tt, tt)
AreDistinct-push (v ∷ vs) w distinct new = (IsNew-push v vs w distinct.0 (λ e. new.0 (sym e)), AreDistinct-push vs w distinct.1 new.1)

-- one more wire of a list that is walked
pub IsNew-more : (w : Wire) (vs : List Wire) (i : ℕ) (d : Wire) → i < length vs → IsNew w (take i vs) → w ≢ get_or vs i d → IsNew w (take (i + 1) vs)
IsNew-more w vs i d below new apart = rw (take_more vs i d below) (IsNew-push w (take i vs) (get_or vs i d) new apart)

pub AreDistinct-more : (vs : List Wire) (i : ℕ) (d : Wire) → i < length vs → AreDistinct (take i vs) → IsNew (get_or vs i d) (take i vs) → AreDistinct (take (i + 1) vs)
AreDistinct-more vs i d below distinct new = rw (take_more vs i d below) (AreDistinct-push (take i vs) (get_or vs i d) distinct new)

-- each place lies in the table
pub place_within : (w : Wire) (n : ℕ) → n ≡ 2048 → w.number < 65536 → wire_place w / 64 < n
place_within w n size below = by_class w.class w.number below
  where
    by_class : (c : Class) (k : ℕ) → k < 65536 → class_place c k / 64 < n
    by_class Q k b = omega arith
    by_class C k b = omega arith

-- two wires with one place in the table are one wire
same_place : (v w : Wire) → v.number < 65536 → w.number < 65536 → wire_place v ≡ wire_place w → v ≡ w
same_place v w a b e = by_class v.class w.class v.number w.number a b e
  where
    by_class : (c d : Class) (n m : ℕ) → n < 65536 → m < 65536 → class_place c n ≡ class_place d m → (let x : Wire = record { class = c; number = n } in let y : Wire = record { class = d; number = m } in x ≡ y)
    by_class Q Q n m a b e = λ i. record { class = Q; number = e i }
    by_class C C n m a b e = let f : n ≡ m = omega arith in λ i. record { class = C; number = f i }
    by_class Q C n m a b e = absurd (omega arith)
    by_class C Q n m a b e = absurd (omega arith)

-- what the table tells of the first i wires
pub record Table (wires : List Wire) (i : ℕ) (seen : List ℕ) : Type 0 where
  pub size : length seen ≡ 2048
  pub distinct : AreDistinct (take i wires)
  pub marked : (w : Wire) → w.number < 65536 → mark_at seen (wire_place w) ≡ 1 → Contains (take i wires) w
  pub unmarked : (w : Wire) → w.number < 65536 → mark_at seen (wire_place w) ≢ 1 → IsNew w (take i wires)

word_zero : (seen : List ℕ) → All (λ word. word ≡ 0) seen → (k : ℕ) → slice_index seen k ≡ 0
word_zero seen fresh k = by (cases_lt k (length seen))
  where
    by : (k < length seen) ⊎ (length seen ≤ k) → slice_index seen k ≡ 0
    by (inl below) = fresh k 0 below
    by (inr past) = get_or_past seen k 0 past

pub table_none : (wires : List Wire) (seen : List ℕ) → length seen ≡ 2048 → All (λ word. word ≡ 0) seen → Table wires 0 seen
table_none wires seen size fresh = record {
  size = size;
  distinct = tt;
  marked = λ w below mark. absurd (unset w mark);
  unmarked = λ w below mark. tt;
}
  where
    unset : (w : Wire) → mark_at seen (wire_place w) ≢ 1
    unset w mark =
        let zero : mark_at seen (wire_place w) ≡ 0 = ap (λ (n : ℕ). bit_at n (wire_place w % 64)) (word_zero seen fresh (wire_place w / 64)) ∙ bit_at-zero (wire_place w % 64) in
        omega (arith, zero, mark)

-- a wire of the table is marked
pub table_mark : (wires : List Wire) (i : ℕ) (seen now : List ℕ) (d : Wire) → i < length wires → Table wires i seen → (get_or wires i d).number < 65536 → mark_at seen (wire_place (get_or wires i d)) ≢ 1 →
    length now ≡ length seen → mark_at now (wire_place (get_or wires i d)) ≡ 1 → ((k : ℕ) → k ≢ wire_place (get_or wires i d) → mark_at now k ≡ mark_at seen k) → Table wires (i + 1) now
table_mark wires i seen now d below table small mark size here others =
    let v : Wire = get_or wires i d in
    record {
      size = size ∙ table.size;
      distinct = AreDistinct-more wires i d below table.distinct (table.unmarked v small mark);
      marked = λ w b m. elim (cases_eq (wire_place w) (wire_place v)) [
        | inl e ↦ subst (λ x. Contains (take (i + 1) wires) x) (sym (same_place w v b small e)) (rw (take_more wires i d below) (Contains-push (take i wires) v))
        | inr n ↦ rw (take_more wires i d below) (Contains-append_left (take i wires) (v ∷ []) w (table.marked w b (sym (others (wire_place w) n) ∙ m)))
      ];
      unmarked = λ w b m. elim (cases_eq (wire_place w) (wire_place v)) [
        | inl e ↦ absurd (m (ap (mark_at now) e ∙ here))
        | inr n ↦ IsNew-more w wires i d below (table.unmarked w b (λ x. m (others (wire_place w) n ∙ x))) (λ e. n (ap wire_place e))
      ];
    }

-- a wire with no place in the table is none of the earlier ones
pub table_past : (wires : List Wire) (i : ℕ) (seen : List ℕ) (d : Wire) → i < length wires → Table wires i seen → 65536 ≤ (get_or wires i d).number → IsNew (get_or wires i d) (take i wires) → Table wires (i + 1) seen
table_past wires i seen d below table large new =
    record {
      size = table.size;
      distinct = AreDistinct-more wires i d below table.distinct new;
      marked = λ w b m. rw (take_more wires i d below) (Contains-append_left (take i wires) (get_or wires i d ∷ []) w (table.marked w b m));
      unmarked = λ w b m. IsNew-more w wires i d below (table.unmarked w b m) (λ e. apart w b e);
    }
  where
    apart : (w : Wire) → w.number < 65536 → w ≢ get_or wires i d
    apart w b e = let f : w.number ≡ (get_or wires i d).number = ap (λ (x : Wire). x.number) e in omega arith

-- setting a bit of a word sets that place and leaves the others
pub mark_here : (seen : List ℕ) (place : ℕ) → place / 64 < length seen → mark_at (set seen (place / 64) (bit_or (slice_index seen (place / 64)) (2 ^ (place % 64)))) place ≡ 1
mark_here seen place below =
    let word : ℕ = slice_index seen (place / 64) in
    let one = bit_at_or word (2 ^ (place % 64)) (place % 64) in
    let same = bit_at-pow_same (place % 64) in
    let small = bit_at-lt word (place % 64) in
    ap (λ (n : ℕ). bit_at n (place % 64)) (get_or-set_same seen (place / 64) (bit_or word (2 ^ (place % 64))) 0 below) ∙ (let e : bit_at (bit_or word (2 ^ (place % 64))) (place % 64) ≡ 1 = omega arith in e)

pub mark_other : (seen : List ℕ) (place k : ℕ) → place / 64 < length seen → k ≢ place → mark_at (set seen (place / 64) (bit_or (slice_index seen (place / 64)) (2 ^ (place % 64)))) k ≡ mark_at seen k
mark_other seen place k below apart = elim (cases_eq (k / 64) (place / 64)) [
  | inl e ↦
      let word : ℕ = slice_index seen (place / 64) in
      let other : k % 64 ≢ place % 64 = λ f. apart (omega arith) in
      let one = bit_at_or word (2 ^ (place % 64)) (k % 64) in
      let none = bit_at-pow_other (place % 64) (k % 64) other in
      let same : bit_at (bit_or word (2 ^ (place % 64))) (k % 64) ≡ bit_at word (k % 64) = omega arith in
      ap (λ (n : ℕ). bit_at (slice_index (set seen (place / 64) (bit_or word (2 ^ (place % 64)))) n) (k % 64)) e
      ∙ ap (λ (n : ℕ). bit_at n (k % 64)) (get_or-set_same seen (place / 64) (bit_or word (2 ^ (place % 64))) 0 below)
      ∙ same ∙ ap (λ (n : ℕ). bit_at (slice_index seen n) (k % 64)) (sym e)
  | inr n ↦ ap (λ (w : ℕ). bit_at w (k % 64)) (get_or-set_other seen (place / 64) (k / 64) (bit_or (slice_index seen (place / 64)) (2 ^ (place % 64))) 0 n)
]
