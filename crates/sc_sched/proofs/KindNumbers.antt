-- One gate more whose kind has a number.
use Rattle.std.proofs.Common.{◌≡◌, ℕ, suc, ◌+◌, ◌/◌, ◌<◌, ◌≤◌, Bool, Option, Some, None, List, [], ◌∷◌, ◌++◌, length, refl, sym, ap, ◌∙◌, subst, arith, ◌⊎◌, inl, inr, if◌then◌else◌}
use Rattle.std.specs.Prelude.{slice_index, MatchOption}
use Rattle.std.proofs.lemmas.Bool.{cases_Bool, cases_lt}
use Rattle.std.proofs.lemmas.List.{length-append}
use Rattle.std.proofs.Math.ListN.{get_or-append}
use Rattle.std.proofs.Math.Seq.{get_or-append_seam}
use Rattle.std.proofs.lemmas.Option.{same_Some}
use Rattle.sc_gate.specs.declared.gate.Kind.{Kind}
use Rattle.sc_gate.specs.declared.gate.Gate.{Gate}
use Rattle.sc_gate.specs.Gates.{name_of, qubits_of}
use Rattle.sc_gate.specs.SameGates.{same_kind}
use Rattle.sc_sched.specs.Gates.{kind_at}
use Rattle.sc_sched.specs.Numbering.{AreNumbered, IsTableOf}
use Rattle.sc_sched.proofs.Count.{lt_cases}
use Rattle.sc_gate.proofs.SameGates.{same_kind-true, same_kind-refl}
use Rattle.sc_sched.proofs.Lawful.{arity_of_kind}

-- the number n of the kind k, which the next gate has, beside the numbers of the gates before
record Numbers (gates : List Gate) (many d : ℕ) (kind room room' : List ℕ) (k : Kind) (n : ℕ) : Type 0 where
  inside : n < length room'
  more : length room ≤ length room'
  few : length room' ≤ length room + 1
  is_kind : (x : ℕ) → x < many → slice_index kind x ≡ n → kind_at gates x ≡ Some k
  has_number : (x : ℕ) → x < many → kind_at gates x ≡ Some k → slice_index kind x ≡ n
  room_of : slice_index room' n ≡ d / qubits_of (name_of k)
  rooms_stay : (i : ℕ) → i < length room → slice_index room' i ≡ slice_index room i
  used : (i : ℕ) → i < length room' → (i < length room) ⊎ (i ≡ n)

module _ (gates : List Gate) (many d : ℕ) (kind room : List ℕ) (number : Kind → Option ℕ) (a : AreNumbered gates many d kind room) (t : IsTableOf gates many kind number) where
  known_numbers : (k : Kind) (n : ℕ) → number k ≡ Some n → Numbers gates many d kind room room k n
  known_numbers k n e =
      let (x, l, h, f) = t.only k n e in record {
        inside = (let b : slice_index kind x < length room = a.below x l in omega (arith, b, f));
        more = omega arith;
        few = omega arith;
        is_kind = λ y m g. a.apart y x m l (g ∙ sym f) ∙ h;
        has_number = λ y m g. same_Some (slice_index kind y) n (sym (t.known y k m g) ∙ e);
        room_of = ap (slice_index room) (sym f) ∙ (a.rooms x l ∙ ap (λ (z : ℕ). d / z) (arity_of_kind gates x k h));
        rooms_stay = λ i b. refl;
        used = λ i b. inl b;
      }

  new_numbers : (k : Kind) → number k ≡ None → Numbers gates many d kind room (room ++ d / qubits_of (name_of k) ∷ []) k (length room)
  new_numbers k e =
      let many_room : length (room ++ d / qubits_of (name_of k) ∷ []) ≡ length room + 1 = length-append room (d / qubits_of (name_of k) ∷ []) in record {
        inside = omega (arith, many_room);
        more = omega (arith, many_room);
        few = omega (arith, many_room);
        is_kind = λ y m g. absurd (let b : slice_index kind y < length room = a.below y m in omega (arith, b, g));
        has_number = λ y m g. absurd (let f : None ≡ Some (slice_index kind y) = sym e ∙ t.known y k m g in cc);
        room_of = get_or-append_seam room (d / qubits_of (name_of k)) [] 0;
        rooms_stay = λ i b. get_or-append room (d / qubits_of (name_of k) ∷ []) 0 i b;
        used = λ i b. elim (cases_lt i (length room)) [ inl c ↦ inl c | inr c ↦ inr (omega (arith, b, c, many_room)) ];
      }

  numbers_by : (o : Option ℕ) (room' : List ℕ) (k : Kind) (n : ℕ) → number k ≡ o → MatchOption o (n ≡ length room) (λ j. n ≡ j) → MatchOption o (room' ≡ room ++ d / qubits_of (name_of k) ∷ []) (λ j. room' ≡ room) → Numbers gates many d kind room room' k n
  numbers_by None room' k n e f g =
      subst (λ (z : ℕ). Numbers gates many d kind room room' k z) (sym f) (subst (λ (z : List ℕ). Numbers gates many d kind room z k (length room)) (sym g) (new_numbers k e))
  numbers_by (Some j) room' k n e f g =
      subst (λ (z : ℕ). Numbers gates many d kind room room' k z) (sym f) (subst (λ (z : List ℕ). Numbers gates many d kind room z k j) (sym g) (known_numbers k j e))

  module _ (room' kind' : List ℕ) (k : Kind) (n : ℕ) (h : kind_at gates many ≡ Some k) (s : Numbers gates many d kind room room' k n) (pushed : kind' ≡ kind ++ n ∷ []) where
    old : (x : ℕ) → x < many → slice_index kind' x ≡ slice_index kind x
    old x l = ap (λ (z : List ℕ). slice_index z x) pushed ∙ get_or-append kind (n ∷ []) 0 x (omega (arith, a.many_kinds, l))

    last : (x : ℕ) → x ≡ many → slice_index kind' x ≡ n
    last x e = ap (λ (z : List ℕ). slice_index z x) pushed ∙ (ap (slice_index (kind ++ n ∷ [])) (e ∙ sym a.many_kinds) ∙ get_or-append_seam kind n [] 0)

    here : (x : ℕ) → x ≡ many → kind_at gates x ≡ Some k
    here x e = ap (kind_at gates) e ∙ h

    numbered_more : (m : ℕ) → m ≡ suc many → AreNumbered gates m d kind' room'
    numbered_more m e = record {
      many_kinds = omega (arith, e, ap (λ (z : List ℕ). length z) pushed, length-append kind (n ∷ []), a.many_kinds);
      below = λ x l. elim (lt_cases x many (omega (arith, e, l))) [
        | inl f ↦ omega (arith, last x f, s.inside)
        | inr f ↦ (let b : slice_index kind x < length room = a.below x f in omega (arith, old x f, s.more, b))
      ];
      apart = λ x y l b f. elim (lt_cases x many (omega (arith, e, l))) [
        | inl p ↦ elim (lt_cases y many (omega (arith, e, b))) [
          | inl q ↦ ap (kind_at gates) (p ∙ sym q)
          | inr q ↦ here x p ∙ sym (s.is_kind y q (sym (old y q) ∙ (sym f ∙ last x p)))
        ]
        | inr p ↦ elim (lt_cases y many (omega (arith, e, b))) [
          | inl q ↦ s.is_kind x p (sym (old x p) ∙ (f ∙ last y q)) ∙ sym (here y q)
          | inr q ↦ a.apart x y p q (sym (old x p) ∙ (f ∙ old y q))
        ]
      ];
      alike = λ x y l b f. elim (lt_cases x many (omega (arith, e, l))) [
        | inl p ↦ elim (lt_cases y many (omega (arith, e, b))) [
          | inl q ↦ ap (slice_index kind') (p ∙ sym q)
          | inr q ↦ last x p ∙ sym (old y q ∙ s.has_number y q (sym f ∙ here x p))
        ]
        | inr p ↦ elim (lt_cases y many (omega (arith, e, b))) [
          | inl q ↦ old x p ∙ (s.has_number x p (f ∙ here y q) ∙ sym (last y q))
          | inr q ↦ old x p ∙ (a.alike x y p q f ∙ sym (old y q))
        ]
      ];
      rooms = λ x l. elim (lt_cases x many (omega (arith, e, l))) [
        | inl p ↦ ap (slice_index room') (last x p) ∙ (s.room_of ∙ ap (λ (z : ℕ). d / z) (sym (arity_of_kind gates x k (here x p))))
        | inr p ↦ ap (slice_index room') (old x p) ∙ (s.rooms_stay (slice_index kind x) (a.below x p) ∙ a.rooms x p)
      ];
      used = λ i b. elim (s.used i b) [
        | inl c ↦ (let (x, l, f) = a.used i c in (x, omega (arith, l, e), old x l ∙ f))
        | inr c ↦ (many, omega (arith, e), last many refl ∙ sym c)
      ];
      few = omega (arith, e, s.few, a.few);
    }

    table_more : (number' : Kind → Option ℕ) → ((other : Kind) → number' other ≡ (if same_kind k other then Some n else number other)) → (m : ℕ) → m ≡ suc many → IsTableOf gates m kind' number'
    table_more number' u m e = record {
      known = λ x j l f. elim (lt_cases x many (omega (arith, e, l))) [
        | inl p ↦ (let g : k ≡ j = same_Some k j (sym (here x p) ∙ f) in
            u j ∙ (ap (λ (z : Bool). if z then Some n else number j) (ap (same_kind k) (sym g) ∙ same_kind-refl k) ∙ ap Some (sym (last x p))))
        | inr p ↦ elim (cases_Bool (same_kind k j)) [
          | inl g ↦ u j ∙ (ap (λ (z : Bool). if z then Some n else number j) g ∙ ap Some (sym (old x p ∙ s.has_number x p (f ∙ ap Some (sym (same_kind-true k j g))))))
          | inr g ↦ u j ∙ (ap (λ (z : Bool). if z then Some n else number j) g ∙ (t.known x j p f ∙ ap Some (sym (old x p))))
        ]
      ];
      only = λ j i f. elim (cases_Bool (same_kind k j)) [
        | inl g ↦ (let q : n ≡ i = same_Some n i (sym (u j ∙ ap (λ (z : Bool). if z then Some n else number j) g) ∙ f) in
            (many, omega (arith, e), h ∙ ap Some (same_kind-true k j g), last many refl ∙ q))
        | inr g ↦ (let (x, l, p, q) = t.only j i (sym (u j ∙ ap (λ (z : Bool). if z then Some n else number j) g) ∙ f) in (x, omega (arith, l, e), p, old x l ∙ q))
      ];
    }

  pub numbers_next : (room' kind' : List ℕ) (k : Kind) (n : ℕ) (number' : Kind → Option ℕ) (m : ℕ) → kind_at gates many ≡ Some k → MatchOption (number k) (n ≡ length room) (λ j. n ≡ j) →
      MatchOption (number k) (room' ≡ room ++ d / qubits_of (name_of k) ∷ []) (λ j. room' ≡ room) → kind' ≡ kind ++ n ∷ [] → ((other : Kind) → number' other ≡ (if same_kind k other then Some n else number other)) → m ≡ suc many →
      AreNumbered gates m d kind' room' × IsTableOf gates m kind' number'
  numbers_next room' kind' k n number' m h v w pushed u e =
      let s : Numbers gates many d kind room room' k n = numbers_by (number k) room' k n refl v w in
      (numbered_more room' kind' k n h s pushed m e, table_more room' kind' k n h s pushed number' u m e)

pub numbers_none : (gates : List Gate) (d : ℕ) (kind room : List ℕ) (number : Kind → Option ℕ) → length kind ≡ 0 → length room ≡ 0 → ((k : Kind) → number k ≡ None) → AreNumbered gates 0 d kind room × IsTableOf gates 0 kind number
numbers_none gates d kind room number e f none = (
  record {
    many_kinds = e;
    below = λ x l. absurd (omega (arith, l));
    apart = λ x y l. absurd (omega (arith, l));
    alike = λ x y l. absurd (omega (arith, l));
    rooms = λ x l. absurd (omega (arith, l));
    used = λ n l. absurd (omega (arith, l, f));
    few = omega (arith, f);
  },
  record {
    known = λ x k l. absurd (omega (arith, l));
    only = λ k n h. absurd (let g : None ≡ Some n = sym (none k) ∙ h in cc);
  },
)
