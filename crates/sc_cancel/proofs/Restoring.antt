-- What the code keeps, after one more gate.
use Rattle.std.proofs.Common.{◌≡◌, ℕ, suc, ◌+◌, ◌<◌, Bool, true, false, Option, Some, None, List, [], ◌∷◌, ◌++◌, ◌⊎◌, inl, inr, length, take, drop, get_or, if◌then◌else◌, refl, sym, ap, ◌∙◌, subst, arith, add-one, append_assoc, append-nil, take-append-drop, length-take}
use Rattle.std.specs.Prelude.{◌||◌, slice_get, slice_set, option_to_list, fold, unwrap_or}
use Rattle.std.specs.Option.{option_map, is_some}
use Rattle.std.proofs.lemmas.Bool.{false≢true, cases_Bool}
use Rattle.std.proofs.lemmas.List.Sums.{fold_more}
use Rattle.std.proofs.Math.Seq.{take-suc}
use Rattle.std.proofs.lemmas.Option.{slice_get_within, get_or_from_slice_get}
use Rattle.sc_gate.specs.declared.gate.Wire.{Wire}
use Rattle.sc_gate.specs.declared.gate.Gate.{Gate}
use Rattle.sc_gate.specs.Gates.{operands}
use Rattle.sc_gate.specs.Wires.{same_wire, member}
use Rattle.sc_gate.specs.WireTables.{number_at, on_wire, numbers_by}
use Rattle.sc_gate.proofs.WireLemmas.{same_wire-true, member_here, member_later}
use Rattle.sc_gate.specs.declared.wire_table.OperandNumbers.{OperandNumbers}
use Rattle.sc_cancel.specs.declared.keeping.Kept.{Kept}
use Rattle.sc_cancel.specs.Cancelling.{taken_out, with_gate, marks_after, places_of}
use Rattle.sc_cancel.specs.Keeping.{last_on, linked, IsKept, IsWith, IsWithout, is_operand, relinked, is_there, AreAll, places}
use Rattle.sc_cancel.proofs.Marks.{length-linked, snoc_length, slice_get_here, Agree, agree_front}
use Rattle.sc_cancel.proofs.Taking.{undoes_operands, links_same, member_left, member_right, IsTaken, is_taken}

-- the operands of a gate have one number
there : (f : Wire → Option ℕ) (o : Option Wire) (q : ℕ) → ((w : Wire) → member w (option_to_list o) ≡ true → f w ≡ Some q) → is_there o (on_wire f o) q
there f None q h = tt
there f (Some w) q h = h w (member_here w [])

pub all_from : (f : Wire → Option ℕ) (g : Gate) (q : ℕ) → ((w : Wire) → member w (operands g) ≡ true → f w ≡ Some q) → AreAll (numbers_by f g) g q
all_from f g q h = record {
  a = h g.a (member_here g.a (option_to_list g.b ++ option_to_list g.c));
  b = there f g.b q (λ w m. h w (member_later g.a w (option_to_list g.b ++ option_to_list g.c) (member_left w (option_to_list g.b) (option_to_list g.c) m)));
  c = there f g.c q (λ w m. h w (member_later g.a w (option_to_list g.b ++ option_to_list g.c) (member_right w (option_to_list g.b) (option_to_list g.c) m)));
}

there_at : (f : Wire → Option ℕ) (o : Option Wire) (q : ℕ) (w : Wire) → is_there o (on_wire f o) q → member w (option_to_list o) ≡ true → f w ≡ Some q
there_at f None q w h m = cc
there_at f (Some v) q w h m = elim (cases_Bool (same_wire v w)) [
  | inl t ↦ subst (λ (x : Wire). f x ≡ Some q) (same_wire-true v w t) h
  | inr t ↦ absurd (false≢true (rw t at m))
]

member_either : (w : Wire) (vs ws : List Wire) → member w (vs ++ ws) ≡ true → (member w vs ≡ true) ⊎ (member w ws ≡ true)
member_either w [] ws h = inr h
member_either w (v ∷ vs) ws h = elim (cases_Bool (same_wire v w)) [
  | inl t ↦ inl (ap (λ (b : Bool). b || member w vs) t)
  | inr f ↦ elim (member_either w vs ws (sym (ap (λ (b : Bool). b || member w (vs ++ ws)) f) ∙ h)) [
    | inl m ↦ inl (ap (λ (b : Bool). b || member w vs) f ∙ m)
    | inr m ↦ inr m
  ]
]

pub all_to : (f : Wire → Option ℕ) (g : Gate) (q : ℕ) → AreAll (numbers_by f g) g q → (w : Wire) → member w (operands g) ≡ true → f w ≡ Some q
all_to f g q h w m = elim (cases_Bool (same_wire g.a w)) [
  | inl t ↦ subst (λ (x : Wire). f x ≡ Some q) (same_wire-true g.a w t) h.a
  | inr n ↦ elim (member_either w (option_to_list g.b) (option_to_list g.c) (sym (ap (λ (b : Bool). b || member w (option_to_list g.b ++ option_to_list g.c)) n) ∙ m)) [
    | inl k ↦ there_at f g.b q w h.b k
    | inr k ↦ there_at f g.c q w h.c k
  ]
]

-- each number of a wire after the operands got theirs back
operand_is : (f : Wire → Option ℕ) (o : Option Wire) (w : Wire) (old : Option ℕ) →
    (if is_operand o w then on_wire f o else old) ≡ (if member w (option_to_list o) then f w else old)
operand_is f None w old = refl
operand_is f (Some v) w old = elim (cases_Bool (same_wire v w)) [
  | inl t ↦ rw t (ap f (same_wire-true v w t))
  | inr n ↦ rw n refl
]

joined_if : (w : Wire) (vs ws : List Wire) (x y : Option ℕ) → (if member w vs then x else (if member w ws then x else y)) ≡ (if member w (vs ++ ws) then x else y)
joined_if w [] ws x y = refl
joined_if w (v ∷ vs) ws x y = elim (cases_Bool (same_wire v w)) [
  | inl t ↦ rw t refl
  | inr n ↦ rw n (joined_if w vs ws x y)
]

pub relinked_is : (f : Wire → Option ℕ) (g : Gate) (w : Wire) (old : Option ℕ) → relinked (numbers_by f g) g w old ≡ (if member w (operands g) then f w else old)
relinked_is f g w old = elim (cases_Bool (same_wire g.a w)) [
  | inl t ↦ rw t (ap f (same_wire-true g.a w t))
  | inr n ↦ rw n
      (ap (λ (x : Option ℕ). if is_operand g.b w then on_wire f g.b else x) (operand_is f g.c w old)
      ∙ (operand_is f g.b w (if member w (option_to_list g.c) then f w else old)
      ∙ joined_if w (option_to_list g.b) (option_to_list g.c) (f w) old))
]

-- the gate stays
pub kept_with : (old new : Kept) (g : Gate) (marks : List (Option Gate)) → IsKept old marks → IsWith old g (numbers_by (number_at old.table) g) new → IsKept new (Some g ∷ marks)
kept_with old new g marks k h = record {
  table = λ w. h.table w ∙ (ap (λ (n : ℕ). if member w (operands g) then Some n else number_at old.table w) (ap length k.links ∙ length-linked marks)
      ∙ ap (λ (x : Option ℕ). if member w (operands g) then Some (length marks) else x) (k.table w));
  links = h.links ∙ (ap (λ (l : List (Option OperandNumbers)). l ++ Some (numbers_by (number_at old.table) g) ∷ []) k.links
      ∙ ap (λ (l : OperandNumbers). linked marks ++ Some l ∷ []) (links_same (number_at old.table) (last_on marks) g (λ w m. k.table w)));
}

-- it takes another out
pub kept_without : (gates : List Gate) (old new : Kept) (g : Gate) (marks ys : List (Option Gate)) (t : IsTaken gates g marks ys) → IsKept old marks →
    IsWithout old t.gate t.at (numbers_by (last_on t.older) t.gate) new → IsKept new (None ∷ ys)
kept_without gates old new g marks ys t k h = record {
  table = λ w. h.table w ∙ (relinked_is (last_on t.older) t.gate w (number_at old.table w)
      ∙ (ap (λ (ws : List Wire). if member w ws then last_on t.older w else number_at old.table w) (undoes_operands t.gate g t.undone)
      ∙ (ap (λ (x : Option ℕ). if member w (operands g) then last_on t.older w else x) (k.table w) ∙ sym (t.now_last w))));
  links = h.links ∙ (ap (λ (l : List (Option OperandNumbers)). slice_set l t.at None ++ None ∷ []) k.links ∙ ap (λ (l : List (Option OperandNumbers)). l ++ None ∷ []) (sym t.now_linked));
}

-- one more gate
pub with_none : (marks : List (Option Gate)) (g : Gate) → taken_out g marks ≡ None → with_gate marks g ≡ Some g ∷ marks
with_none marks g e = ap (λ (o : Option (List (Option Gate))). unwrap_or (option_map (λ rest. None ∷ rest) o) (Some g ∷ marks)) e

pub with_some : (marks ys : List (Option Gate)) (g : Gate) → taken_out g marks ≡ Some ys → with_gate marks g ≡ None ∷ ys
with_some marks ys g e = ap (λ (o : Option (List (Option Gate))). unwrap_or (option_map (λ rest. None ∷ rest) o) (Some g ∷ marks)) e

pub marks_more : (gates : List Gate) (n : ℕ) (g : Gate) → slice_get gates n ≡ Some g → marks_after (take (n + 1) gates) ≡ with_gate (marks_after (take n gates)) g
marks_more gates n g e =
    fold_more with_gate [] gates n g (slice_get_within gates n g e)
    ∙ ap (with_gate (marks_after (take n gates))) (get_or_from_slice_get gates n g g e)

-- so many marks as gates, which agree
pub record Stage (gates : List Gate) (marks : List (Option Gate)) : Type 0 where
  pub many : length marks ≡ length gates
  pub agree : Agree gates marks

stage_with : (front rest : List Gate) (g : Gate) (marks : List (Option Gate)) (o : Option (List (Option Gate))) → taken_out g marks ≡ o → Stage front marks → Stage (front ++ g ∷ []) (with_gate marks g)
stage_with front rest g marks None e s = subst (λ (m : List (Option Gate)). Stage (front ++ g ∷ []) m) (sym (with_none marks g e)) record {
  many = ap (λ (n : ℕ). suc n) s.many ∙ sym (snoc_length front g);
  agree = (ap (slice_get (front ++ g ∷ [])) s.many ∙ slice_get_here front g [], agree_front front (g ∷ []) marks s.agree);
}
stage_with front rest g marks (Some ys) e s =
    let t : IsTaken (front ++ g ∷ []) g marks ys = is_taken (front ++ g ∷ []) g marks ys (agree_front front (g ∷ []) marks s.agree) e in
    subst (λ (m : List (Option Gate)). Stage (front ++ g ∷ []) m) (sym (with_some marks ys g e)) record {
      many = ap (λ (n : ℕ). suc n) (t.many ∙ s.many) ∙ sym (snoc_length front g);
      agree = t.agree;
    }

stage_fold : (front rest : List Gate) (marks : List (Option Gate)) → Stage front marks → Stage (front ++ rest) (fold with_gate marks rest)
stage_fold front [] marks s = subst (λ (l : List Gate). Stage l marks) (sym (append-nil front)) s
stage_fold front (g ∷ rest) marks s =
    subst (λ (l : List Gate). Stage l (fold with_gate (with_gate marks g) rest)) (append_assoc front (g ∷ []) rest)
    (stage_fold (front ++ g ∷ []) rest (with_gate marks g) (stage_with front rest g marks (taken_out g marks) refl s))

pub stage : (gates : List Gate) → Stage gates (marks_after gates)
stage gates = stage_fold [] gates [] record { many = refl; agree = tt }

-- after a front of the gates
pub agree_after : (gates : List Gate) (n : ℕ) → Agree gates (marks_after (take n gates))
agree_after gates n = subst (λ (l : List Gate). Agree l (marks_after (take n gates))) (take-append-drop n gates) (agree_front (take n gates) (drop n gates) (marks_after (take n gates)) (stage (take n gates)).agree)

-- places in reading order
places-append : {X : Type 0} (p : ℕ) (xs ys : List (Option X)) → places p (xs ++ ys) ≡ places p xs ++ places (p + length xs) ys
places-append p [] ys = ap (λ (n : ℕ). places n ys) (omega arith)
places-append p (None ∷ xs) ys = places-append (suc p) xs ys ∙ ap (λ (n : ℕ). places (suc p) xs ++ places n ys) (omega arith)
places-append p (Some x ∷ xs) ys = ap (λ (l : List ℕ). p ∷ l) (places-append (suc p) xs ys ∙ ap (λ (n : ℕ). places (suc p) xs ++ places n ys) (omega arith))

pub places_linked : (marks : List (Option Gate)) → places 0 (linked marks) ≡ places_of marks
places_linked [] = refl
places_linked (None ∷ marks) = places-append 0 (linked marks) (None ∷ []) ∙ (append-nil (places 0 (linked marks)) ∙ places_linked marks)
places_linked (Some g ∷ marks) =
    places-append 0 (linked marks) (Some (numbers_by (last_on marks) g) ∷ [])
    ∙ (ap (λ (n : ℕ). places 0 (linked marks) ++ n ∷ []) (omega (arith, length-linked marks)) ∙ ap (λ (l : List ℕ). l ++ length marks ∷ []) (places_linked marks))

-- one more position in reading order
places_more : {X : Type 0} (all : List (Option X)) (i : ℕ) (d : Option X) → i < length all → places 0 (take (i + 1) all) ≡ places 0 (take i all) ++ places i (get_or all i d ∷ [])
places_more {X = X} all i d l =
    let front : take (i + 1) all ≡ take i all ++ get_or all i d ∷ [] = rw add-one (take-suc all i d l) in
    ap (places 0) front
    ∙ (places-append 0 (take i all) (get_or all i d ∷ []) ∙ ap (λ (n : ℕ). places 0 (take i all) ++ places n (get_or all i d ∷ [])) (omega (arith, l, length-take i all)))

place_some : {X : Type 0} (i : ℕ) (o : Option X) → is_some o ≡ true → places i (o ∷ []) ≡ i ∷ []
place_some i None h = cc
place_some i (Some x) h = refl

place_none : {X : Type 0} (i : ℕ) (o : Option X) → is_some o ≡ false → places i (o ∷ []) ≡ []
place_none i None h = refl
place_none i (Some x) h = cc

pub places_push : {X : Type 0} (all : List (Option X)) (i : ℕ) (now new : List ℕ) → i < length all → is_some (get_or all i None) ≡ true → new ≡ now ++ i ∷ [] → now ≡ places 0 (take i all) → new ≡ places 0 (take (i + 1) all)
places_push all i now new l s e n =
    e ∙ (ap (λ (x : List ℕ). x ++ i ∷ []) n
    ∙ sym (places_more all i None l ∙ ap (λ (x : List ℕ). places 0 (take i all) ++ x) (place_some i (get_or all i None) s)))

pub places_pass : {X : Type 0} (all : List (Option X)) (i : ℕ) (now : List ℕ) → i < length all → is_some (get_or all i None) ≡ false → now ≡ places 0 (take i all) → now ≡ places 0 (take (i + 1) all)
places_pass all i now l s n =
    n ∙ sym (places_more all i None l ∙ (ap (λ (x : List ℕ). places 0 (take i all) ++ x) (place_none i (get_or all i None) s) ∙ append-nil (places 0 (take i all))))
