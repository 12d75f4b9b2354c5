-- The gates that stay are reached by moves.
use Rattle.std.proofs.Common.{◌≡◌, ℕ, ◌+◌, ◌≤◌, false, Option, Some, None, List, [], ◌∷◌, ◌++◌, inl, inr, length, refl, sym, ap, ◌∙◌, subst, arith, append_assoc, append-nil}
use Rattle.std.specs.Prelude.{slice_get, option_to_list, fold, sum_by, cond, ◌==◌}
use Rattle.std.proofs.lemmas.Bool.{false≢true, cases_Bool}
use Rattle.std.proofs.lemmas.List.Concat.{flat_map-append}
use Rattle.std.proofs.lemmas.List.Sums.{sum_by-append, sum_by-cons}
use Rattle.sc_base.specs.declared.names.GateName.{GateName}
use Rattle.sc_gate.specs.declared.gate.Gate.{Gate}
use Rattle.sc_gate.specs.Gates.{name_of, place_of, IsWellFormed, AreWellFormed}
use Rattle.sc_gate.specs.Wires.{shares}
use Rattle.sc_gate.proofs.WireLemmas.{shares_tells}
use Rattle.sc_cancel.specs.Cancelling.{undoes, taken_out, with_gate, marks_after, places_of, shorter, gates_at}
use Rattle.sc_cancel.specs.Moves.{Moves, count_of}
use Rattle.sc_cancel.specs.Moves.Moves.{done, swapped, removed}
use Rattle.sc_cancel.proofs.Marks.{map_some, some_same, none_some, Agree}
use Rattle.sc_cancel.proofs.Taking.{undoes_cancels}
use Rattle.sc_cancel.proofs.Restoring.{stage, with_none, with_some}

-- the gates that stay, in reading order
abbrev pub standing : List (Option Gate) → List Gate
standing [] = []
standing (None ∷ marks) = standing marks
standing (Some g ∷ marks) = standing marks ++ g ∷ []

pub standing_at : (gates : List Gate) (marks : List (Option Gate)) → Agree gates marks → gates_at gates (places_of marks) ≡ standing marks
standing_at gates [] a = refl
standing_at gates (None ∷ marks) a = standing_at gates marks a
standing_at gates (Some g ∷ marks) a =
    flat_map-append (λ p. option_to_list (slice_get gates p)) (places_of marks) (length marks ∷ [])
    ∙ (ap (λ (l : List Gate). l ++ (option_to_list (slice_get gates (length marks)) ++ [])) (standing_at gates marks a.1)
    ∙ ap (λ (o : Option Gate). standing marks ++ (option_to_list o ++ [])) a.0)

-- all gates that stay are well formed
abbrev pub AllWell : List (Option Gate) → Type 0
AllWell [] = Unit {0}
AllWell (None ∷ marks) = AllWell marks
AllWell (Some g ∷ marks) = IsWellFormed g × AllWell marks

pub well_out : (g : Gate) (marks ys : List (Option Gate)) → AllWell marks → taken_out g marks ≡ Some ys → AllWell ys
well_out g [] ys w e = cc
well_out g (None ∷ marks) ys w e =
    let m = map_some (λ (rest : List (Option Gate)). None ∷ rest) (taken_out g marks) ys e in
    subst AllWell m.2 (well_out g marks m.0 w m.1)
well_out g (Some h ∷ marks) ys w e = elim (cases_Bool (shares g h)) [
  | inl s ↦ elim (cases_Bool (undoes h g)) [
    | inl u ↦ subst AllWell (some_same (None ∷ marks) ys (rw (s, u) at e)) w.1
    | inr u ↦ absurd (none_some ys (rw (s, u) at e))
  ]
  | inr s ↦ (let m = map_some (λ (rest : List (Option Gate)). Some h ∷ rest) (taken_out g marks) ys (rw s at e) in
      subst AllWell m.2 (w.0, well_out g marks m.0 w.1 m.1))
]

apart_sym : (g h : Gate) → shares g h ≡ false → shares h g ≡ false
apart_sym g h s = elim (cases_Bool (shares h g)) [
  | inl t ↦ (let w = (shares_tells h g).0 t in absurd (false≢true (sym s ∙ (shares_tells g h).1 (w.0, w.2, w.1))))
  | inr f ↦ f
]

-- g is moved to the gate that it takes out
moved_out : (g : Gate) (marks ys : List (Option Gate)) (back gates : List Gate) → IsWellFormed g → AllWell marks → taken_out g marks ≡ Some ys →
    Moves (standing ys ++ back) gates → Moves (standing marks ++ g ∷ back) gates
moved_out g [] ys back gates wg w e m = cc
moved_out g (None ∷ marks) ys back gates wg w e m =
    let t = map_some (λ (rest : List (Option Gate)). None ∷ rest) (taken_out g marks) ys e in
    moved_out g marks t.0 back gates wg w t.1 (subst (λ (l : List (Option Gate)). Moves (standing l ++ back) gates) (sym t.2) m)
moved_out g (Some h ∷ marks) ys back gates wg w e m = elim (cases_Bool (shares g h)) [
  | inl s ↦ elim (cases_Bool (undoes h g)) [
    | inl u ↦ subst (λ (l : List Gate). Moves l gates) (sym (append_assoc (standing marks) (h ∷ []) (g ∷ back)))
        (removed (standing marks) back gates h g (undoes_cancels h g w.0 wg u)
        (subst (λ (l : List (Option Gate)). Moves (standing l ++ back) gates) (sym (some_same (None ∷ marks) ys (rw (s, u) at e))) m))
    | inr u ↦ absurd (none_some ys (rw (s, u) at e))
  ]
  | inr s ↦ (let t = map_some (λ (rest : List (Option Gate)). Some h ∷ rest) (taken_out g marks) ys (rw s at e) in
      let after : Moves (standing t.0 ++ h ∷ back) gates =
      subst (λ (l : List Gate). Moves l gates) (append_assoc (standing t.0) (h ∷ []) back)
      (subst (λ (l : List (Option Gate)). Moves (standing l ++ back) gates) (sym t.2) m) in
      subst (λ (l : List Gate). Moves l gates) (sym (append_assoc (standing marks) (h ∷ []) (g ∷ back)))
      (swapped (standing marks) back gates h g (apart_sym g h s) (moved_out g marks t.0 (h ∷ back) gates wg w.1 t.1 after)))
]

moved_with : (g : Gate) (marks : List (Option Gate)) (o : Option (List (Option Gate))) (back gates : List Gate) → IsWellFormed g → AllWell marks → taken_out g marks ≡ o →
    Moves (standing (with_gate marks g) ++ back) gates → Moves (standing marks ++ g ∷ back) gates
moved_with g marks None back gates wg w e m =
    subst (λ (l : List Gate). Moves l gates) (append_assoc (standing marks) (g ∷ []) back)
    (subst (λ (l : List (Option Gate)). Moves (standing l ++ back) gates) (with_none marks g e) m)
moved_with g marks (Some ys) back gates wg w e m =
    moved_out g marks ys back gates wg w e (subst (λ (l : List (Option Gate)). Moves (standing l ++ back) gates) (with_some marks ys g e) m)

pub well_with : (g : Gate) (marks : List (Option Gate)) (o : Option (List (Option Gate))) → IsWellFormed g → AllWell marks → taken_out g marks ≡ o → AllWell (with_gate marks g)
well_with g marks None wg w e = subst AllWell (sym (with_none marks g e)) (wg, w)
well_with g marks (Some ys) wg w e = subst AllWell (sym (with_some marks ys g e)) (well_out g marks ys w e)

moved_all : (rest : List Gate) (marks : List (Option Gate)) → AreWellFormed rest → AllWell marks → Moves (standing marks ++ rest) (standing (fold with_gate marks rest))
moved_all [] marks wr w = subst (λ (l : List Gate). Moves l (standing marks)) (sym (append-nil (standing marks))) (done (standing marks))
moved_all (g ∷ rest) marks wr w =
    moved_with g marks (taken_out g marks) rest (standing (fold with_gate (with_gate marks g) rest)) wr.0 w refl
    (moved_all rest (with_gate marks g) wr.1 (well_with g marks (taken_out g marks) wr.0 w refl))

pub standing_shorter : (gates : List Gate) → gates_at gates (shorter gates) ≡ standing (marks_after gates)
standing_shorter gates = standing_at gates (marks_after gates) (stage gates).agree

pub shorter_moves : (gates : List Gate) → AreWellFormed gates → Moves gates (gates_at gates (shorter gates))
shorter_moves gates w = subst (λ (l : List Gate). Moves gates l) (sym (standing_shorter gates)) (moved_all gates [] w tt)

-- moves make no name more frequent

swap_count : (name : GateName) (front back : List Gate) (g h : Gate) → count_of name (front ++ h ∷ g ∷ back) ≡ count_of name (front ++ g ∷ h ∷ back)
swap_count name front back g h =
    let f = λ (x : Gate). cond (place_of (name_of x.kind) == place_of name) 1 0 in
    let l : sum_by f (front ++ h ∷ g ∷ back) ≡ sum_by f front + (f h + (f g + sum_by f back)) = sum_by-append f front (h ∷ g ∷ back) ∙ ap (λ (n : ℕ). sum_by f front + n) (sum_by-cons f h (g ∷ back) ∙ ap (λ (n : ℕ). f h + n) (sum_by-cons f g back)) in
    let r : sum_by f (front ++ g ∷ h ∷ back) ≡ sum_by f front + (f g + (f h + sum_by f back)) = sum_by-append f front (g ∷ h ∷ back) ∙ ap (λ (n : ℕ). sum_by f front + n) (sum_by-cons f g (h ∷ back) ∙ ap (λ (n : ℕ). f g + n) (sum_by-cons f h back)) in
    l ∙ (omega arith ∙ sym r)

fewer_count : (name : GateName) (front back : List Gate) (g h : Gate) → count_of name (front ++ back) ≤ count_of name (front ++ g ∷ h ∷ back)
fewer_count name front back g h =
    let f = λ (x : Gate). cond (place_of (name_of x.kind) == place_of name) 1 0 in
    let l : sum_by f (front ++ back) ≡ sum_by f front + sum_by f back = sum_by-append f front back in
    let r : sum_by f (front ++ g ∷ h ∷ back) ≡ sum_by f front + (f g + (f h + sum_by f back)) = sum_by-append f front (g ∷ h ∷ back) ∙ ap (λ (n : ℕ). sum_by f front + n) (sum_by-cons f g (h ∷ back) ∙ ap (λ (n : ℕ). f g + n) (sum_by-cons f h back)) in
    omega (arith, l, r)

pub moves_count : (name : GateName) (a b : List Gate) → Moves a b → count_of name b ≤ count_of name a
moves_count name a b (done gates) = omega arith
moves_count name a b (swapped front back gates g h s m) = (let l : count_of name gates ≤ count_of name (front ++ h ∷ g ∷ back) = moves_count name (front ++ h ∷ g ∷ back) gates m in omega (arith, l, swap_count name front back g h))
moves_count name a b (removed front back gates g h c m) = (let l : count_of name gates ≤ count_of name (front ++ back) = moves_count name (front ++ back) gates m in omega (arith, l, fewer_count name front back g h))

pub shorter_counts : (gates : List Gate) → AreWellFormed gates → (name : GateName) → count_of name (gates_at gates (shorter gates)) ≤ count_of name gates
shorter_counts gates w name = moves_count name gates (gates_at gates (shorter gates)) (shorter_moves gates w)
