-- No pair that cancels is left with nothing between that shares a wire.
use Rattle.std.proofs.Common.{◌≡◌, Bool, true, false, Option, Some, None, List, [], ◌∷◌, ◌++◌, ◌⊎◌, inl, inr, refl, sym, ap, ◌∙◌, subst, append_assoc}
use Rattle.std.specs.Prelude.{◌||◌, fold, option_to_list}
use Rattle.std.specs.Option.{option_map}
use Rattle.std.specs.List.{list_any}
use Rattle.std.proofs.lemmas.Bool.{false≢true, cases_Bool, or_left, or_right}
use Rattle.std.proofs.lemmas.List.Folds.{list_any-append}
use Rattle.sc_gate.specs.declared.gate.Wire.{Wire}
use Rattle.sc_gate.specs.declared.gate.Gate.{Gate}
use Rattle.sc_gate.specs.Gates.{operands, Cancels, AreWellFormed}
use Rattle.sc_gate.specs.Wires.{member, shares}
use Rattle.sc_gate.proofs.WireLemmas.{shares_tells, member_here}
use Rattle.sc_cancel.specs.Cancelling.{undoes, taken_out, with_gate, marks_after, shorter, gates_at}
use Rattle.sc_cancel.specs.Moves.{IsReduced}
use Rattle.sc_cancel.proofs.Marks.{map_some, some_same, none_some}
use Rattle.sc_cancel.proofs.Taking.{cancels_undoes, undoes_operands}
use Rattle.sc_cancel.proofs.Restoring.{with_none, with_some}
use Rattle.sc_cancel.proofs.MoveLaws.{standing, standing_shorter}

-- no gate that stays takes an earlier one out
abbrev pub AreLoose : List (Option Gate) → Type 0
AreLoose [] = Unit {0}
AreLoose (None ∷ marks) = AreLoose marks
AreLoose (Some g ∷ marks) = (taken_out g marks ≡ None) × AreLoose marks

map_none : {A B : Type 0} (f : A → B) (o : Option A) → option_map f o ≡ None → o ≡ None
map_none f None h = refl
map_none f (Some x) h = cc

apart_of : (g h k : Gate) → shares g h ≡ false → operands k ≡ operands g → shares h k ≡ false
apart_of g h k s e = elim (cases_Bool (shares h k)) [
  | inl t ↦ (let w = (shares_tells h k).0 t in absurd (false≢true (sym s ∙ (shares_tells g h).1 (w.0, sym (ap (λ (ws : List Wire). member w.0 ws) e) ∙ w.2, w.1))))
  | inr f ↦ f
]

still_later : (g h k : Gate) (marks ys : List (Option Gate)) → shares g h ≡ false → taken_out g marks ≡ Some ys → taken_out h (Some k ∷ marks) ≡ None →
    (taken_out h marks ≡ None → taken_out h ys ≡ None) → taken_out h (Some k ∷ ys) ≡ None
still_later g h k marks ys s e n go = elim (cases_Bool (shares h k)) [
  | inl t ↦ elim (cases_Bool (undoes k h)) [
    | inl u ↦ absurd (none_some (None ∷ marks) (sym n ∙ rw (t, u) refl))
    | inr u ↦ rw (t, u) refl
  ]
  | inr t ↦ rw t (ap (option_map (λ (rest : List (Option Gate)). Some k ∷ rest)) (go (map_none (λ (rest : List (Option Gate)). Some k ∷ rest) (taken_out h marks) (rw t at n))))
]

-- h shares no wire with g, so that what g takes out is nothing to h
still_none : (g h : Gate) (marks ys : List (Option Gate)) → shares g h ≡ false → taken_out g marks ≡ Some ys → taken_out h marks ≡ None → taken_out h ys ≡ None
still_none g h [] ys s e n = cc
still_none g h (None ∷ marks) ys s e n =
    let m = map_some (λ (rest : List (Option Gate)). None ∷ rest) (taken_out g marks) ys e in
    subst (λ (l : List (Option Gate)). taken_out h l ≡ None) m.2
    (ap (option_map (λ (rest : List (Option Gate)). None ∷ rest)) (still_none g h marks m.0 s m.1 (map_none (λ (rest : List (Option Gate)). None ∷ rest) (taken_out h marks) n)))
still_none g h (Some k ∷ marks) ys s e n = elim (cases_Bool (shares g k)) [
  | inl t ↦ elim (cases_Bool (undoes k g)) [
    | inl u ↦ (let f : shares h k ≡ false = apart_of g h k s (undoes_operands k g u) in
        subst (λ (l : List (Option Gate)). taken_out h l ≡ None) (some_same (None ∷ marks) ys (rw (t, u) at e))
        (ap (option_map (λ (rest : List (Option Gate)). None ∷ rest)) (map_none (λ (rest : List (Option Gate)). Some k ∷ rest) (taken_out h marks) (rw f at n))))
    | inr u ↦ absurd (none_some ys (rw (t, u) at e))
  ]
  | inr t ↦ (let m = map_some (λ (rest : List (Option Gate)). Some k ∷ rest) (taken_out g marks) ys (rw t at e) in
      subst (λ (l : List (Option Gate)). taken_out h l ≡ None) m.2 (still_later g h k marks m.0 s m.1 n (still_none g h marks m.0 s m.1)))
]

loose_out : (g : Gate) (marks ys : List (Option Gate)) → AreLoose marks → taken_out g marks ≡ Some ys → AreLoose ys
loose_out g [] ys l e = cc
loose_out g (None ∷ marks) ys l e =
    let m = map_some (λ (rest : List (Option Gate)). None ∷ rest) (taken_out g marks) ys e in
    subst AreLoose m.2 (loose_out g marks m.0 l m.1)
loose_out g (Some h ∷ marks) ys l e = elim (cases_Bool (shares g h)) [
  | inl s ↦ elim (cases_Bool (undoes h g)) [
    | inl u ↦ subst AreLoose (some_same (None ∷ marks) ys (rw (s, u) at e)) l.1
    | inr u ↦ absurd (none_some ys (rw (s, u) at e))
  ]
  | inr s ↦ (let m = map_some (λ (rest : List (Option Gate)). Some h ∷ rest) (taken_out g marks) ys (rw s at e) in
      subst AreLoose m.2 (still_none g h marks m.0 s m.1 l.0, loose_out g marks m.0 l.1 m.1))
]

loose_with : (g : Gate) (marks : List (Option Gate)) (o : Option (List (Option Gate))) → AreLoose marks → taken_out g marks ≡ o → AreLoose (with_gate marks g)
loose_with g marks None l e = subst AreLoose (sym (with_none marks g e)) (e, l)
loose_with g marks (Some ys) l e = subst AreLoose (sym (with_some marks ys g e)) (loose_out g marks ys l e)

loose_all : (gates : List Gate) (marks : List (Option Gate)) → AreLoose marks → AreLoose (fold with_gate marks gates)
loose_all [] marks l = l
loose_all (g ∷ gates) marks l = loose_all gates (with_gate marks g) (loose_with g marks (taken_out g marks) l refl)

-- where a list that ends in k ends in g and others, there are no others and k is g, or the others end in k
ends : (k g : Gate) (list front back : List Gate) → list ++ k ∷ [] ≡ front ++ g ∷ back → ((back ≡ []) × (k ≡ g) × (list ≡ front)) ⊎ ((less : List Gate) × (back ≡ less ++ k ∷ []) × (list ≡ front ++ g ∷ less))
ends k g [] [] [] e = inl (refl, (let h : k ∷ [] ≡ g ∷ [] = e in cc), refl)
ends k g [] [] (x ∷ back) e = (let h : k ∷ [] ≡ g ∷ x ∷ back = e in cc)
ends k g [] (y ∷ []) back e = (let h : k ∷ [] ≡ y ∷ g ∷ back = e in cc)
ends k g [] (y ∷ z ∷ front) back e = (let h : k ∷ [] ≡ y ∷ z ∷ (front ++ g ∷ back) = e in cc)
ends k g (x ∷ list) [] back e = (let h : x ∷ (list ++ k ∷ []) ≡ g ∷ back = e in inr (list, (let t : list ++ k ∷ [] ≡ back = cc in sym t), (let t : x ≡ g = cc in ap (λ (y : Gate). y ∷ list) t)))
ends k g (x ∷ list) (y ∷ front) back e =
    let h : x ∷ (list ++ k ∷ []) ≡ y ∷ (front ++ g ∷ back) = e in
    let first : x ≡ y = cc in
    elim (ends k g list front back (let t : list ++ k ∷ [] ≡ front ++ g ∷ back = cc in t)) [
      | inl p ↦ inl (p.0, p.1, ap (λ (z : Gate). z ∷ list) first ∙ ap (λ (l : List Gate). y ∷ l) p.2)
      | inr p ↦ inr (p.0, p.1, ap (λ (z : Gate). z ∷ list) first ∙ ap (λ (l : List Gate). y ∷ l) p.2)
    ]

between_last : (marks : List (Option Gate)) (g h k : Gate) (less : List Gate) → taken_out h (Some k ∷ marks) ≡ None → Cancels g h →
    (taken_out h marks ≡ None → list_any (λ m. shares g m) less ≡ true) →
    (list_any (λ m. shares g m) less || (shares g k || false)) ≡ true
between_last marks g h k less n c go = elim (cases_Bool (shares h k)) [
  | inl s ↦ (let w = (shares_tells h k).0 s in
      let t : shares g k ≡ true = (shares_tells g k).1 (w.0, ap (λ (ws : List Wire). member w.0 ws) c.operands_same ∙ w.1, w.2) in
      or_right (list_any (λ m. shares g m) less) (shares g k || false) (ap (λ (b : Bool). b || false) t))
  | inr s ↦ or_left (list_any (λ m. shares g m) less) (shares g k || false)
      (go (map_none (λ (rest : List (Option Gate)). Some k ∷ rest) (taken_out h marks) (rw s at n)))
]

-- between a gate that stays and a later one that cancels it stands one on its wires
between : (marks : List (Option Gate)) (g h : Gate) (front middle : List Gate) → taken_out h marks ≡ None → Cancels g h → standing marks ≡ front ++ g ∷ middle → list_any (λ m. shares g m) middle ≡ true
between [] g h [] middle n c e = (let t : [] ≡ g ∷ middle = e in cc)
between [] g h (x ∷ front) middle n c e = (let t : [] ≡ x ∷ (front ++ g ∷ middle) = e in cc)
between (None ∷ marks) g h front middle n c e = between marks g h front middle (map_none (λ (rest : List (Option Gate)). None ∷ rest) (taken_out h marks) n) c e
between (Some k ∷ marks) g h front middle n c e = elim (ends k g (standing marks) front middle e) [
  | inl p ↦ (let u : undoes k h ≡ true = ap (λ (x : Gate). undoes x h) p.1 ∙ cancels_undoes g h c in
      let s : shares h k ≡ true = (shares_tells h k).1 (
        h.a,
        member_here h.a (option_to_list h.b ++ option_to_list h.c),
        ap (λ (ws : List Wire). member h.a ws) (ap operands p.1 ∙ c.operands_same) ∙ member_here h.a (option_to_list h.b ++ option_to_list h.c),
      ) in
      absurd (none_some (None ∷ marks) (sym n ∙ rw (s, u) refl)))
  | inr p ↦ ap (list_any (λ m. shares g m)) p.1 ∙ (list_any-append (λ m. shares g m) p.0 (k ∷ []) ∙ between_last marks g h k p.0 n c (λ m. between marks g h front p.0 m c p.2))
]

reduced : (marks : List (Option Gate)) → AreLoose marks → IsReduced (standing marks)
reduced [] l [] middle back g h e c = (let t : [] ≡ g ∷ (middle ++ h ∷ back) = e in cc)
reduced [] l (x ∷ front) middle back g h e c = (let t : [] ≡ x ∷ (front ++ g ∷ (middle ++ h ∷ back)) = e in cc)
reduced (None ∷ marks) l front middle back g h e c = reduced marks l front middle back g h e c
reduced (Some k ∷ marks) l front middle back g h e c =
    elim (ends k h (standing marks) (front ++ g ∷ middle) back (e ∙ sym (append_assoc front (g ∷ middle) (h ∷ back)))) [
      | inl p ↦ between marks g h front middle (subst (λ (x : Gate). taken_out x marks ≡ None) p.1 l.0) c p.2
      | inr p ↦ reduced marks l.1 front middle p.0 g h (p.2 ∙ append_assoc front (g ∷ middle) (h ∷ p.0)) c
    ]

pub shorter_reduced : (gates : List Gate) → AreWellFormed gates → IsReduced (gates_at gates (shorter gates))
shorter_reduced gates w = subst IsReduced (sym (standing_shorter gates)) (reduced (marks_after gates) (loose_all gates [] tt))
