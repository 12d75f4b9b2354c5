-- What it means that a gate is taken out, and when one is.
use Rattle.std.proofs.Common.{◌≡◌, ℕ, zero, suc, ◌<◌, ◌≤◌, Bool, true, false, Option, Some, None, List, [], ◌∷◌, ◌++◌, inl, inr, length, if◌then◌else◌, refl, sym, ap, ◌∙◌, subst, arith}
use Rattle.std.specs.Prelude.{◌&&◌, ◌||◌, slice_get, slice_set, option_to_list}
use Rattle.std.specs.Option.{option_map}
use Rattle.std.proofs.lemmas.Bool.{false≢true, cases_Bool}
use Rattle.sc_gate.specs.declared.gate.Wire.{Wire}
use Rattle.sc_gate.specs.declared.gate.Gate.{Gate}
use Rattle.sc_gate.specs.Gates.{operands, undo, Cancels, IsWellFormed}
use Rattle.sc_gate.specs.Wires.{same_wire, member, shares}
use Rattle.sc_gate.proofs.WireLemmas.{same_wire-true, same_wire-refl, member_here, member_later, shares_tells}
use Rattle.sc_gate.specs.declared.wire_table.OperandNumbers.{OperandNumbers}
use Rattle.sc_cancel.specs.Cancelling.{same_wires, undoes, taken_out}
use Rattle.sc_gate.specs.WireTables.{on_wire, numbers_by}
use Rattle.sc_cancel.specs.Keeping.{last_on, linked, links_at, joined}
use Rattle.sc_cancel.proofs.Marks.{map_some, some_same, none_some, slice_get_here, set_here, set_front, length-linked, Agree}

both : (s t : Bool) → (s && t) ≡ true → (s ≡ true) × (t ≡ true)
both true t h = (refl, h)
both false t h = cc

-- the test of wires tells what it tests
pub same_wires-true : (vs ws : List Wire) → same_wires vs ws ≡ true → vs ≡ ws
same_wires-true [] [] h = refl
same_wires-true [] (w ∷ ws) h = cc
same_wires-true (v ∷ vs) [] h = cc
same_wires-true (v ∷ vs) (w ∷ ws) h =
    let parts = both (same_wire v w) (same_wires vs ws) h in
    ap (λ (x : Wire). x ∷ vs) (same_wire-true v w parts.0) ∙ ap (λ (xs : List Wire). w ∷ xs) (same_wires-true vs ws parts.1)

pub same_wires-refl : (ws : List Wire) → same_wires ws ws ≡ true
same_wires-refl [] = refl
same_wires-refl (w ∷ ws) = ap (λ (t : Bool). t && same_wires ws ws) (same_wire-refl w) ∙ same_wires-refl ws

pub cancels_undoes : (g h : Gate) → Cancels g h → undoes g h ≡ true
cancels_undoes g h c =
    ap (λ (t : Bool). t && same_wires (operands g) (operands h)) c.kinds
    ∙ (ap (λ (ws : List Wire). same_wires (operands g) ws) (sym c.operands_same) ∙ same_wires-refl (operands g))

pub undoes_cancels : (g h : Gate) → IsWellFormed g → IsWellFormed h → undoes g h ≡ true → Cancels g h
undoes_cancels g h wg wh u =
    let parts = both (undo g.kind h.kind) (same_wires (operands g) (operands h)) u in
    record { first = wg; second = wh; kinds = parts.0; operands_same = same_wires-true (operands g) (operands h) parts.1 }

pub undoes_operands : (g h : Gate) → undoes g h ≡ true → operands g ≡ operands h
undoes_operands g h u = same_wires-true (operands g) (operands h) (both (undo g.kind h.kind) (same_wires (operands g) (operands h)) u).1

-- gates that share no wire
pub apart : (g h : Gate) (w : Wire) → shares g h ≡ false → member w (operands g) ≡ true → member w (operands h) ≡ false
apart g h w s m = elim (cases_Bool (member w (operands h))) [
  | inl t ↦ absurd (false≢true (sym s ∙ (shares_tells g h).1 (w, m, t)))
  | inr f ↦ f
]

pub apart_back : (g h : Gate) (w : Wire) → shares g h ≡ false → member w (operands h) ≡ true → member w (operands g) ≡ false
apart_back g h w s m = elim (cases_Bool (member w (operands g))) [
  | inl t ↦ absurd (false≢true (sym s ∙ (shares_tells g h).1 (w, t, m)))
  | inr f ↦ f
]

-- a member of the first or the second list
pub member_left : (w : Wire) (vs ws : List Wire) → member w vs ≡ true → member w (vs ++ ws) ≡ true
member_left w [] ws h = cc
member_left w (v ∷ vs) ws h = elim (cases_Bool (same_wire v w)) [
  | inl t ↦ ap (λ (b : Bool). b || member w (vs ++ ws)) t
  | inr f ↦ ap (λ (b : Bool). b || member w (vs ++ ws)) f ∙ member_left w vs ws (sym (ap (λ (b : Bool). b || member w vs) f) ∙ h)
]

pub member_right : (w : Wire) (vs ws : List Wire) → member w ws ≡ true → member w (vs ++ ws) ≡ true
member_right w [] ws h = h
member_right w (v ∷ vs) ws h = member_later v w (vs ++ ws) (member_right w vs ws h)

on_same : (f f2 : Wire → Option ℕ) (o : Option Wire) → ((w : Wire) → member w (option_to_list o) ≡ true → f w ≡ f2 w) → on_wire f o ≡ on_wire f2 o
on_same f f2 None h = refl
on_same f f2 (Some w) h = h w (member_here w [])

unfoldable made : Option ℕ → Option ℕ → Option ℕ → OperandNumbers
made a b c = record { a = a; b = b; c = c }

-- the links are fixed by the numbers of the operands
pub links_same : (f f2 : Wire → Option ℕ) (g : Gate) → ((w : Wire) → member w (operands g) ≡ true → f w ≡ f2 w) → numbers_by f g ≡ numbers_by f2 g
unfolding made
links_same f f2 g h =
    let a : f g.a ≡ f2 g.a = h g.a (member_here g.a (option_to_list g.b ++ option_to_list g.c)) in
    let b : on_wire f g.b ≡ on_wire f2 g.b = on_same f f2 g.b (λ w m. h w (member_later g.a w (option_to_list g.b ++ option_to_list g.c) (member_left w (option_to_list g.b) (option_to_list g.c) m))) in
    let c : on_wire f g.c ≡ on_wire f2 g.c = on_same f f2 g.c (λ w m. h w (member_later g.a w (option_to_list g.b ++ option_to_list g.c) (member_right w (option_to_list g.b) (option_to_list g.c) m))) in
    ap (λ (x : Option ℕ). made x (on_wire f g.b) (on_wire f g.c)) a
    ∙ (ap (λ (x : Option ℕ). made (f2 g.a) x (on_wire f g.c)) b ∙ ap (λ (x : Option ℕ). made (f2 g.a) (on_wire f2 g.b) x) c)

-- g takes out the gate at a position: it is the last one that stays and shares a wire with g, and g undoes it
pub record IsTaken (gates : List Gate) (g : Gate) (marks ys : List (Option Gate)) : Type 0 where
  pub at : ℕ
  pub gate : Gate
  -- the marks behind it
  pub older : List (Option Gate)
  pub stands : slice_get gates at ≡ Some gate
  pub below : at < length marks
  pub fewer : length older ≤ at
  pub undone : undoes gate g ≡ true
  pub last : (w : Wire) → member w (operands g) ≡ true → last_on marks w ≡ Some at
  pub link : links_at (linked marks) at ≡ Some (numbers_by (last_on older) gate)
  pub now_last : (w : Wire) → last_on ys w ≡ (if member w (operands g) then last_on older w else last_on marks w)
  pub now_linked : linked ys ≡ slice_set (linked marks) at None
  pub many : length ys ≡ length marks
  pub agree : Agree gates ys

links_front : (all back : List (Option OperandNumbers)) (q : ℕ) (l : OperandNumbers) → links_at all q ≡ Some l → links_at (all ++ back) q ≡ Some l
links_front [] back q l h = cc
links_front (o ∷ all) back zero l h = h
links_front (o ∷ all) back (suc q) l h = links_front all back q l h

taken_none : (gates : List Gate) (g : Gate) (marks ys : List (Option Gate)) → IsTaken gates g marks ys → IsTaken gates g (None ∷ marks) (None ∷ ys)
taken_none gates g marks ys t = record {
  at = t.at;
  gate = t.gate;
  older = t.older;
  stands = t.stands;
  below = (let l : t.at < length marks = t.below in omega (arith, l));
  fewer = t.fewer;
  undone = t.undone;
  last = t.last;
  link = links_front (linked marks) (None ∷ []) t.at (numbers_by (last_on t.older) t.gate) t.link;
  now_last = t.now_last;
  now_linked =
      ap (λ (l : List (Option OperandNumbers)). l ++ None ∷ []) t.now_linked
      ∙ sym (set_front (linked marks) (None ∷ []) t.at None (subst (λ (n : ℕ). t.at < n) (sym (length-linked marks)) t.below));
  many = ap (λ (n : ℕ). suc n) t.many;
  agree = t.agree;
}

-- the last gate itself
gone_last : (g h : Gate) (marks : List (Option Gate)) (w : Wire) → operands h ≡ operands g →
    last_on marks w ≡ (if member w (operands g) then last_on marks w else (if member w (operands h) then Some (length marks) else last_on marks w))
gone_last g h marks w e = elim (cases_Bool (member w (operands g))) [
  | inl t ↦ rw t refl
  | inr f ↦ (let k : member w (operands h) ≡ false = ap (λ (ws : List Wire). member w ws) e ∙ f in rw (f, k) refl)
]

taken_here : (gates : List Gate) (g h : Gate) (marks : List (Option Gate)) → undoes h g ≡ true → Agree gates (Some h ∷ marks) → IsTaken gates g (Some h ∷ marks) (None ∷ marks)
taken_here gates g h marks u a =
    let same : operands h ≡ operands g = undoes_operands h g u in
    record {
      at = length marks;
      gate = h;
      older = marks;
      stands = a.0;
      below = omega arith;
      fewer = omega arith;
      undone = u;
      last = λ w m. (let k : member w (operands h) ≡ true = ap (λ (ws : List Wire). member w ws) same ∙ m in rw k refl);
      link =
          ap joined
          (ap (λ (n : ℕ). slice_get (linked marks ++ Some (numbers_by (last_on marks) h) ∷ []) n) (sym (length-linked marks))
          ∙ slice_get_here (linked marks) (Some (numbers_by (last_on marks) h)) []);
      now_last = λ w. gone_last g h marks w same;
      now_linked =
          sym
          (ap (λ (n : ℕ). slice_set (linked marks ++ Some (numbers_by (last_on marks) h) ∷ []) n None) (sym (length-linked marks))
          ∙ set_here (linked marks) (Some (numbers_by (last_on marks) h)) None);
      many = refl;
      agree = a.1;
    }

-- a later gate that shares no wire with g
later_last : (gates : List Gate) (g h : Gate) (marks ys : List (Option Gate)) (t : IsTaken gates g marks ys) → shares g h ≡ false → (w : Wire) →
    last_on (Some h ∷ ys) w ≡ (if member w (operands g) then last_on t.older w else last_on (Some h ∷ marks) w)
later_last gates g h marks ys t s w = elim (cases_Bool (member w (operands g))) [
  | inl m ↦ (let k : member w (operands h) ≡ false = apart g h w s m in rw (k, m) (t.now_last w ∙ rw m refl))
  | inr f ↦ elim (cases_Bool (member w (operands h))) [
    | inl k ↦ rw (k, f) (ap (λ (n : ℕ). Some n) t.many)
    | inr k ↦ rw (k, f) (t.now_last w ∙ rw f refl)
  ]
]

later_links : (gates : List Gate) (g h : Gate) (marks ys : List (Option Gate)) (t : IsTaken gates g marks ys) → shares g h ≡ false →
    numbers_by (last_on ys) h ≡ numbers_by (last_on marks) h
later_links gates g h marks ys t s = links_same (last_on ys) (last_on marks) h (λ w m. (let f : member w (operands g) ≡ false = apart_back g h w s m in t.now_last w ∙ rw f refl))

taken_later : (gates : List Gate) (g h : Gate) (marks ys : List (Option Gate)) → shares g h ≡ false → slice_get gates (length marks) ≡ Some h → IsTaken gates g marks ys → IsTaken gates g (Some h ∷ marks) (Some h ∷ ys)
taken_later gates g h marks ys s a t = record {
  at = t.at;
  gate = t.gate;
  older = t.older;
  stands = t.stands;
  below = (let l : t.at < length marks = t.below in omega (arith, l));
  fewer = t.fewer;
  undone = t.undone;
  last = λ w m. (let k : member w (operands h) ≡ false = apart g h w s m in rw k (t.last w m));
  link = links_front (linked marks) (Some (numbers_by (last_on marks) h) ∷ []) t.at (numbers_by (last_on t.older) t.gate) t.link;
  now_last = later_last gates g h marks ys t s;
  now_linked =
      ap (λ (l : List (Option OperandNumbers)). l ++ Some (numbers_by (last_on ys) h) ∷ []) t.now_linked
      ∙ (ap (λ (l : OperandNumbers). slice_set (linked marks) t.at None ++ Some l ∷ []) (later_links gates g h marks ys t s)
      ∙ sym (set_front (linked marks) (Some (numbers_by (last_on marks) h) ∷ []) t.at None (subst (λ (n : ℕ). t.at < n) (sym (length-linked marks)) t.below)));
  many = ap (λ (n : ℕ). suc n) t.many;
  agree = (subst (λ (n : ℕ). slice_get gates n ≡ Some h) (sym t.many) a, t.agree);
}

pub is_taken : (gates : List Gate) (g : Gate) (marks ys : List (Option Gate)) → Agree gates marks → taken_out g marks ≡ Some ys → IsTaken gates g marks ys
is_taken gates g [] ys a e = cc
is_taken gates g (None ∷ marks) ys a e =
    let m = map_some (λ (rest : List (Option Gate)). None ∷ rest) (taken_out g marks) ys e in
    subst (λ (l : List (Option Gate)). IsTaken gates g (None ∷ marks) l) m.2 (taken_none gates g marks m.0 (is_taken gates g marks m.0 a m.1))
is_taken gates g (Some h ∷ marks) ys a e = elim (cases_Bool (shares g h)) [
  | inl s ↦ elim (cases_Bool (undoes h g)) [
    | inl u ↦ subst (λ (l : List (Option Gate)). IsTaken gates g (Some h ∷ marks) l) (some_same (None ∷ marks) ys (rw (s, u) at e)) (taken_here gates g h marks u a)
    | inr u ↦ absurd (none_some ys (rw (s, u) at e))
  ]
  | inr s ↦ (let m = map_some (λ (rest : List (Option Gate)). Some h ∷ rest) (taken_out g marks) ys (rw s at e) in
      subst (λ (l : List (Option Gate)). IsTaken gates g (Some h ∷ marks) l) m.2 (taken_later gates g h marks m.0 s a.0 (is_taken gates g marks m.0 a.1 m.1)))
]

-- where all operands have one last gate, which g undoes, that is taken out
pub taken_if : (gates : List Gate) (g : Gate) (marks : List (Option Gate)) (q : ℕ) (h : Gate) → Agree gates marks →
    ((w : Wire) → member w (operands g) ≡ true → last_on marks w ≡ Some q) → slice_get gates q ≡ Some h → undoes h g ≡ true →
    (ys : List (Option Gate)) × (taken_out g marks ≡ Some ys)
taken_if gates g [] q h a l e u = absurd (none_some q (l g.a (member_here g.a (option_to_list g.b ++ option_to_list g.c))))
taken_if gates g (None ∷ marks) q h a l e u =
    let m = taken_if gates g marks q h a l e u in
    (None ∷ m.0, ap (option_map (λ (rest : List (Option Gate)). None ∷ rest)) m.1)
taken_if gates g (Some k ∷ marks) q h a l e u = elim (cases_Bool (shares g k)) [
  | inl s ↦ (let w = (shares_tells g k).0 s in
      let at : length marks ≡ q = some_same (length marks) q (rw w.2 at (l w.0 w.1)) in
      let same : k ≡ h = some_same k h (sym a.0 ∙ (ap (slice_get gates) at ∙ e)) in
      let v : undoes k g ≡ true = ap (λ (x : Gate). undoes x g) same ∙ u in
      (None ∷ marks, rw (s, v) refl))
  | inr s ↦ (let m = taken_if gates g marks q h a.1 (λ w b. (let f : member w (operands k) ≡ false = apart g k w s b in rw f at (l w b))) e u in
      (Some k ∷ m.0, rw s (ap (option_map (λ (rest : List (Option Gate)). Some k ∷ rest)) m.1)))
]
