-- Where the local wires of a body stand among the wires of the whole run.
use Rattle.std.proofs.Common.{◌≡◌, ◌≢◌, ℕ, zero, suc, ◌+◌, ◌<◌, ◌≤◌, Bool, true, false, cond, List, [], ◌∷◌, ◌++◌, map, length, get_or, ◌⊎◌, inl, inr, Option, Some, None, refl, sym, ap, ◌∙◌, subst, arith, append_assoc, true≢false}
use Rattle.std.specs.Prelude.{option_to_list, option_map, ◌||◌}
use Rattle.std.specs.List.{list_any}
use Rattle.std.proofs.lemmas.Bool.{cases_lt}
use Rattle.std.proofs.lemmas.List.{get_or_past, get_or-append-add}
use Rattle.std.proofs.lemmas.List.Elements.{filter-append}
use Rattle.sc_base.specs.declared.Class.{Class}
use Rattle.sc_base.specs.declared.Class.TheVariants.{Q, C}
use Rattle.sc_gate.specs.declared.gate.Wire.{Wire}
use Rattle.sc_gate.specs.declared.gate.Gate.{Gate}
use Rattle.sc_gate.specs.Gates.{class_of, operands, IsNew, AreDistinct}
use Rattle.sc_gate.specs.Numbers.{Numbers, number_of, with_more, no_wires, IsThere, AreThere}
use Rattle.sc_gate.specs.Renaming.{rename_gate, IsOneToOneOn}
use Rattle.sc_gate.specs.Wires.{same_class, same_wire, member}
use Rattle.sc_gate.proofs.RenameLemmas.{distinct-rename, rename_gate-twice}
use Rattle.sc_gate.proofs.WireLemmas.{same_class-refl, same_wire-refl, same_wire-true, member_cases}
use Rattle.sc_deck.specs.declared.key.Key.{Key}
use Rattle.sc_deck.specs.declared.item.Item.TheVariants as item
use Rattle.sc_deck.specs.Keys.{param_classes, params_of}
use Rattle.sc_deck.specs.Placing.{Sized}
use Rattle.sc_deck.specs.Unfolding.{wires_from, of_class, placed, numbered}
use Rattle.sc_deck.specs.Renaming.{wire}
use Rattle.sc_deck.proofs.PlaceLaws.{placed-class, placed-classes, placed-before, placed-fresh, length_more, Sized-item, Sized-params}
use Rattle.sc_deck.proofs.WireLaws.{placed-all, more_of, made_all}
use Rattle.sc_meaning.specs.Instances.{number_in, local_wire}
use Rattle.sc_meaning.proofs.Distinct.{distinct_span}

-- ---- wires and their numbers among others

apart : (v w : Wire) → v ≢ w → same_wire v w ≡ false
apart v w differ = by (same_wire v w) refl
  where
    by : (b : Bool) → same_wire v w ≡ b → same_wire v w ≡ false
    by false is = is
    by true is = absurd (differ (same_wire-true v w is))

new_at : (x : Wire) (xs : List Wire) (d : Wire) (k : ℕ) → IsNew x xs → k < length xs → x ≢ get_or xs k d
new_at x [] d k new h = absurd (omega arith)
new_at x (y ∷ xs) d zero new h = new.0
new_at x (y ∷ xs) d (suc k) new h = new_at x xs d k new.1 (omega arith)

-- the number of a wire among distinct ones is its position
number_at : (xs : List Wire) (d : Wire) (k : ℕ) → AreDistinct xs → k < length xs → number_in xs (get_or xs k d) ≡ k
number_at [] d k distinct h = absurd (omega arith)
number_at (x ∷ xs) d zero distinct h = ap (λ (b : Bool). cond b 0 (suc (number_in xs x))) (same_wire-refl x)
number_at (x ∷ xs) d (suc k) distinct h =
    let low : k < length xs = omega arith in
    ap (λ (b : Bool). cond b 0 (suc (number_in xs (get_or xs k d)))) (apart x (get_or xs k d) (new_at x xs d k distinct.0 low))
    ∙ ap suc (number_at xs d k distinct.1 low)

new_of_class : (c : Class) (x : Wire) (xs : List Wire) → IsNew x xs → IsNew x (of_class c xs)
new_of_class c x [] new = tt
new_of_class c x (y ∷ xs) new = by (same_class c y.class) (new_of_class c x xs new.1)
  where
    by : (b : Bool) → IsNew x (of_class c xs) → IsNew x (cond b (y ∷ of_class c xs) (of_class c xs))
    by true rest = (new.0, rest)
    by false rest = rest

distinct_of_class : (c : Class) (xs : List Wire) → AreDistinct xs → AreDistinct (of_class c xs)
distinct_of_class c [] distinct = tt
distinct_of_class c (x ∷ xs) distinct = by (same_class c x.class) (distinct_of_class c xs distinct.1)
  where
    by : (b : Bool) → AreDistinct (of_class c xs) → AreDistinct (cond b (x ∷ of_class c xs) (of_class c xs))
    by true rest = (new_of_class c x xs distinct.0, rest)
    by false rest = rest

-- a placed wire has the class of the local one, even one that is not there
pub placed_keeps : (places : List Wire) (w : Wire) → class_of (placed places w) ≡ class_of w
placed_keeps places w = by (cases_lt w.number (length (of_class w.class places)))
  where
    by : (w.number < length (of_class w.class places)) ⊎ (length (of_class w.class places) ≤ w.number) → class_of (placed places w) ≡ class_of w
    by (inl h) = placed-class places w h
    by (inr h) = ap class_of (get_or_past (of_class w.class places) w.number w h)

-- and back
local_back : (places : List Wire) → AreDistinct places → (w : Wire) → w.number < length (of_class w.class places) → local_wire places (placed places w) ≡ w
local_back places distinct w h =
    let e : class_of (placed places w) ≡ w.class = placed_keeps places w in
    (λ i. record { class = e i; number = number_in (of_class (e i) places) (placed places w) })
    ∙ ap (λ (n : ℕ). wire w.class n) (number_at (of_class w.class places) w w.number (distinct_of_class w.class places distinct) h)

-- ---- places

pub parts_there : (own : Numbers) (xs ys : List Wire) → AreThere own (xs ++ ys) → AreThere own xs × AreThere own ys
parts_there own [] ys h = (tt, h)
parts_there own (x ∷ xs) ys h = let p = parts_there own xs ys h.1 in ((h.0, p.0), p.1)

-- the places are distinct wires, as many as the body has, and made before the next fresh ones
pub record Fine (places : List Wire) (own next : Numbers) : Type 0 where
  pub sized : Sized places own
  pub distinct : AreDistinct places
  pub below : AreThere next places

module _ (places : List Wire) (own next : Numbers) (fine : Fine places own next) where
  fine_in : (w : Wire) → IsThere own w → w.number < length (of_class w.class places)
  fine_in w there = subst (λ (n : ℕ). w.number < n) (sym (fine.sized.count w.class)) there

  pub fine_back : (w : Wire) → IsThere own w → local_wire places (placed places w) ≡ w
  fine_back w there = local_back places fine.distinct w (fine_in w there)

  pub fine_backs : (ws : List Wire) → AreThere own ws → map (local_wire places) (map (placed places) ws) ≡ ws
  fine_backs [] there = refl
  fine_backs (w ∷ ws) there = let here = fine_back w there.0 in let rest = fine_backs ws there.1 in λ i. here i ∷ rest i

  pub one_to_one : (v w : Wire) → IsThere own v → IsThere own w → placed places v ≡ placed places w → v ≡ w
  one_to_one v w a b e = sym (fine_back v a) ∙ ap (local_wire places) e ∙ fine_back w b

  there_member : (ws : List Wire) (v : Wire) → AreThere own ws → member v ws ≡ true → IsThere own v
  there_member [] v there m = absurd (true≢false (sym m))
  there_member (w ∷ ws) v there m = by (member_cases w v ws m) (there_member ws v there.1)
    where
      by : (w ≡ v) ⊎ (member v ws ≡ true) → (member v ws ≡ true → IsThere own v) → IsThere own v
      by (inl e) rest = subst (IsThere own) e there.0
      by (inr h) rest = rest h

  one_to_one_on : (ws : List Wire) → AreThere own ws → IsOneToOneOn ws (placed places)
  one_to_one_on ws there v w a b e = one_to_one v w (there_member ws v there a) (there_member ws w there b) e

  -- the same wires are the same where they are placed
  same_placed : (v w : Wire) → IsThere own v → IsThere own w → same_wire (placed places v) (placed places w) ≡ same_wire v w
  same_placed v w a b = by (same_wire v w) refl
    where
      by : (t : Bool) → same_wire v w ≡ t → same_wire (placed places v) (placed places w) ≡ same_wire v w
      by true is = ap (λ (u : Wire). same_wire (placed places u) (placed places w)) (same_wire-true v w is) ∙ same_wire-refl (placed places w) ∙ sym is
      by false is =
          apart (placed places v) (placed places w) (λ e. true≢false (sym (same_wire-refl w) ∙ ap (λ (u : Wire). same_wire u w) (sym (one_to_one v w a b e)) ∙ is))
          ∙ sym is

  member_placed : (w : Wire) (ws : List Wire) → IsThere own w → AreThere own ws → member (placed places w) (map (placed places) ws) ≡ member w ws
  member_placed w [] here there = refl
  member_placed w (v ∷ ws) here there =
      let one = same_placed v w there.0 here in
      let rest = member_placed w ws here there.1 in
      λ i. one i || rest i

  -- a wire of the one list is one of the other, or none is, wherever they are placed
  pub any_placed : (earlier ws : List Wire) → AreThere own earlier → AreThere own ws
      → list_any (λ w. member w (map (placed places) earlier)) (map (placed places) ws) ≡ list_any (λ w. member w earlier) ws
  any_placed earlier [] before there = refl
  any_placed earlier (w ∷ ws) before there =
      let one = member_placed w earlier there.0 before in
      let rest = any_placed earlier ws before there.1 in
      λ i. one i || rest i

  -- a gate of the body where it stands in the run, and back
  back_option : (o : Option Wire) → AreThere own (option_to_list o) → option_map (λ w. local_wire places (placed places w)) o ≡ o
  back_option None there = refl
  back_option (Some w) there = ap Some (fine_back w there.0)

  pub gate_back : (g : Gate) → AreThere own (operands g) → rename_gate (local_wire places) (rename_gate (placed places) g) ≡ g
  gate_back g there =
      let parts = parts_there own (option_to_list g.b) (option_to_list g.c) there.1 in
      let a = fine_back g.a there.0 in
      let b = back_option g.b parts.0 in
      let c = back_option g.c parts.1 in
      rename_gate-twice (local_wire places) (placed places) g ∙ (λ i. record { kind = g.kind; a = a i; b = b i; c = c i })

  -- THE PLACES OF A CALL: those of its wires
  pub fine_call : (key : Key) (ws : List Wire) → AreThere own ws → AreDistinct ws → map class_of ws ≡ param_classes key → Fine (map (placed places) ws) (params_of key) next
  fine_call key ws there distinct classes = record {
    sized = Sized-params (map (placed places) ws) key (placed-classes places own fine.sized ws there ∙ classes);
    distinct = distinct-rename (placed places) ws (one_to_one_on ws there) distinct;
    below = placed-all (IsThere next) places own fine.sized fine.below ws there;
  }

-- ---- more wires

-- no number is less
abbrev pub Ahead : Numbers → Numbers → Type 0
Ahead a b = (class : Class) → number_of class a ≤ number_of class b

pub ahead_more : (c : Class) (n : ℕ) (a : Numbers) → Ahead a (with_more c n a)
ahead_more Q n a Q = omega arith
ahead_more Q n a C = omega arith
ahead_more C n a Q = omega arith
ahead_more C n a C = omega arith

pub there_later : (a b : Numbers) → Ahead a b → (ws : List Wire) → AreThere a ws → AreThere b ws
there_later a b ahead [] there = tt
there_later a b ahead (w ∷ ws) there = ((let l = ahead w.class in let h : w.number < number_of w.class a = there.0 in omega arith), there_later a b ahead ws there.1)

pub fine_later : (places : List Wire) (own next later : Numbers) → Ahead next later → Fine places own next → Fine places own later
fine_later places own next later ahead fine = record { sized = fine.sized; distinct = fine.distinct; below = there_later next later ahead places fine.below }

pub there_append : (n : Numbers) (xs ys : List Wire) → AreThere n xs → AreThere n ys → AreThere n (xs ++ ys)
there_append n [] ys a b = b
there_append n (x ∷ xs) ys a b = (a.0, there_append n xs ys a.1 b)

pub new_append : (w : Wire) (xs ys : List Wire) → IsNew w xs → IsNew w ys → IsNew w (xs ++ ys)
new_append w [] ys a b = b
new_append w (x ∷ xs) ys a b = (a.0, new_append w xs ys a.1 b)

-- a wire that was there is none of those from a later number on
new_fresh : (c : Class) (first n : ℕ) (next : Numbers) (w : Wire) → number_of c next ≤ first → IsThere next w → IsNew w (wires_from c first n)
new_fresh c first zero next w from there = tt
new_fresh c first (suc n) next w from there = (
  (λ e. (let h : IsThere next (wire c first) = subst (IsThere next) e there in let l : first < number_of c next = h in omega arith)),
  new_fresh c (suc first) n next w (omega arith) there,
)

distinct_more : (c : Class) (n : ℕ) (next : Numbers) (places : List Wire) → AreDistinct places → AreThere next places → AreDistinct (places ++ wires_from c (number_of c next) n)
distinct_more c n next [] distinct there = distinct_span c (number_of c next) n
distinct_more c n next (p ∷ places) distinct there = (
  new_append p places (wires_from c (number_of c next) n) distinct.0 (new_fresh c (number_of c next) n next p (omega arith) there.0),
  distinct_more c n next places distinct.1 there.1,
)

pub there_fresh : (c : Class) (n : ℕ) (next : Numbers) → AreThere (with_more c n next) (wires_from c (number_of c next) n)
there_fresh c n next =
    made_all (IsThere (with_more c n next)) c (number_of c next) n
    (λ k from to. (let e = more_of c n next in let r : k < number_of c (with_more c n next) = omega arith in r))

-- FRESH WIRES have the places that are made for them
pub fine_more : (places : List Wire) (own next : Numbers) (c : Class) (n : ℕ) → Fine places own next
    → Fine (places ++ wires_from c (number_of c next) n) (with_more c n own) (with_more c n next)
fine_more places own next c n fine = record {
  sized = Sized-item places own (item.Fresh c n) next fine.sized;
  distinct = distinct_more c n next places fine.distinct fine.below;
  below = there_append (with_more c n next) places (wires_from c (number_of c next) n)
      (there_later next (with_more c n next) (ahead_more c n next) places fine.below) (there_fresh c n next);
}

-- places that come behind change no earlier one
pub placed_more : (places more : List Wire) (own : Numbers) → Sized places own → (ws : List Wire) → AreThere own ws → map (placed (places ++ more)) ws ≡ map (placed places) ws
placed_more places more own sized [] there = refl
placed_more places more own sized (w ∷ ws) there =
    let here = placed-before places more w (subst (λ (n : ℕ). w.number < n) (sym (sized.count w.class)) there.0) in
    let rest = placed_more places more own sized ws there.1 in
    λ i. here i ∷ rest i

fresh_from : (places : List Wire) (c : Class) (first n j m : ℕ) → j + m ≤ n
    → map (placed (places ++ wires_from c first n)) (wires_from c (length (of_class c places) + j) m) ≡ wires_from c (first + j) m
fresh_from places c first n j zero h = refl
fresh_from places c first n j (suc m) h =
    let low : j < n = omega arith in
    let here = placed-fresh places c first n j low in
    let rest = fresh_from places c first n (suc j) m (omega arith) in
    let a : suc (length (of_class c places) + j) ≡ length (of_class c places) + suc j = omega arith in
    let b : first + suc j ≡ suc (first + j) = omega arith in
    let tail : map (placed (places ++ wires_from c first n)) (wires_from c (suc (length (of_class c places) + j)) m) ≡ wires_from c (suc (first + j)) m =
    ap (λ (k : ℕ). map (placed (places ++ wires_from c first n)) (wires_from c k m)) a ∙ rest ∙ ap (λ (k : ℕ). wires_from c k m) b in
    λ i. here i ∷ tail i

pub placed_fresh : (places : List Wire) (own : Numbers) (c : Class) (first n : ℕ) → Sized places own
    → map (placed (places ++ wires_from c first n)) (wires_from c (number_of c own) n) ≡ wires_from c first n
placed_fresh places own c first n sized =
    let a : number_of c own ≡ length (of_class c places) + 0 = (let e = sized.count c in omega arith) in
    let b : first + 0 ≡ first = omega arith in
    ap (λ (k : ℕ). map (placed (places ++ wires_from c first n)) (wires_from c k n)) a
    ∙ fresh_from places c first n 0 n (omega arith)
    ∙ ap (λ (k : ℕ). wires_from c k n) b

-- ---- parameter wires

pub numbered_classes : (cs : List Class) (next : Numbers) → map class_of (numbered cs next) ≡ cs
numbered_classes [] next = refl
numbered_classes (c ∷ cs) next = ap (λ (ds : List Class). c ∷ ds) (numbered_classes cs (with_more c 1 next))

counts_one : (d : Class) (w : Wire) (next : Numbers) (n : ℕ) → n ≡ number_of d next → n + length (cond (same_class d w.class) (w ∷ []) []) ≡ number_of d (with_more w.class 1 next)
counts_one d w next n e = by d w.class e
  where
    by : (d c : Class) → n ≡ number_of d next → n + length (cond (same_class d c) (w ∷ []) []) ≡ number_of d (with_more c 1 next)
    by Q Q e = omega arith
    by Q C e = omega arith
    by C Q e = omega arith
    by C C e = omega arith

sized_one : (before : List Wire) (w : Wire) (next : Numbers) → Sized before next → Sized (before ++ w ∷ []) (with_more w.class 1 next)
sized_one before w next sized = record {
  count = λ d. length_more d before (w ∷ []) ∙ counts_one d w next (length (of_class d before)) (sized.count d);
}

-- the place of a parameter wire is the passed wire
numbered_here : (before : List Wire) (w : Wire) (ws : List Wire) (next : Numbers) → Sized before next → placed (before ++ w ∷ ws) (wire w.class (number_of w.class next)) ≡ w
numbered_here before w ws next sized =
    let c : Class = w.class in
    let d : Wire = wire c (number_of c next) in
    let n : number_of c next ≡ length (of_class c before) + 0 = (let e = sized.count c in omega arith) in
    ap (λ (xs : List Wire). get_or xs (number_of c next) d) (filter-append (λ (v : Wire). same_class c v.class) before (w ∷ ws))
    ∙ ap (λ (k : ℕ). get_or (of_class c before ++ of_class c (w ∷ ws)) k d) n
    ∙ get_or-append-add (of_class c before) (of_class c (w ∷ ws)) 0 d
    ∙ ap (λ (b : Bool). get_or (cond b (w ∷ of_class c ws) (of_class c ws)) 0 d) (same_class-refl c)

numbered_behind : (before ws : List Wire) (next : Numbers) → Sized before next → map (placed (before ++ ws)) (numbered (map class_of ws) next) ≡ ws
numbered_behind before [] next sized = refl
numbered_behind before (w ∷ ws) next sized =
    let here = numbered_here before w ws next sized in
    let e : before ++ w ∷ ws ≡ (before ++ w ∷ []) ++ ws = sym (append_assoc before (w ∷ []) ws) in
    let rest : map (placed (before ++ w ∷ ws)) (numbered (map class_of ws) (with_more w.class 1 next)) ≡ ws =
    ap (λ (ps : List Wire). map (placed ps) (numbered (map class_of ws) (with_more w.class 1 next))) e
    ∙ numbered_behind (before ++ w ∷ []) ws (with_more w.class 1 next) (sized_one before w next sized) in
    λ i. here i ∷ rest i

pub none_sized : Sized [] no_wires
none_sized = record { count = λ class. by class }
  where
    by : (class : Class) → 0 ≡ number_of class no_wires
    by Q = refl
    by C = refl

-- PARAMETERS stand for the wires that are passed
pub placed_numbered : (key : Key) (ws : List Wire) → map class_of ws ≡ param_classes key → map (placed ws) (numbered (param_classes key) no_wires) ≡ ws
placed_numbered key ws classes = ap (λ (cs : List Class). map (placed ws) (numbered cs no_wires)) (sym classes) ∙ numbered_behind [] ws no_wires none_sized

numbered_there_by : (before ws : List Wire) (next all : Numbers) → Sized before next → Sized (before ++ ws) all → AreThere all (numbered (map class_of ws) next)
numbered_there_by before [] next all sized whole = tt
numbered_there_by before (w ∷ ws) next all sized whole =
    let c : Class = w.class in
    let one = sized_one before w next sized in
    let e : before ++ w ∷ ws ≡ (before ++ w ∷ []) ++ ws = sym (append_assoc before (w ∷ []) ws) in
    let again : Sized ((before ++ w ∷ []) ++ ws) all = subst (λ (ps : List Wire). Sized ps all) e whole in
    let n = one.count c in
    let m = more_of c 1 next in
    let l = length_more c (before ++ w ∷ []) ws in
    let k = again.count c in
    ((let r : number_of c next < number_of c all = omega arith in r), numbered_there_by (before ++ w ∷ []) ws (with_more c 1 next) all one again)

pub numbered_there : (key : Key) → AreThere (params_of key) (numbered (param_classes key) no_wires)
numbered_there key =
    let own : List Wire = numbered (param_classes key) no_wires in
    let classes : map class_of own ≡ param_classes key = numbered_classes (param_classes key) no_wires in
    subst (λ (cs : List Class). AreThere (params_of key) (numbered cs no_wires)) classes
    (numbered_there_by [] own no_wires (params_of key) none_sized (Sized-params own key classes))

new_numbered : (w : Wire) (cs : List Class) (next : Numbers) → w.number < number_of w.class next → IsNew w (numbered cs next)
new_numbered w [] next h = tt
new_numbered w (c ∷ cs) next h = (
  (λ e. (let l : IsThere next (wire c (number_of c next)) = subst (IsThere next) e h in let r : number_of c next < number_of c next = l in omega arith)),
  new_numbered w cs (with_more c 1 next) (let l = ahead_more c 1 next w.class in omega arith),
)

pub distinct_numbered : (cs : List Class) (next : Numbers) → AreDistinct (numbered cs next)
distinct_numbered [] next = tt
distinct_numbered (c ∷ cs) next = (
  new_numbered (wire c (number_of c next)) cs (with_more c 1 next) (let m = more_of c 1 next in let r : number_of c next < number_of c (with_more c 1 next) = omega arith in r),
  distinct_numbered cs (with_more c 1 next),
)
