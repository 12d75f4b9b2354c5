-- The evaluated arguments: the first repeated wire stands in the first argument that holds a wire of an earlier one.
use Rattle.std.proofs.Common.{◌≡◌, ℕ, zero, suc, ◌+◌, ◌-◌, ◌<◌, ◌≤◌, Bool, true, false, cond, ◌⊎◌, inl, inr, List, [], ◌∷◌, ◌++◌, length, take, Some, Ok, Err, refl, sym, ap, ◌∙◌, subst, arith, append_assoc, append-nil, length-append, true≢false}
use Rattle.std.specs.Prelude.{nat_lt, slice_get, ◌||◌}
use Rattle.std.specs.List.{list_any}
use Rattle.std.proofs.lemmas.Bool.{cases_lt, or_cases}
use Rattle.std.proofs.lemmas.Bool.Decides.{nat_tests}
use Rattle.sc_base.specs.declared.Place.{Place}
use Rattle.sc_gate.specs.declared.gate.Wire.{Wire}
use Rattle.sc_gate.specs.Gates.{IsNew, AreDistinct}
use Rattle.sc_gate.specs.Wires.{member}
use Rattle.sc_gate.proofs.WireLemmas.{member_here, member_later, member_cases}
use Rattle.sc_deck.specs.Repeats.{StandsEarlier}
use Rattle.sc_meaning.specs.declared.fault.ElabFault.TheVariants.{Repeated}
use Rattle.sc_meaning.specs.Arguments.{Passed, wires_of, distinct_after}
use Rattle.sc_elab.specs.declared.arguments.Evaluated.{Evaluated}
use Rattle.sc_elab.specs.Evaluated.{all_passed, holder}
use Rattle.sc_meaning.proofs.Distinct.{EachDistinct, distinct_span}

-- ---- wires by their positions

-- the wire stands in the list
pub record At (ws : List Wire) (w : Wire) : Type 0 where
  pub place : ℕ
  pub there : slice_get ws place ≡ Some w

get_below : {A : Type 0} (xs : List A) (i : ℕ) (x : A) → slice_get xs i ≡ Some x → i < length xs
get_below [] i x h = absurd cc
get_below (y ∷ ys) zero x h = omega arith
get_below (y ∷ ys) (suc i) x h = let l : i < length ys = get_below ys i x h in omega arith

get_left : {A : Type 0} (xs ys : List A) (i : ℕ) (x : A) → slice_get xs i ≡ Some x → slice_get (xs ++ ys) i ≡ Some x
get_left [] ys i x h = absurd cc
get_left (y ∷ xs) ys zero x h = h
get_left (y ∷ xs) ys (suc i) x h = get_left xs ys i x h

get_right : {A : Type 0} (xs ys : List A) (i : ℕ) → slice_get (xs ++ ys) (length xs + i) ≡ slice_get ys i
get_right [] ys i = let e : 0 + i ≡ i = omega arith in ap (slice_get ys) e
get_right (x ∷ xs) ys i = let e : suc (length xs) + i ≡ suc (length xs + i) = omega arith in ap (slice_get (x ∷ (xs ++ ys))) e ∙ get_right xs ys i

get_before : {A : Type 0} (xs ys : List A) (i : ℕ) → i < length xs → slice_get (xs ++ ys) i ≡ slice_get xs i
get_before [] ys i h = absurd (omega arith)
get_before (x ∷ xs) ys zero h = refl
get_before (x ∷ xs) ys (suc i) h = get_before xs ys i (omega arith)

get_taken : {A : Type 0} (xs : List A) (i n : ℕ) (x : A) → i < n → slice_get xs i ≡ Some x → slice_get (take n xs) i ≡ Some x
get_taken xs i zero x l h = absurd (omega arith)
get_taken [] i (suc n) x l h = absurd cc
get_taken (y ∷ xs) zero (suc n) x l h = h
get_taken (y ∷ xs) (suc i) (suc n) x l h = get_taken xs i n x (omega arith) h

get_there : {A : Type 0} (xs : List A) (i : ℕ) → i < length xs → (x : A) × (slice_get xs i ≡ Some x)
get_there [] i h = absurd (omega arith)
get_there (x ∷ xs) zero h = (x, refl)
get_there (x ∷ xs) (suc i) h = get_there xs i (omega arith)

new_at : (w v : Wire) (ws : List Wire) (k : ℕ) → IsNew w ws → slice_get ws k ≡ Some v → w ≡ v → ⊥
new_at w v [] k new h e = absurd cc
new_at w v (u ∷ ws) zero new h e = let f : u ≡ v = cc in new.0 (e ∙ sym f)
new_at w v (u ∷ ws) (suc k) new h e = new_at w v ws k new.1 h e

-- distinct wires stand once
once : (ws : List Wire) → AreDistinct ws → (i j : ℕ) (w : Wire) → slice_get ws i ≡ Some w → slice_get ws j ≡ Some w → i ≡ j
once [] d i j w h k = absurd cc
once (v ∷ ws) d zero zero w h k = refl
once (v ∷ ws) d zero (suc j) w h k = let e : v ≡ w = cc in absurd (new_at v w ws j d.0 k e)
once (v ∷ ws) d (suc i) zero w h k = let e : v ≡ w = cc in absurd (new_at v w ws i d.0 h e)
once (v ∷ ws) d (suc i) (suc j) w h k = ap suc (once ws d.1 i j w h k)

member_at : (w : Wire) (ws : List Wire) (k : ℕ) → slice_get ws k ≡ Some w → member w ws ≡ true
member_at w [] k h = absurd cc
member_at w (v ∷ ws) zero h = let e : v ≡ w = cc in subst (λ (u : Wire). member w (u ∷ ws) ≡ true) (sym e) (member_here w ws)
member_at w (v ∷ ws) (suc k) h = member_later v w ws (member_at w ws k h)

member_by : (w v : Wire) (ws : List Wire) → (member w ws ≡ true → At ws w) → (v ≡ w) ⊎ (member w ws ≡ true) → At (v ∷ ws) w
member_by w v ws rest (inl e) = record { place = 0; there = ap Some e }
member_by w v ws rest (inr m) = let a = rest m in record { place = suc a.place; there = a.there }

at_member : (w : Wire) (ws : List Wire) → member w ws ≡ true → At ws w
at_member w [] h = absurd cc
at_member w (v ∷ ws) h = member_by w v ws (at_member w ws) (member_cases v w ws h)

-- some wire of the list is an earlier one
abbrev any_in : List Wire → List Wire → Bool
any_in earlier ws = list_any (λ w. member w earlier) ws

pub record Meets (earlier ws : List Wire) : Type 0 where
  pub wire : Wire
  pub early : At earlier wire
  pub here : At ws wire

any_by : (earlier : List Wire) (w : Wire) (ws : List Wire) → (any_in earlier ws ≡ true → Meets earlier ws) → (member w earlier ≡ true) ⊎ (any_in earlier ws ≡ true) → Meets earlier (w ∷ ws)
any_by earlier w ws rest (inl m) = record { wire = w; early = at_member w earlier m; here = record { place = 0; there = refl } }
any_by earlier w ws rest (inr a) = let r = rest a in record { wire = r.wire; early = r.early; here = record { place = suc r.here.place; there = r.here.there } }

any_meets : (earlier ws : List Wire) → any_in earlier ws ≡ true → Meets earlier ws
any_meets earlier [] h = absurd cc
any_meets earlier (w ∷ ws) h = any_by earlier w ws (any_meets earlier ws) (or_cases (member w earlier) (any_in earlier ws) h)

or_first : (s t : Bool) → s ≡ true → (s || t) ≡ true
or_first true t h = refl
or_first false t h = absurd cc

or_second : (s t : Bool) → t ≡ true → (s || t) ≡ true
or_second true t h = refl
or_second false t h = h

meets_any : (earlier ws : List Wire) (k : ℕ) (w : Wire) → slice_get ws k ≡ Some w → member w earlier ≡ true → any_in earlier ws ≡ true
meets_any earlier [] k w h m = absurd cc
meets_any earlier (v ∷ ws) zero w h m =
    let e : v ≡ w = cc in
    or_first (member v earlier) (any_in earlier ws) (subst (λ (u : Wire). member u earlier ≡ true) (sym e) m)
meets_any earlier (v ∷ ws) (suc k) w h m = or_second (member v earlier) (any_in earlier ws) (meets_any earlier ws k w h m)

-- ---- arguments

prefix_distinct : (xs ys : List Wire) → AreDistinct (xs ++ ys) → AreDistinct xs
prefix_distinct [] ys d = tt
prefix_distinct (x ∷ xs) ys d = (new xs d.0, prefix_distinct xs ys d.1)
  where
    new : (zs : List Wire) → IsNew x (zs ++ ys) → IsNew x zs
    new [] n = tt
    new (z ∷ zs) n = (n.0, new zs n.1)

apart : (earlier ws rest : List Wire) → AreDistinct (earlier ++ (ws ++ rest)) → any_in earlier ws ≡ false
apart earlier ws rest d = by (any_in earlier ws) refl
  where
    by : (b : Bool) → any_in earlier ws ≡ b → any_in earlier ws ≡ false
    by false is = is
    by true is =
        let m = any_meets earlier ws is in
        let left : slice_get (earlier ++ (ws ++ rest)) m.early.place ≡ Some m.wire = get_left earlier (ws ++ rest) m.early.place m.wire m.early.there in
        let right : slice_get (earlier ++ (ws ++ rest)) (length earlier + m.here.place) ≡ Some m.wire =
        get_right earlier (ws ++ rest) m.here.place ∙ get_left ws rest m.here.place m.wire m.here.there in
        let low : m.early.place < length earlier = get_below earlier m.early.place m.wire m.early.there in
        let same = once (earlier ++ (ws ++ rest)) d m.early.place (length earlier + m.here.place) m.wire left right in
        absurd (omega arith)

if_false : {A : Type 0} (b : Bool) (x y : A) → b ≡ false → cond b x y ≡ y
if_false true x y h = absurd cc
if_false false x y h = refl

if_true : {A : Type 0} (b : Bool) (x y : A) → b ≡ true → cond b x y ≡ x
if_true true x y h = refl
if_true false x y h = absurd cc

-- where all wires are distinct, no argument repeats one
pub all_apart : (ps : List Passed) (earlier : List Wire) → AreDistinct (earlier ++ wires_of ps) → distinct_after earlier ps ≡ Ok tt
all_apart [] earlier d = refl
all_apart (p ∷ ps) earlier d =
    let e : earlier ++ (p.wires ++ wires_of ps) ≡ (earlier ++ p.wires) ++ wires_of ps = sym (append_assoc earlier p.wires (wires_of ps)) in
    if_false (any_in earlier p.wires) (Err (Repeated p.at)) (distinct_after (earlier ++ p.wires) ps) (apart earlier p.wires (wires_of ps) d)
    ∙ all_apart ps (earlier ++ p.wires) (subst AreDistinct e d)

-- the argument that holds a position repeats a wire
pub record RepeatsAt (earlier : List Wire) (ps : List Passed) (i : ℕ) : Type 0 where
  pub at : Place
  pub holds : holder ps i ≡ Some at
  pub fails : distinct_after earlier ps ≡ Err (Repeated at)

lt_is : (a b : ℕ) → a < b → nat_lt a b ≡ true
lt_is a b h = grind (arith, nat_tests)

ge_is : (a b : ℕ) → b ≤ a → nat_lt a b ≡ false
ge_is a b h = grind (arith, nat_tests)

here_repeats : (p : Passed) (ps : List Passed) (earlier : List Wire) (k : ℕ) → any_in earlier p.wires ≡ true → k < length p.wires → RepeatsAt earlier (p ∷ ps) k
here_repeats p ps earlier k is l = record {
  at = p.at;
  holds = if_true (nat_lt k (length p.wires)) (Some p.at) (holder ps (k - length p.wires)) (lt_is k (length p.wires) l);
  fails = if_true (any_in earlier p.wires) (Err (Repeated p.at)) (distinct_after (earlier ++ p.wires) ps) is;
}

later_repeats : (p : Passed) (ps : List Passed) (earlier : List Wire) (k : ℕ) → any_in earlier p.wires ≡ false → length p.wires ≤ k
    → RepeatsAt (earlier ++ p.wires) ps (k - length p.wires) → RepeatsAt earlier (p ∷ ps) k
later_repeats p ps earlier k is l r = record {
  at = r.at;
  holds = if_false (nat_lt k (length p.wires)) (Some p.at) (holder ps (k - length p.wires)) (ge_is k (length p.wires) l) ∙ r.holds;
  fails = if_false (any_in earlier p.wires) (Err (Repeated p.at)) (distinct_after (earlier ++ p.wires) ps) is ∙ r.fails;
}

-- the first repeated position lies in p's wires where one of them is an earlier one
not_later : (earlier ws rest : List Wire) (k : ℕ) → AreDistinct (take (length earlier + k) (earlier ++ (ws ++ rest))) → any_in earlier ws ≡ true → k < length ws
not_later earlier ws rest k d is =
    let m = any_meets earlier ws is in
    let low : m.early.place < length earlier = get_below earlier m.early.place m.wire m.early.there in
    let within : m.here.place < length ws = get_below ws m.here.place m.wire m.here.there in
    let left : slice_get (earlier ++ (ws ++ rest)) m.early.place ≡ Some m.wire = get_left earlier (ws ++ rest) m.early.place m.wire m.early.there in
    let right : slice_get (earlier ++ (ws ++ rest)) (length earlier + m.here.place) ≡ Some m.wire =
    get_right earlier (ws ++ rest) m.here.place ∙ get_left ws rest m.here.place m.wire m.here.there in
    by m.early.place m.here.place m.wire low within left right (cases_lt m.here.place k)
  where
    by : (a b : ℕ) (w : Wire) → a < length earlier → b < length ws → slice_get (earlier ++ (ws ++ rest)) a ≡ Some w → slice_get (earlier ++ (ws ++ rest)) (length earlier + b) ≡ Some w
        → (b < k) ⊎ (k ≤ b) → k < length ws
    by a b w low within left right (inl l) =
        let same = once (take (length earlier + k) (earlier ++ (ws ++ rest))) d a (length earlier + b) w
        (get_taken (earlier ++ (ws ++ rest)) a (length earlier + k) w (omega arith) left)
        (get_taken (earlier ++ (ws ++ rest)) (length earlier + b) (length earlier + k) w (omega arith) right) in
        absurd (omega arith)
    by a b w low within left right (inr l) = omega arith

-- and it lies past them where none is
not_here : (earlier ws rest : List Wire) (k : ℕ) → AreDistinct ws → StandsEarlier (earlier ++ (ws ++ rest)) (length earlier + k) → any_in earlier ws ≡ false → length ws ≤ k
not_here earlier ws rest k own (j, before, within, same) is = by (cases_lt k (length ws))
  where
    here : (w : Wire) → slice_get ws k ≡ Some w → slice_get (earlier ++ (ws ++ rest)) j ≡ Some w → (j < length earlier) ⊎ (length earlier ≤ j) → ⊥
    here w h e (inl l) =
        let m : member w earlier ≡ true = member_at w earlier j (sym (get_before earlier (ws ++ rest) j l) ∙ e) in
        true≢false (sym (meets_any earlier ws k w h m) ∙ is)
    here w h e (inr l) =
        let n : ℕ = j - length earlier in
        let at : j ≡ length earlier + n = omega arith in
        let less : n < length ws = let b : k < length ws = get_below ws k w h in omega arith in
        let f : slice_get ws n ≡ Some w =
        sym (get_before ws rest n less) ∙ sym (get_right earlier (ws ++ rest) n) ∙ ap (slice_get (earlier ++ (ws ++ rest))) (sym at) ∙ e in
        let q = once ws own n k w f h in
        omega arith

    by : (k < length ws) ⊎ (length ws ≤ k) → length ws ≤ k
    by (inr l) = l
    by (inl l) =
        let g = get_there ws k l in
        let up : slice_get (earlier ++ (ws ++ rest)) (length earlier + k) ≡ Some g.0 = get_right earlier (ws ++ rest) k ∙ get_before ws rest k l ∙ g.1 in
        absurd (here g.0 g.1 (same ∙ up) (cases_lt j (length earlier)))

-- what is said of the arguments after one
abbrev pub Repeats : List Passed → Type 0
Repeats ps =
    (earlier : List Wire) (k : ℕ) → EachDistinct ps → AreDistinct (take (length earlier + k) (earlier ++ wires_of ps))
    → StandsEarlier (earlier ++ wires_of ps) (length earlier + k) → RepeatsAt earlier ps k

repeated_by : (p : Passed) (ps : List Passed) (earlier : List Wire) (k : ℕ) → Repeats ps → EachDistinct (p ∷ ps)
    → AreDistinct (take (length earlier + k) (earlier ++ (p.wires ++ wires_of ps))) → StandsEarlier (earlier ++ (p.wires ++ wires_of ps)) (length earlier + k)
    → (b : Bool) → any_in earlier p.wires ≡ b → RepeatsAt earlier (p ∷ ps) k
repeated_by p ps earlier k rest own d stands true is = here_repeats p ps earlier k is (not_later earlier p.wires (wires_of ps) k d is)
repeated_by p ps earlier k rest own d stands false is =
    let past : length p.wires ≤ k = not_here earlier p.wires (wires_of ps) k own.0 stands is in
    let e : earlier ++ (p.wires ++ wires_of ps) ≡ (earlier ++ p.wires) ++ wires_of ps = sym (append_assoc earlier p.wires (wires_of ps)) in
    let n : length (earlier ++ p.wires) ≡ length earlier + length p.wires = length-append earlier p.wires in
    let at : length earlier + k ≡ length (earlier ++ p.wires) + (k - length p.wires) = omega arith in
    later_repeats p ps earlier k is past
    (rest (earlier ++ p.wires) (k - length p.wires) own.1
    (subst (λ (ws : List Wire). AreDistinct (take (length (earlier ++ p.wires) + (k - length p.wires)) ws)) e
    (subst (λ (n : ℕ). AreDistinct (take n (earlier ++ (p.wires ++ wires_of ps)))) at d))
    (subst (λ (ws : List Wire). StandsEarlier ws (length (earlier ++ p.wires) + (k - length p.wires))) e
    (subst (λ (n : ℕ). StandsEarlier (earlier ++ (p.wires ++ wires_of ps)) n) at stands)))

pub repeated : (ps : List Passed) → Repeats ps
repeated [] earlier k own d (j, before, within, same) =
    let n : length (earlier ++ []) ≡ length earlier = ap length (append-nil earlier) in
    absurd (omega arith)
repeated (p ∷ ps) earlier k own d stands = repeated_by p ps earlier k (repeated ps) own d stands (any_in earlier p.wires) refl

-- ---- evaluated arguments

-- the wires of each evaluated argument are distinct
pub each_span : (es : List Evaluated) → EachDistinct (all_passed es)
each_span [] = tt
each_span (e ∷ es) = (distinct_span e.span.class e.span.first e.span.len, each_span es)

-- the first repeated position of all wires
pub repeated_first : (es : List Evaluated) (k : ℕ) → AreDistinct (take k (wires_of (all_passed es))) → StandsEarlier (wires_of (all_passed es)) k → RepeatsAt [] (all_passed es) k
repeated_first es k d stands =
    let e : k ≡ 0 + k = omega arith in
    repeated (all_passed es) [] k (each_span es)
    (subst (λ (n : ℕ). AreDistinct (take n (wires_of (all_passed es)))) e d)
    (subst (λ (n : ℕ). StandsEarlier (wires_of (all_passed es)) n) e stands)
