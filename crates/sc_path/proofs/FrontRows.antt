-- Entries through a gate.
use Rattle.std.proofs.Common.{◌≡◌, ℕ, zero, suc, ◌+◌, ◌-◌, ◌<◌, ◌≤◌, List, [], ◌∷◌, ◌++◌, length, take, get_or, set, Bool, true, false, Option, Some, None, ◌⊎◌, inl, inr, refl, sym, ap, ◌∙◌, subst, arith, eqb-true, eq-eqb, All}
use Rattle.std.specs.Prelude.{nat_eq, max, slice_index, if◌then◌else◌, ◌||◌}
use Rattle.std.proofs.lemmas.List.{take_more, get_or-set_same, get_or-set_other}
use Rattle.std.proofs.lemmas.Bool.{cases_lt}
use Rattle.sc_gate.specs.Chains.{more, when, or_zero}
use Rattle.sc_gate.proofs.PathCalls.{more_assoc}
use Rattle.sc_path.specs.declared.row.Entry.{Entry}
use Rattle.sc_path.specs.declared.fault.PathFault.{PathFault}
use Rattle.sc_path.specs.declared.fault.PathFault.TheVariants.{CountTooLarge, Memory}
use Rattle.sc_path.specs.Rows.{same_start, look, row_at, shifted, Heavy, WhyHeavy, place}
use Rattle.sc_path.specs.Fronts.{stands_in, over_rows, put_at, through, WhyThrough}
use Rattle.sc_path.proofs.Rows.{same_start-refl, same_start-true, more_none, look_append}

or_right : (s t : Bool) → t ≡ true → (s || t) ≡ true
or_right true t h = refl
or_right false t h = h

or_cases : (s t : Bool) → (s || t) ≡ true → (s ≡ true) ⊎ (t ≡ true)
or_cases true t h = inl refl
or_cases false t h = inr h

pub in_here : (w : ℕ) (ws : List ℕ) → stands_in w (w ∷ ws) ≡ true
in_here w ws = ap (λ (t : Bool). t || stands_in w ws) (eq-eqb w w refl)

pub in_later : (v w : ℕ) (ws : List ℕ) → stands_in w ws ≡ true → stands_in w (v ∷ ws) ≡ true
in_later v w ws h = or_right (nat_eq v w) (stands_in w ws) h

first_or_later : (v w : ℕ) (ws : List ℕ) → (nat_eq v w ≡ true) ⊎ (stands_in w ws ≡ true) → (v ≡ w) ⊎ (stands_in w ws ≡ true)
first_or_later v w ws (inl h) = inl (eqb-true v w h)
first_or_later v w ws (inr h) = inr h

pub in_cases : (v w : ℕ) (ws : List ℕ) → stands_in w (v ∷ ws) ≡ true → (v ≡ w) ⊎ (stands_in w ws ≡ true)
in_cases v w ws h = first_or_later v w ws (or_cases (nat_eq v w) (stands_in w ws) h)

pub over_one : (f : ℕ → Option ℕ) (vs : List ℕ) (v : ℕ) → over_rows (vs ++ v ∷ []) f ≡ more (over_rows vs f) (f v)
over_one f [] v = more_none (f v)
over_one f (x ∷ vs) v = ap (more (f x)) (over_one f vs v) ∙ sym (more_assoc (f x) (over_rows vs f) (f v))

pub in_get : (xs : List ℕ) (k d : ℕ) → k < length xs → stands_in (get_or xs k d) xs ≡ true
in_get [] k d h = absurd (omega arith)
in_get (x ∷ xs) zero d h = in_here x xs
in_get (x ∷ xs) (suc k) d h = in_later x (get_or xs k d) xs (in_get xs k d (omega arith))

pub through_more : (rows : List (List Entry)) (weight : ℕ) (wires : List ℕ) (k : ℕ) (es next : List Entry) (s : Option ℕ) (now : Option ℕ) → k < length wires → es ≡ row_at rows (get_or wires k 0) →
    now ≡ through rows weight (take k wires) s → look next s ≡ more now (shifted es weight s) →
    look next s ≡ through rows weight (take (k + 1) wires) s
through_more rows weight wires k es next s now h l e f =
    f ∙ ap (λ (o : Option ℕ). more o (shifted es weight s)) e
    ∙ ap (λ (es : List Entry). more (through rows weight (take k wires) s) (shifted es weight s)) l
    ∙ sym (over_one (λ v. shifted (row_at rows v) weight s) (take k wires) (get_or wires k 0))
    ∙ ap (λ (vs : List ℕ). through rows weight vs s) (sym (take_more wires k 0 h))

pub why_through : (rows : List (List Entry)) (wires : List ℕ) (weight k : ℕ) (es : List Entry) (fault : PathFault) → k < length wires → es ≡ row_at rows (get_or wires k 0) →
    WhyHeavy es weight fault → WhyThrough rows wires weight fault
why_through rows wires weight k es Memory h l w = tt
why_through rows wires weight k es CountTooLarge h l w = record {
  wire = get_or wires k 0;
  here = in_get wires k 0 h;
  heavy = subst (λ (es : List Entry). Heavy es weight) l w;
}

bounds_here : (t : Bool) (a : ℕ) (o : Option ℕ) → t ≡ true → more (when t (Some a)) o ≡ None → ⊥
bounds_here true a None e h = cc
bounds_here true a (Some b) e h = cc
bounds_here false a o e h = cc

none_right : (a b : Option ℕ) → more a b ≡ None → b ≡ None
none_right None b h = h
none_right (Some a) None h = refl
none_right (Some a) (Some b) h = cc

look_start : (es : List Entry) (k : ℕ) (d : Entry) → k < length es → look es (get_or es k d).start ≡ None → ⊥
look_start [] k d h e = absurd (omega arith)
look_start (x ∷ es) zero d h e = bounds_here (same_start x.start x.start) x.weight (look es x.start) (same_start-refl x.start) e
look_start (x ∷ es) (suc k) d h e = look_start es k d (omega arith) (none_right (when (same_start x.start (get_or es k d).start) (Some x.weight)) (look es (get_or es k d).start) e)

start_by : (es : List Entry) (n k : ℕ) (d : Entry) → ((s : Option ℕ) → n ≤ place s → look es s ≡ None) → k < length es → (place (get_or es k d).start < n) ⊎ (n ≤ place (get_or es k d).start) → place (get_or es k d).start < n
start_by es n k d f h (inl l) = l
start_by es n k d f h (inr l) = absurd (look_start es k d h (f (get_or es k d).start l))

-- an entry's start has a place
pub start_below : (es : List Entry) (n k : ℕ) (d : Entry) → ((s : Option ℕ) → n ≤ place s → look es s ≡ None) → k < length es → place (get_or es k d).start < n
start_below es n k d f h = start_by es n k d f h (cases_lt (place (get_or es k d).start) n)

pub place_one : (a b : Option ℕ) → place a ≡ place b → a ≡ b
place_one None None e = refl
place_one None (Some v) e = absurd (omega arith)
place_one (Some u) None e = absurd (omega arith)
place_one (Some u) (Some v) e = let q : u ≡ v = omega arith in ap Some q

pub or_zero_more : (a b : Option ℕ) → or_zero (more a b) ≡ max (or_zero a) (or_zero b)
or_zero_more None b = omega arith
or_zero_more (Some a) None = omega arith
or_zero_more (Some a) (Some b) = refl

raised_by : (t : Bool) (now first next w : ℕ) (o : Option ℕ) → (t ≡ true → next ≡ max now w) → (t ≡ false → next ≡ now) → now ≡ max first (or_zero o) → next ≡ max first (or_zero (more o (when t (Some w))))
raised_by true now first next w o f g h = let e = f refl in let k = or_zero_more o (Some w) in omega arith
raised_by false now first next w o f g h = g refl ∙ h ∙ ap (λ (x : Option ℕ). max first (or_zero x)) (sym (more_none o))

pub raised_more : (now first : List ℕ) (es : List Entry) (k : ℕ) (d : Entry) (s : Option ℕ) → k < length es → place (get_or es k d).start < length now →
    slice_index now (place s) ≡ max (slice_index first (place s)) (or_zero (look (take k es) s)) →
    slice_index (set now (place (get_or es k d).start) (max (slice_index now (place (get_or es k d).start)) (get_or es k d).weight)) (place s) ≡ max (slice_index first (place s)) (or_zero (look (take (k + 1) es) s))
raised_more now first es k d s h l e =
    let x : Option ℕ = (get_or es k d).start in
    let n : ℕ = max (slice_index now (place (get_or es k d).start)) (get_or es k d).weight in
    raised_by (same_start (get_or es k d).start s) (slice_index now (place s)) (slice_index first (place s)) (slice_index (set now (place (get_or es k d).start) n) (place s)) (get_or es k d).weight (look (take k es) s)
    (λ t. let q : place (get_or es k d).start ≡ place s = ap place (same_start-true (get_or es k d).start s t) in
    let r : slice_index (set now (place (get_or es k d).start) n) (place (get_or es k d).start) ≡ n = get_or-set_same now (place (get_or es k d).start) n 0 l in
    subst (λ (z : ℕ). slice_index (set now (place (get_or es k d).start) n) z ≡ max (slice_index now z) (get_or es k d).weight) q r)
    (λ t. get_or-set_other now (place (get_or es k d).start) (place s) n 0 (λ q. let r : same_start (get_or es k d).start s ≡ true = subst (λ (z : Option ℕ). same_start (get_or es k d).start z ≡ true) (place_one (get_or es k d).start s (sym q)) (same_start-refl (get_or es k d).start) in cc)) e
    ∙ ap (λ (o : Option ℕ). max (slice_index first (place s)) (or_zero (more (look (take k es) s) o))) (sym (more_none (when (same_start (get_or es k d).start s) (Some (get_or es k d).weight))))
    ∙ ap (λ (o : Option ℕ). max (slice_index first (place s)) (or_zero o)) (sym (look_append (take k es) (get_or es k d ∷ []) s))
    ∙ ap (λ (l : List Entry). max (slice_index first (place s)) (or_zero (look l s))) (sym (take_more es k d h))

or_last : (t u : Bool) → (t || (u || false)) ≡ (if u then true else t)
or_last true true = refl
or_last true false = refl
or_last false true = refl
or_last false false = refl

or_if : (t u v : Bool) → (t || (if u then true else v)) ≡ (if u then true else (t || v))
or_if true true v = refl
or_if true false v = refl
or_if false u v = refl

pub in_one : (w v : ℕ) (xs : List ℕ) → stands_in w (xs ++ v ∷ []) ≡ (if nat_eq v w then true else stands_in w xs)
in_one w v [] = or_last false (nat_eq v w)
in_one w v (x ∷ xs) = ap (λ (t : Bool). nat_eq x w || t) (in_one w v xs) ∙ or_if (nat_eq x w) (nat_eq v w) (stands_in w xs)

pub row_set : (rows : List (List Entry)) (v : ℕ) (r : List Entry) → v < length rows → row_at (set rows v r) v ≡ r
row_set rows v r h = get_or-set_same rows v r [] h

pub row_other : (rows : List (List Entry)) (v w : ℕ) (r : List Entry) → (v ≡ w → ⊥) → row_at (set rows v r) w ≡ row_at rows w
row_other rows v w r h = get_or-set_other rows v w r [] (λ e. h (sym e))

put_by : (t u : Bool) (next now first row : Option ℕ) → (u ≡ true → next ≡ row) → (u ≡ false → next ≡ now) → now ≡ (if t then row else first) → next ≡ (if (if u then true else t) then row else first)
put_by t true next now first row f g h = f refl
put_by t false next now first row f g h = g refl ∙ h

pub put_more : (first now : List (List Entry)) (wires : List ℕ) (row : List Entry) (k : ℕ) (r : List Entry) (w : ℕ) (s : Option ℕ) → k < length wires → get_or wires k 0 < length now → r ≡ row →
    look (row_at now w) s ≡ put_at first (take k wires) row w s →
    look (row_at (set now (get_or wires k 0) r) w) s ≡ put_at first (take (k + 1) wires) row w s
put_more first now wires row k r w s h l e i =
    put_by (stands_in w (take k wires)) (nat_eq (get_or wires k 0) w) (look (row_at (set now (get_or wires k 0) r) w) s) (look (row_at now w) s) (look (row_at first w) s) (look row s)
    (λ t. let q : get_or wires k 0 ≡ w = eqb-true (get_or wires k 0) w t in
    ap (λ (z : ℕ). look (row_at (set now (get_or wires k 0) r) z) s) (sym q) ∙ ap (λ (x : List Entry). look x s) (row_set now (get_or wires k 0) r l ∙ e))
    (λ t. ap (λ (x : List Entry). look x s) (row_other now (get_or wires k 0) w r (λ q. let y : nat_eq (get_or wires k 0) w ≡ true = eq-eqb (get_or wires k 0) w q in cc))) i
    ∙ ap (λ (t : Bool). if t then look row s else look (row_at first w) s) (sym (in_one w (get_or wires k 0) (take k wires)))
    ∙ ap (λ (vs : List ℕ). put_at first vs row w s) (sym (take_more wires k 0 h))

-- every entry's start has a place, where no start past the last one has an entry
pub all_below : (es : List Entry) (n : ℕ) → ((s : Option ℕ) → n ≤ place s → look es s ≡ None) → All (λ e. place e.start < n) es
all_below es n f = λ k d h. start_below es n k d f h

-- the row itself is put at the last wire
pub put_last : (first now : List (List Entry)) (wires : List ℕ) (row : List Entry) (w : ℕ) (s : Option ℕ) → 0 < length wires → get_or wires (length wires - 1) 0 < length now →
    look (row_at now w) s ≡ put_at first (take (length wires - 1) wires) row w s → look (row_at (set now (get_or wires (length wires - 1) 0) row) w) s ≡ put_at first wires row w s
put_last first now wires row w s some l i =
    let h : length wires - 1 < length wires = omega arith in
    let e : length wires - 1 + 1 ≡ length wires = omega arith in
    put_more first now wires row (length wires - 1) row w s h l refl i
    ∙ ap (λ (k : ℕ). put_at first (take k wires) row w s) e ∙ ap (λ (vs : List ℕ). put_at first vs row w s) (take_all wires)
  where
    take_all : (ws : List ℕ) → take (length ws) ws ≡ ws
    take_all [] = refl
    take_all (w ∷ ws) = ap (λ (x : List ℕ). w ∷ x) (take_all ws)
