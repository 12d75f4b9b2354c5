-- The rows after one more gate.
use Rattle.std.proofs.Common.{◌≡◌, ℕ, suc, ◌^◌, ◌<◌, ◌≤◌, List, [], ◌∷◌, ◌++◌, map, length, get_or, take, drop, Bool, true, false, Option, Some, None, Result, Ok, Err, Vec, Global, ◌⊎◌, inl, inr, refl, sym, ap, ◌∙◌, subst, arith, All}
use Rattle.std.specs.Prelude.{max, slice_index, OnOk, if◌then◌else◌}
use Rattle.std.specs.Vec.{with_items}
use Rattle.std.proofs.lemmas.Bool.{cases_lt}
use Rattle.std.proofs.Math.Seq.{take-append_seam}
use Rattle.sc_gate.specs.declared.gate.Wire.{Wire}
use Rattle.sc_gate.specs.Chains.{Timed, more, plus, over, or_zero, best, Bounds, Reached}
use Rattle.sc_gate.specs.Paths.{star}
use Rattle.sc_gate.specs.Wires.{member}
use Rattle.sc_gate.proofs.Weighs.{Weighs, greatest_weighs}
use Rattle.sc_gate.proofs.WireLemmas.{member_here, member_later, member_cases}
use Rattle.sc_gate.proofs.OneMoreGate.{star_here, star_away, best_last}
use Rattle.sc_gate.proofs.PathCalls.{from_any}
use Rattle.sc_path.specs.declared.row.Entry.{Entry}
use Rattle.sc_path.specs.declared.fault.PathFault.{PathFault}
use Rattle.sc_path.specs.declared.fault.PathFault.TheVariants.{CountTooLarge, Memory}
use Rattle.sc_path.specs.Rows.{look, row_at, shifted, Passes, place}
use Rattle.sc_path.specs.Fronts.{stands_in, over_rows, Sites, from_of, Bounded, Stands, gate_at, through, put_at, WhyThrough, WhyGate}
use Rattle.sc_path.proofs.FrontRows.{in_here, in_later, in_cases, in_get, or_zero_more}

pub over_rows-map : (at : ℕ → Wire) (f : ℕ → Option ℕ) (g : Wire → Option ℕ) (vs : List ℕ) → ((v : ℕ) → stands_in v vs ≡ true → f v ≡ g (at v)) → over_rows vs f ≡ over (map at vs) g
over_rows-map at f g [] h = refl
over_rows-map at f g (x ∷ vs) h = ap (λ (o : Option ℕ). more o (over_rows vs f)) (h x (in_here x vs)) ∙ ap (more (g (at x))) (over_rows-map at f g vs (λ v k. h v (in_later x v vs k)))

over_none : (vs : List ℕ) (f : ℕ → Option ℕ) → ((v : ℕ) → f v ≡ None) → over_rows vs f ≡ None
over_none [] f h = refl
over_none (x ∷ vs) f h = ap (λ (o : Option ℕ). more o (over_rows vs f)) (h x) ∙ over_none vs f h

below_by : (n x v : ℕ) (vs : List ℕ) → x < n → (stands_in v vs ≡ true → v < n) → (x ≡ v) ⊎ (stands_in v vs ≡ true) → v < n
below_by n x v vs h f (inl e) = subst (λ (z : ℕ). z < n) e h
below_by n x v vs h f (inr k) = f k

pub in_below : (n : ℕ) (vs : List ℕ) (v : ℕ) → All (λ w. w < n) vs → stands_in v vs ≡ true → v < n
in_below n [] v a k = cc
in_below n (x ∷ vs) v a k = below_by n x v vs (a 0 0 (omega arith)) (in_below n vs v (λ i d h. a (suc i) d (omega arith))) (in_cases x v vs k)

member_by : (at : ℕ → Wire) (x v : ℕ) (vs : List ℕ) → (stands_in v vs ≡ true → member (at v) (map at vs) ≡ true) → (x ≡ v) ⊎ (stands_in v vs ≡ true) → member (at v) (map at (x ∷ vs)) ≡ true
member_by at x v vs f (inl e) = subst (λ (z : ℕ). member (at z) (map at (x ∷ vs)) ≡ true) e (member_here (at x) (map at vs))
member_by at x v vs f (inr k) = member_later (at x) (at v) (map at vs) (f k)

pub member_in : (at : ℕ → Wire) (vs : List ℕ) (v : ℕ) → stands_in v vs ≡ true → member (at v) (map at vs) ≡ true
member_in at [] v k = cc
member_in at (x ∷ vs) v k = member_by at x v vs (member_in at vs v) (in_cases x v vs k)

-- wires of rows are one wire only where the rows are one
abbrev pub Apart : (ℕ → Wire) → ℕ → Type 0
Apart at n = (a b : ℕ) → a < n → b < n → at a ≡ at b → a ≡ b

in_by : (at : ℕ → Wire) (n x v : ℕ) (vs : List ℕ) → Apart at n → x < n → v < n → (member (at v) (map at vs) ≡ true → stands_in v vs ≡ true) → (at x ≡ at v) ⊎ (member (at v) (map at vs) ≡ true) → stands_in v (x ∷ vs) ≡ true
in_by at n x v vs apart h k f (inl e) = subst (λ (z : ℕ). stands_in z (x ∷ vs) ≡ true) (apart x v h k e) (in_here x vs)
in_by at n x v vs apart h k f (inr m) = in_later x v vs (f m)

in_member : (at : ℕ → Wire) (n : ℕ) (vs : List ℕ) (v : ℕ) → Apart at n → All (λ w. w < n) vs → v < n → member (at v) (map at vs) ≡ true → stands_in v vs ≡ true
in_member at n [] v apart a k m = cc
in_member at n (x ∷ vs) v apart a k m = in_by at n x v vs apart (a 0 0 (omega arith)) k (in_member at n vs v apart (λ i d h. a (suc i) d (omega arith)) k) (member_cases (at x) (at v) (map at vs) m)

false_by : (t u : Bool) → (u ≡ true → t ≡ true) → t ≡ false → u ≡ false
false_by t true f h = sym (f refl) ∙ h
false_by t false f h = refl

pub not_member : (at : ℕ → Wire) (n : ℕ) (vs : List ℕ) (v : ℕ) → Apart at n → All (λ w. w < n) vs → v < n → stands_in v vs ≡ false → member (at v) (map at vs) ≡ false
not_member at n vs v apart a k h = false_by (stands_in v vs) (member (at v) (map at vs)) (in_member at n vs v apart a k) h

-- the entries through a gate are its law's
pub through_star : (gates : List Timed) (sites : Sites) (rows : List (List Entry)) (last : List ℕ) (weight : ℕ) (s : Option ℕ) (wires : List ℕ) → Stands gates sites rows last → All (λ w. w < length rows) wires → place s < length last →
    through rows weight wires s ≡ over (map sites.at wires) (λ v. plus (Some weight) (star gates (from_of sites s) v))
through_star gates sites rows last weight s wires st a h =
    over_rows-map sites.at (λ v. shifted (row_at rows v) weight s) (λ v. plus (Some weight) (star gates (from_of sites s) v)) wires
    (λ v k. ap (plus (Some weight)) (st.stars v s (in_below (length rows) wires v a k) h))

row_by : (t : Bool) (row old new star_new : Option ℕ) → new ≡ (if t then row else old) → (t ≡ true → row ≡ star_new) → (t ≡ false → old ≡ star_new) → new ≡ star_new
row_by true row old new a e f g = e ∙ f refl
row_by false row old new a e f g = e ∙ g refl

first_in : (at : ℕ → Wire) (wires : List ℕ) → 0 < length wires → member (at (get_or wires 0 0)) (map at wires) ≡ true
first_in at wires some = member_in at wires (get_or wires 0 0) (in_get wires 0 0 some)

pub stands_more : (gates : List Timed) (sites : Sites) (rows rows' : List (List Entry)) (last last' : List ℕ) (weight : ℕ) (wires : List ℕ) (row : List Entry) →
    All (λ w. w < length rows) wires → 0 < length wires →
    length rows' ≡ length rows → length last' ≡ length last →
    ((s : Option ℕ) → look row s ≡ through rows weight wires s) →
    ((w : ℕ) (s : Option ℕ) → look (row_at rows' w) s ≡ put_at rows wires row w s) →
    ((s : Option ℕ) → place s < length last → slice_index last' (place s) ≡ max (slice_index last (place s)) (or_zero (look row s))) →
    Stands gates sites rows last → Stands (gates ++ gate_at sites weight wires ∷ []) sites rows' last'
stands_more gates sites rows rows' last last' weight wires row a some rl ll sums put raised st =
    let g : Timed = gate_at sites weight wires in
    record {
      apart = λ x y h k e. let hx : x < length rows = omega arith in let hy : y < length rows = omega arith in st.apart x y hx hy e;
      stars = λ w s h k.
          let hw : w < length rows = omega arith in
          let hs : place s < length last = omega arith in
          row_by (stands_in w wires) (look row s) (look (row_at rows w) s) (look (row_at rows' w) s) (star (gates ++ gate_at sites weight wires ∷ []) (from_of sites s) (sites.at w))
          (put w s)
          (λ t. sums s ∙ through_star gates sites rows last weight s wires st a hs ∙ sym (star_here gates (gate_at sites weight wires) (from_of sites s) (sites.at w) (member_in sites.at wires w t)))
          (λ t. st.stars w s hw hs ∙ sym (star_away gates (gate_at sites weight wires) (from_of sites s) (sites.at w) (not_member sites.at (length rows) wires w st.apart a hw t)));
      lasts = λ s k.
          let hs : place s < length last = omega arith in
          raised s hs
          ∙ ap (λ (n : ℕ). max n (or_zero (look row s))) (st.lasts s hs)
          ∙ sym (or_zero_more (best gates (from_of sites s) None) (look row s))
          ∙ ap (λ (o : Option ℕ). or_zero (more (best gates (from_of sites s) None) o)) (sums s ∙ through_star gates sites rows last weight s wires st a hs)
          ∙ ap or_zero (sym (best_last gates (gate_at sites weight wires) (from_of sites s) (sites.at (get_or wires 0 0)) (first_in sites.at wires some)));
    }

bounded_by : (t : Bool) (row old new : Option ℕ) → new ≡ (if t then row else old) → row ≡ None → old ≡ None → new ≡ None
bounded_by true row old new e f g = e ∙ f
bounded_by false row old new e f g = e ∙ g

pub through_none : (rows : List (List Entry)) (n weight : ℕ) (wires : List ℕ) (s : Option ℕ) → Bounded rows n → n ≤ place s → through rows weight wires s ≡ None
through_none rows n weight wires s b h = over_none wires (λ v. shifted (row_at rows v) weight s) (λ v. ap (plus (Some weight)) (b.none v s h))

pub bounded_more : (rows rows' : List (List Entry)) (n n' weight : ℕ) (wires : List ℕ) (row : List Entry) → Bounded rows n → n' ≡ n →
    ((s : Option ℕ) → look row s ≡ through rows weight wires s) → ((w : ℕ) (s : Option ℕ) → look (row_at rows' w) s ≡ put_at rows wires row w s) → Bounded rows' n'
bounded_more rows rows' n n' weight wires row b e sums put = record {
  none = λ w s h. let k : n ≤ place s = omega arith in
      bounded_by (stands_in w wires) (look row s) (look (row_at rows w) s) (look (row_at rows' w) s) (put w s) (sums s ∙ through_none rows n weight wires s b k) (b.none w s k);
}

pub passes_more : (a b : Option ℕ) → Passes b → Passes (more a b)
passes_more None b h = h
passes_more (Some a) None h = absurd h
passes_more (Some a) (Some b) h = omega arith

pub passes_first : (a b : Option ℕ) → Passes a → Passes (more a b)
passes_first None b h = absurd h
passes_first (Some a) None h = h
passes_first (Some a) (Some b) h = omega arith

over_by : (f : Wire → Option ℕ) (x v : Wire) (vs : List Wire) → Passes (f v) → (member v vs ≡ true → Passes (over vs f)) → (x ≡ v) ⊎ (member v vs ≡ true) → Passes (more (f x) (over vs f))
over_by f x v vs h g (inl e) = passes_first (f x) (over vs f) (subst (λ (z : Wire). Passes (f z)) (sym e) h)
over_by f x v vs h g (inr k) = passes_more (f x) (over vs f) (g k)

pub passes_over : (f : Wire → Option ℕ) (vs : List Wire) (v : Wire) → member v vs ≡ true → Passes (f v) → Passes (over vs f)
passes_over f [] v k h = cc
passes_over f (x ∷ vs) v k h = over_by f x v vs h (λ m. passes_over f vs v m h) (member_cases x v vs k)

pub passes_bound : (a : Option ℕ) (n : ℕ) → 2 ^ 128 ≤ n → Bounds a n → Passes a
passes_bound None n h b = absurd b
passes_bound (Some a) n h b = omega arith

-- a chain that ends at a wire ends anywhere
to_any : (gates : List Timed) (to from : Option Wire) (n : ℕ) → Weighs gates from to n → Weighs gates from None n
to_any [] to from n h = h
to_any (g ∷ gates) to from n (inl h) = inl (to_any gates to from n h)
to_any (g ∷ gates) to from n (inr (s, inl h)) = inr (s, inl (refl, h.1))
to_any (g ∷ gates) to from n (inr (s, inr (v, m, k, h, e))) = inr (s, inr (v, m, k, to_any gates to (Some v) m h, e))

passes_all_by : (gates : List Timed) (from to : Option Wire) (o : Option ℕ) → Reached (Weighs gates from to) o → Passes o → Passes (best gates None None)
passes_all_by gates from to None r h = absurd h
passes_all_by gates from to (Some n) r h = passes_bound (best gates None None) n h ((greatest_weighs gates None None).bounds n (from_any gates from None n (to_any gates to from n r)))

-- a chain that is too heavy is one from anywhere to anywhere
pub passes_all : (gates : List Timed) (from to : Option Wire) → Passes (best gates from to) → Passes (best gates None None)
passes_all gates from to h = passes_all_by gates from to (best gates from to) (greatest_weighs gates to from).reached h

heavy_start : (rows : List (List Entry)) (n v weight : ℕ) (s : Option ℕ) → Bounded rows n → Passes (shifted (row_at rows v) weight s) → (place s < n) ⊎ (n ≤ place s) → place s < n
heavy_start rows n v weight s b p (inl h) = h
heavy_start rows n v weight s b p (inr h) = absurd (subst (λ (o : Option ℕ). Passes (plus (Some weight) o)) (b.none v s h) p)

pub why_gate : (rows : List (List Entry)) (last : List ℕ) (weight : ℕ) (wires : List ℕ) (fault : PathFault) → All (λ w. w < length rows) wires → Bounded rows (length last) →
    WhyThrough rows wires weight fault → WhyGate rows last weight wires fault
why_gate rows last weight wires Memory a b w = tt
why_gate rows last weight wires CountTooLarge a b w = λ gates sites st.
    let s = w.heavy.start in
    let hs : place s < length last = heavy_start rows (length last) w.wire weight s b w.heavy.passes (cases_lt (place s) (length last)) in
    let e = st.stars w.wire s (in_below (length rows) wires w.wire a w.here) hs in
    let p : Passes (plus (Some weight) (star gates (from_of sites s) (sites.at w.wire))) = subst (λ (o : Option ℕ). Passes (plus (Some weight) o)) e w.heavy.passes in
    let m = member_in sites.at wires w.wire w.here in
    passes_all (gates ++ gate_at sites weight wires ∷ []) (from_of sites s) None
    (subst (λ (o : Option ℕ). Passes o) (sym (best_last gates (gate_at sites weight wires) (from_of sites s) (sites.at w.wire) m))
    (passes_more (best gates (from_of sites s) None) (over (map sites.at wires) (λ v. plus (Some weight) (star gates (from_of sites s) v)))
    (passes_over (λ v. plus (Some weight) (star gates (from_of sites s) v)) (map sites.at wires) (sites.at w.wire) m p)))

pub items_with : {X : Type 0} (v : Vec X Global) (ws : List X) → length ws ≡ length v.items → (with_items v ws).items ≡ ws
items_with v ws h =
    let l : v.len ≡ length ws = v.ok.0 ∙ sym h in
    ap (λ (n : ℕ). take n (ws ++ drop (length ws) v.items)) l ∙ take-append_seam ws (drop (length ws) v.items)

pub on_ok : {A B : Type 0} (r : Result (Unit {0}) PathFault) → OnOk r A → (A → B) → OnOk r B
on_ok (Ok u) a f = f a
on_ok (Err e) a f = tt
