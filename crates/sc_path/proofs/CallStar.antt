-- The rows after a call, by the callee's table alone.
use Rattle.std.proofs.Common.{◌≡◌, ℕ, ◌+◌, ◌-◌, ◌<◌, ◌≤◌, List, [], ◌∷◌, ◌++◌, map, length, Bool, true, false, Option, Some, None, ◌⊎◌, inl, inr, refl, sym, ap, ◌∙◌, subst, arith, All}
use Rattle.std.specs.Prelude.{nat_lt, max, slice_index, if◌then◌else◌, ◌&&◌}
use Rattle.std.specs.Option.{option_map}
use Rattle.std.proofs.lemmas.Bool.{cases_lt}
use Rattle.sc_gate.specs.declared.gate.Wire.{Wire}
use Rattle.sc_gate.specs.Chains.{Timed, more, plus, when, over, best, or_zero}
use Rattle.sc_gate.specs.Paths.{star, MeetOnlyAt, IsAt, anywhere, call_adds}
use Rattle.sc_gate.specs.Renaming.{rename_timed}
use Rattle.sc_gate.specs.Wires.{member}
use Rattle.sc_gate.proofs.PathCalls.{best_call, star_call, best_fresh}
use Rattle.sc_gate.proofs.PathRename.{best_renamed}
use Rattle.sc_path.specs.declared.row.Entry.{Entry}
use Rattle.sc_path.specs.declared.fault.PathFault.{PathFault}
use Rattle.sc_path.specs.declared.fault.PathFault.TheVariants.{CountTooLarge, Memory}
use Rattle.sc_path.specs.Rows.{same_start, look, row_at, Passes, place}
use Rattle.sc_path.specs.Tables.{param, wire_of, within, row_for, IsTable}
use Rattle.sc_path.specs.Fronts.{stands_in, look_at, source, called, row_after, put_each, Sites, from_of, Bounded, Stands, Placed, WhyCall, WhyNoCall}
use Rattle.sc_path.proofs.FrontRows.{in_get, or_zero_more}
use Rattle.sc_path.proofs.Gate.{in_below, member_in, passes_more, passes_all}
use Rattle.sc_path.proofs.CallRows.{called_is}
use Rattle.sc_path.proofs.CallCode.{get_some, put_in, put_out, called_past}

-- a row of the callee's table is the greatest weights of the chains that end at `to`
pub record RowFor (es : List Entry) (k q : ℕ) (gates : List Timed) (to : Option Wire) : Type 0 where
  pub none : look es None ≡ best gates None to
  pub wires : (i : ℕ) → i < k → look es (Some i) ≡ best gates (Some (param q i)) to
  pub past : (i : ℕ) → k ≤ i → look es (Some i) ≡ None

pub lt_true : (v k : ℕ) → v < k → nat_lt v k ≡ true
lt_true v k h = grind (arith, h)

pub lt_false : (v k : ℕ) → k ≤ v → nat_lt v k ≡ false
lt_false v k h = grind (arith, h)

and_true : (t : Bool) → (t && true) ≡ t
and_true true = refl
and_true false = refl

module _ (gates : List Timed) (q k : ℕ) (table : List (List Entry)) (is : IsTable gates q k table) where
  row_of : (j : ℕ) → j < k → row_for table (Some j) ≡ row_at table j
  row_of j h = ap (λ (t : Bool). if t then row_at table j else []) (lt_true (j + 1) (length table) (let e = is.size in omega arith))

  last_of : row_for table None ≡ row_at table k
  last_of = let e = is.size in let q : length table - 1 ≡ k = omega arith in ap (row_at table) q

  answer : (es : List Entry) (to : Option ℕ) → within k to ≡ true → row_for table to ≡ es → RowFor es k q gates (wire_of q to)
  answer es to t e = record {
    none = ap (λ (x : List Entry). look x None) (sym e) ∙ is.answers None to ∙ ap (λ (b : Bool). when b (best gates None (wire_of q to))) t;
    wires = λ i h. ap (λ (x : List Entry). look x (Some i)) (sym e) ∙ is.answers (Some i) to ∙ ap (λ (b : Bool). when (nat_lt i k && b) (best gates (Some (param q i)) (wire_of q to))) t
        ∙ ap (λ (b : Bool). when (b && true) (best gates (Some (param q i)) (wire_of q to))) (lt_true i k h);
    past = λ i h. ap (λ (x : List Entry). look x (Some i)) (sym e) ∙ is.answers (Some i) to ∙ ap (λ (b : Bool). when (b && within k to) (best gates (Some (param q i)) (wire_of q to))) (lt_false i k h);
  }

  pub row_for_wire : (j : ℕ) → j < k → RowFor (row_at table j) k q gates (Some (param q j))
  row_for_wire j h = answer (row_at table j) (Some j) (lt_true j k h) (row_of j h)

  pub row_for_last : RowFor (row_at table k) k q gates None
  row_for_last = answer (row_at table k) None refl last_of

same_anywhere : (sites : Sites) (s : Option ℕ) → same_start None s ≡ anywhere (from_of sites s)
same_anywhere sites None = refl
same_anywhere sites (Some u) = refl

plus_zero : (t : Bool) (o : Option ℕ) → plus (when t (Some 0)) o ≡ when t o
plus_zero true None = refl
plus_zero true (Some b) = ap Some (omega arith)
plus_zero false o = refl

over_none : (ws : List Wire) (F : Wire → Option ℕ) → ((v : Wire) → F v ≡ None) → over ws F ≡ None
over_none [] F h = refl
over_none (v ∷ ws) F h = ap (λ (o : Option ℕ). more o (over ws F)) (h v) ∙ over_none ws F h

plus_right : (a : Option ℕ) → plus a None ≡ None
plus_right None = refl
plus_right (Some n) = refl

when_none : (t : Bool) → when t None ≡ None
when_none true = refl
when_none false = refl

more_right : (a : Option ℕ) → more a None ≡ a
more_right None = refl
more_right (Some n) = refl

module _ (gates callee : List Timed) (q : ℕ) (sites : Sites) (rows : List (List Entry)) (last wires : List ℕ) (st : Stands gates sites rows last) (placed : Placed gates callee sites (length rows) (length last) q wires) (below : All (λ w. w < length rows) wires) where
  ys : List Timed
  ys = map (rename_timed placed.rename) callee

  ws : List Wire
  ws = map sites.at wires

  Before : Wire → Type 0
  Before w = placed.own w ≡ false

  After : Wire → Type 0
  After w = ((i : ℕ) × (i < length wires) × (w ≡ sites.at (slice_index wires i))) ⊎ (placed.own w ≡ true)

  only : MeetOnlyAt (λ w. placed.own w ≡ false) (λ w. ((i : ℕ) × (i < length wires) × (w ≡ sites.at (slice_index wires i))) ⊎ (placed.own w ≡ true)) (map sites.at wires)
  only v b (inl p) = subst (λ (x : Wire). member x (map sites.at wires) ≡ true) (sym p.2) (member_in sites.at wires (slice_index wires p.0) (in_get wires p.0 0 p.1))
  only v b (inr o) = cc

  start_before : (s : Option ℕ) → place s < length last → IsAt (λ w. placed.own w ≡ false) (from_of sites s)
  start_before None h = tt
  start_before (Some u) h = placed.starts u h

  called_adds : (es : List Entry) (to : Option Wire) (s : Option ℕ) → place s < length last → RowFor es (length wires) q callee to →
      called (λ t. source rows wires t s) es ≡ call_adds gates (map (rename_timed placed.rename) callee) (map sites.at wires) (from_of sites s) (option_map placed.rename to)
  called_adds es to s h r =
      let f : Wire → Wire = placed.rename in
      called_is (λ t. source rows wires t s) es sites.at wires (when (anywhere (from_of sites s)) (Some 0)) (best (map (rename_timed placed.rename) callee) None (option_map placed.rename to))
      (λ v. star gates (from_of sites s) v) (λ v. best (map (rename_timed placed.rename) callee) (Some v) (option_map placed.rename to))
      (record {
        first = ap (λ (t : Bool). when t (Some 0)) (same_anywhere sites s);
        none = r.none ∙ sym (best_renamed placed.rename placed.one_to_one callee to None);
        starts = λ i k. ap (λ (o : Option ℕ). look_at rows o s) (get_some wires i k) ∙ st.stars (slice_index wires i) s (in_below (length rows) wires (slice_index wires i) below (in_get wires i 0 k)) h;
        wires = λ i k. r.wires i k ∙ sym (best_renamed placed.rename placed.one_to_one callee to (Some (param q i))) ∙ ap (λ (v : Wire). best (map (rename_timed placed.rename) callee) (Some v) (option_map placed.rename to)) (placed.params i k);
        past = r.past;
      })
      ∙ ap (λ (o : Option ℕ). more o (over (map sites.at wires) (λ v. plus (star gates (from_of sites s) v) (best (map (rename_timed placed.rename) callee) (Some v) (option_map placed.rename to)))))
      (plus_zero (anywhere (from_of sites s)) (best (map (rename_timed placed.rename) callee) None (option_map placed.rename to)))

  -- the row of the call's wire j after the call
  call_star : (es new : List Entry) (j : ℕ) (s : Option ℕ) → place s < length last → j < length wires → RowFor es (length wires) q callee (Some (param q j)) →
      look new s ≡ more (look (row_at rows (slice_index wires j)) s) (called (λ t. source rows wires t s) es) →
      look new s ≡ star (gates ++ map (rename_timed placed.rename) callee) (from_of sites s) (sites.at (slice_index wires j))
  call_star es new j s h k r n =
      n ∙ ap (λ (o : Option ℕ). more o (called (λ t. source rows wires t s) es)) (st.stars (slice_index wires j) s (in_below (length rows) wires (slice_index wires j) below (in_get wires j 0 k)) h)
      ∙ ap (more (star gates (from_of sites s) (sites.at (slice_index wires j)))) (called_adds es (Some (param q j)) s h r)
      ∙ ap (λ (v : Wire). more (star gates (from_of sites s) (sites.at (slice_index wires j))) (call_adds gates (map (rename_timed placed.rename) callee) (map sites.at wires) (from_of sites s) (Some v))) (placed.params j k)
      ∙ sym (star_call (λ w. placed.own w ≡ false) (λ w. ((i : ℕ) × (i < length wires) × (w ≡ sites.at (slice_index wires i))) ⊎ (placed.own w ≡ true)) gates (map (rename_timed placed.rename) callee) (map sites.at wires) (from_of sites s) (sites.at (slice_index wires j)) only (start_before s h) placed.before placed.after)

  -- a row that the call does not have
  not_after : (w : ℕ) → w < length rows → stands_in w wires ≡ false → ((i : ℕ) × (i < length wires) × (sites.at w ≡ sites.at (slice_index wires i))) ⊎ (placed.own (sites.at w) ≡ true) → ⊥
  not_after w h f (inl p) =
      let e : w ≡ slice_index wires p.0 = st.apart w (slice_index wires p.0) h (in_below (length rows) wires (slice_index wires p.0) below (in_get wires p.0 0 p.1)) p.2 in
      let t : stands_in w wires ≡ true = subst (λ (z : ℕ). stands_in z wires ≡ true) (sym e) (in_get wires p.0 0 p.1) in
      cc
  not_after w h f (inr o) = let n = placed.rows w h in cc

  call_aside : (w : ℕ) (s : Option ℕ) → place s < length last → w < length rows → stands_in w wires ≡ false → star (gates ++ map (rename_timed placed.rename) callee) (from_of sites s) (sites.at w) ≡ star gates (from_of sites s) (sites.at w)
  call_aside w s h k f =
      let none = λ (from : Option Wire). best_fresh (λ w. ((i : ℕ) × (i < length wires) × (w ≡ sites.at (slice_index wires i))) ⊎ (placed.own w ≡ true)) (map (rename_timed placed.rename) callee) from (sites.at w) placed.after (not_after w k f) in
      star_call (λ w. placed.own w ≡ false) (λ w. ((i : ℕ) × (i < length wires) × (w ≡ sites.at (slice_index wires i))) ⊎ (placed.own w ≡ true)) gates (map (rename_timed placed.rename) callee) (map sites.at wires) (from_of sites s) (sites.at w) only (start_before s h) placed.before placed.after
      ∙ ap (λ (o : Option ℕ). more (star gates (from_of sites s) (sites.at w)) (more (when (anywhere (from_of sites s)) o) (over (map sites.at wires) (λ v. plus (star gates (from_of sites s) v) (best (map (rename_timed placed.rename) callee) (Some v) (Some (sites.at w))))))) (none None)
      ∙ ap (λ (o : Option ℕ). more (star gates (from_of sites s) (sites.at w)) (more o (over (map sites.at wires) (λ v. plus (star gates (from_of sites s) v) (best (map (rename_timed placed.rename) callee) (Some v) (Some (sites.at w))))))) (when_none (anywhere (from_of sites s)))
      ∙ ap (more (star gates (from_of sites s) (sites.at w))) (over_none (map sites.at wires) (λ v. plus (star gates (from_of sites s) v) (best (map (rename_timed placed.rename) callee) (Some v) (Some (sites.at w)))) (λ v. ap (plus (star gates (from_of sites s) v)) (none (Some v)) ∙ plus_right (star gates (from_of sites s) v)))
      ∙ more_right (star gates (from_of sites s) (sites.at w))

  -- the last row after the call
  call_last : (es : List Entry) (s : Option ℕ) → place s < length last → RowFor es (length wires) q callee None →
      best (gates ++ map (rename_timed placed.rename) callee) (from_of sites s) None ≡ more (best gates (from_of sites s) None) (called (λ t. source rows wires t s) es)
  call_last es s h r =
      best_call (λ w. placed.own w ≡ false) (λ w. ((i : ℕ) × (i < length wires) × (w ≡ sites.at (slice_index wires i))) ⊎ (placed.own w ≡ true)) gates (map (rename_timed placed.rename) callee) (map sites.at wires) (from_of sites s) None only (start_before s h) placed.before placed.after
      ∙ ap (more (best gates (from_of sites s) None)) (sym (called_adds es None s h r))

  -- a sum of the call that is too large is the weight of a chain
  call_exact : (es : List Entry) (to : Option Wire) (s : Option ℕ) → place s < length last → RowFor es (length wires) q callee to → Passes (called (λ t. source rows wires t s) es) → Passes (best (gates ++ map (rename_timed placed.rename) callee) None None)
  call_exact es to s h r x =
      passes_all (gates ++ map (rename_timed placed.rename) callee) (from_of sites s) (option_map placed.rename to)
      (subst (λ (o : Option ℕ). Passes o) (sym (best_call (λ w. placed.own w ≡ false) (λ w. ((i : ℕ) × (i < length wires) × (w ≡ sites.at (slice_index wires i))) ⊎ (placed.own w ≡ true)) gates (map (rename_timed placed.rename) callee) (map sites.at wires) (from_of sites s) (option_map placed.rename to) only (start_before s h) placed.before placed.after))
      (passes_more (best gates (from_of sites s) (option_map placed.rename to)) (call_adds gates (map (rename_timed placed.rename) callee) (map sites.at wires) (from_of sites s) (option_map placed.rename to))
      (subst (λ (o : Option ℕ). Passes o) (called_adds es to s h r) x)))

  module _ (table : List (List Entry)) (is : IsTable callee q (length wires) table) where
    row_stands : (t : Bool) (rows' new : List (List Entry)) (w : ℕ) (s : Option ℕ) → place s < length last → w < length rows → length new ≡ length wires → stands_in w wires ≡ t → row_at rows' w ≡ put_each rows wires new w →
        ((j : ℕ) (s : Option ℕ) → j < length wires → look (row_at new j) s ≡ row_after rows wires table j s) →
        look (row_at rows' w) s ≡ star (gates ++ map (rename_timed placed.rename) callee) (from_of sites s) (sites.at w)
    row_stands true rows' new w s h k l e put made =
        let x = put_in rows wires new w l e in
        ap (λ (r : List Entry). look r s) (put ∙ x.3) ∙ call_star (row_at table x.0) (row_at new x.0) x.0 s h x.1 (row_for_wire callee q (length wires) table is x.0 x.1) (made x.0 s x.1)
        ∙ ap (λ (z : ℕ). star (gates ++ map (rename_timed placed.rename) callee) (from_of sites s) (sites.at z)) x.2
    row_stands false rows' new w s h k l e put made = ap (λ (r : List Entry). look r s) (put ∙ put_out rows wires new w e) ∙ st.stars w s k h ∙ sym (call_aside w s h k e)

    stands_called : (rows' new : List (List Entry)) (last' : List ℕ) (lastly : List Entry) → length rows' ≡ length rows → length last' ≡ length last → length new ≡ length wires →
        ((w : ℕ) → row_at rows' w ≡ put_each rows wires new w) →
        ((j : ℕ) (s : Option ℕ) → j < length wires → look (row_at new j) s ≡ row_after rows wires table j s) →
        ((s : Option ℕ) → look lastly s ≡ called (λ t. source rows wires t s) (row_at table (length wires))) →
        ((s : Option ℕ) → place s < length last → slice_index last' (place s) ≡ max (slice_index last (place s)) (or_zero (look lastly s))) →
        Stands (gates ++ map (rename_timed placed.rename) callee) sites rows' last'
    stands_called rows' new last' lastly rl ll nl put made ends raised = record {
      apart = λ x y h k e. let hx : x < length rows = omega arith in let hy : y < length rows = omega arith in st.apart x y hx hy e;
      stars = λ w s h k. row_stands (stands_in w wires) rows' new w s (omega arith) (omega arith) nl refl (put w) made;
      lasts = λ s k.
          let hs : place s < length last = omega arith in
          raised s hs
          ∙ ap (λ (n : ℕ). max n (or_zero (look lastly s))) (st.lasts s hs)
          ∙ sym (or_zero_more (best gates (from_of sites s) None) (look lastly s))
          ∙ ap (λ (o : Option ℕ). or_zero (more (best gates (from_of sites s) None) o)) (ends s)
          ∙ ap or_zero (sym (call_last (row_at table (length wires)) s hs (row_for_last callee q (length wires) table is)));
    }

    exact_by : (j : ℕ) (s : Option ℕ) → Bounded rows (length last) → 0 < length last → j < length table → Passes (called (λ t. source rows wires t s) (row_at table j)) → (place s < length last) ⊎ (length last ≤ place s) → (j < length wires) ⊎ (length wires ≤ j) →
        Passes (best (gates ++ map (rename_timed placed.rename) callee) None None)
    exact_by j s b p l x (inr far) c = absurd (subst (λ (o : Option ℕ). Passes o) (called_past rows (length last) wires (row_at table j) s b p far) x)
    exact_by j s b p l x (inl h) (inl k) = call_exact (row_at table j) (Some (param q j)) s h (row_for_wire callee q (length wires) table is j k) x
    exact_by j s b p l x (inl h) (inr k) =
        let size = is.size in
        let e : j ≡ length wires = omega arith in
        call_exact (row_at table (length wires)) None s h (row_for_last callee q (length wires) table is) (subst (λ (z : ℕ). Passes (called (λ t. source rows wires t s) (row_at table z))) e x)

pub call_stands : (gates callee : List Timed) (q : ℕ) (sites : Sites) (rows : List (List Entry)) (last wires : List ℕ) (table rows' new : List (List Entry)) (last' : List ℕ) (lastly : List Entry) →
    All (λ w. w < length rows) wires → length rows' ≡ length rows → length last' ≡ length last → length new ≡ length wires →
    ((w : ℕ) → row_at rows' w ≡ put_each rows wires new w) →
    ((j : ℕ) (s : Option ℕ) → j < length wires → look (row_at new j) s ≡ row_after rows wires table j s) →
    ((s : Option ℕ) → look lastly s ≡ called (λ t. source rows wires t s) (row_at table (length wires))) →
    ((s : Option ℕ) → place s < length last → slice_index last' (place s) ≡ max (slice_index last (place s)) (or_zero (look lastly s))) →
    Stands gates sites rows last → IsTable callee q (length wires) table → (placed : Placed gates callee sites (length rows) (length last) q wires) →
    Stands (gates ++ map (rename_timed placed.rename) callee) sites rows' last'
call_stands gates callee q sites rows last wires table rows' new last' lastly below rl ll nl put made ends raised st is placed =
    stands_called gates callee q sites rows last wires st placed below table is rows' new last' lastly rl ll nl put made ends raised

pub why_no_call : (rows : List (List Entry)) (last wires : List ℕ) (table : List (List Entry)) (fault : PathFault) → All (λ w. w < length rows) wires → Bounded rows (length last) → 0 < length last → WhyCall rows wires table fault → WhyNoCall rows last wires table fault
why_no_call rows last wires table Memory a b p w = tt
why_no_call rows last wires table CountTooLarge a b p w = λ gates callee q sites st is placed.
    exact_by gates callee q sites rows last wires st placed a table is w.0 w.2 b p w.1 w.3 (cases_lt (place w.2) (length last)) (cases_lt w.0 (length wires))
