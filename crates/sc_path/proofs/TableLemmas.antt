-- The table of a gate list from the rows of its wires.
use Rattle.std.proofs.Common.{◌≡◌, ℕ, ◌+◌, ◌-◌, ◌<◌, ◌≤◌, List, [], length, Bool, true, false, Option, Some, None, ◌⊎◌, inl, inr, refl, sym, ap, ◌∙◌, arith, All}
use Rattle.std.specs.Prelude.{nat_eq, nat_lt, slice_index, if◌then◌else◌, ◌&&◌}
use Rattle.std.proofs.lemmas.Bool.{cases_lt}
use Rattle.std.proofs.lemmas.List.Elements.{All-get_or}
use Rattle.sc_gate.specs.declared.gate.Wire.{Wire}
use Rattle.sc_gate.specs.Chains.{Timed, more, when, best}
use Rattle.sc_gate.specs.Paths.{may_start, star, TakeTime}
use Rattle.sc_gate.specs.Wires.{same_wire}
use Rattle.sc_gate.proofs.PathCalls.{best_above_zero}
use Rattle.sc_path.specs.declared.row.Entry.{Entry}
use Rattle.sc_path.specs.Rows.{look, row_at, place}
use Rattle.sc_path.specs.Ends.{begin, positive, number_at}
use Rattle.sc_path.specs.Tables.{param, wire_of, within, row_for, get_of, IsTable}
use Rattle.sc_path.specs.Fronts.{Sites, from_of, Bounded, Stands}
use Rattle.sc_path.proofs.CallStar.{lt_true, lt_false}
use Rattle.sc_path.proofs.EndLemmas.{positive_more, positive_zero, positive_same, positive_start, number_in, number_past}

and_false : (t : Bool) → (t && false) ≡ false
and_false true = refl
and_false false = refl

module _ (gates : List Timed) (q k : ℕ) (rows : List (List Entry)) (last wires : List ℕ) (table : List (List Entry)) (sites : Sites)
    (st : Stands gates sites rows last) (bounded : Bounded rows (length last)) (take : TakeTime gates) (many : length wires ≡ k) (size : length last ≡ k + 1)
    (below : All (λ w. w < length rows) wires)
    (start : (v : ℕ) → v < k → sites.start v ≡ param q v) (at : (j : ℕ) → j < k → sites.at (slice_index wires j) ≡ param q j)
    (long : length table ≡ length wires + 1)
    (kept : (j : ℕ) (s : Option ℕ) → j < length wires → look (row_at table j) s ≡ positive (look (row_at rows (slice_index wires j)) s))
    (lastly : (s : Option ℕ) → look (row_at table (length wires)) s ≡ positive (number_at last (place s))) where
  last_row : row_for table None ≡ row_at table (length wires)
  last_row = let e : length table - 1 ≡ length wires = omega arith in ap (row_at table) e

  wire_row : (w : ℕ) → w < k → row_for table (Some w) ≡ row_at table w
  wire_row w h = ap (λ (t : Bool). if t then row_at table w else []) (lt_true (w + 1) (length table) (omega arith))

  no_row : (w : ℕ) → k ≤ w → row_for table (Some w) ≡ []
  no_row w h = ap (λ (t : Bool). if t then row_at table w else []) (lt_false (w + 1) (length table) (omega arith))

  end_near : (s : Option ℕ) → place s < length last → look (row_for table None) s ≡ best gates (from_of sites s) None
  end_near s h =
      ap (λ (x : List Entry). look x s) last_row ∙ lastly s ∙ ap positive (number_in last (place s) h ∙ ap Some (st.lasts s h))
      ∙ positive_zero (best gates (from_of sites s) None) (λ n e. best_above_zero gates (from_of sites s) None n take e)

  end_far : (s : Option ℕ) → length last ≤ place s → look (row_for table None) s ≡ None
  end_far s h = ap (λ (x : List Entry). look x s) last_row ∙ lastly s ∙ ap positive (number_past last (place s) h)

  wire_near : (w : ℕ) (s : Option ℕ) → w < k → place s < length last → look (row_for table (Some w)) s ≡ best gates (from_of sites s) (Some (param q w))
  wire_near w s h l =
      let hw : w < length wires = omega arith in
      let b = All-get_or (λ w. w < length rows) wires w 0 hw below in
      ap (λ (x : List Entry). look x s) (wire_row w h) ∙ kept w s hw ∙ ap positive (st.stars (slice_index wires w) s b l)
      ∙ positive_more (when (may_start (from_of sites s) (sites.at (slice_index wires w))) (Some 0)) (best gates (from_of sites s) (Some (sites.at (slice_index wires w))))
      ∙ ap (λ (o : Option ℕ). more o (positive (best gates (from_of sites s) (Some (sites.at (slice_index wires w)))))) (positive_start (may_start (from_of sites s) (sites.at (slice_index wires w))))
      ∙ positive_same (best gates (from_of sites s) (Some (sites.at (slice_index wires w)))) (λ n e. best_above_zero gates (from_of sites s) (Some (sites.at (slice_index wires w))) n take e)
      ∙ ap (λ (v : Wire). best gates (from_of sites s) (Some v)) (at w h)

  wire_far : (w : ℕ) (s : Option ℕ) → w < k → length last ≤ place s → look (row_for table (Some w)) s ≡ None
  wire_far w s h l =
      let hw : w < length wires = omega arith in
      ap (λ (x : List Entry). look x s) (wire_row w h) ∙ kept w s hw ∙ ap positive (bounded.none (slice_index wires w) s l)

  answer_end : (v : ℕ) → (v < k) ⊎ (k ≤ v) → look (row_for table None) (Some v) ≡ when (nat_lt v k && true) (best gates (Some (param q v)) None)
  answer_end v (inl h) =
      end_near (Some v) (omega arith) ∙ ap (λ (u : Wire). best gates (Some u) None) (start v h)
      ∙ ap (λ (b : Bool). when (b && true) (best gates (Some (param q v)) None)) (sym (lt_true v k h))
  answer_end v (inr h) = end_far (Some v) (omega arith) ∙ ap (λ (b : Bool). when (b && true) (best gates (Some (param q v)) None)) (sym (lt_false v k h))

  answer_wire : (w : ℕ) → (w < k) ⊎ (k ≤ w) → look (row_for table (Some w)) None ≡ when (nat_lt w k) (best gates None (Some (param q w)))
  answer_wire w (inl h) = wire_near w None h (omega arith) ∙ ap (λ (b : Bool). when b (best gates None (Some (param q w)))) (sym (lt_true w k h))
  answer_wire w (inr h) = ap (λ (x : List Entry). look x None) (no_row w h) ∙ ap (λ (b : Bool). when b (best gates None (Some (param q w)))) (sym (lt_false w k h))

  answer_both : (v w : ℕ) → (v < k) ⊎ (k ≤ v) → (w < k) ⊎ (k ≤ w) → look (row_for table (Some w)) (Some v) ≡ when (nat_lt v k && nat_lt w k) (best gates (Some (param q v)) (Some (param q w)))
  answer_both v w (inl h) (inl l) =
      wire_near w (Some v) l (omega arith) ∙ ap (λ (u : Wire). best gates (Some u) (Some (param q w))) (start v h)
      ∙ ap (λ (b : Bool). when b (best gates (Some (param q v)) (Some (param q w)))) (sym (lt_true w k l))
      ∙ ap (λ (b : Bool). when (b && nat_lt w k) (best gates (Some (param q v)) (Some (param q w)))) (sym (lt_true v k h))
  answer_both v w (inr h) (inl l) = wire_far w (Some v) l (omega arith) ∙ ap (λ (b : Bool). when (b && nat_lt w k) (best gates (Some (param q v)) (Some (param q w)))) (sym (lt_false v k h))
  answer_both v w c (inr l) =
      ap (λ (x : List Entry). look x (Some v)) (no_row w l)
      ∙ ap (λ (b : Bool). when b (best gates (Some (param q v)) (Some (param q w)))) (sym (and_false (nat_lt v k)))
      ∙ ap (λ (b : Bool). when (nat_lt v k && b) (best gates (Some (param q v)) (Some (param q w)))) (sym (lt_false w k l))

  answers : (from to : Option ℕ) → get_of table from to ≡ when (within k from && within k to) (best gates (wire_of q from) (wire_of q to))
  answers None None = end_near None (omega arith)
  answers (Some v) None = answer_end v (cases_lt v k)
  answers None (Some w) = answer_wire w (cases_lt w k)
  answers (Some v) (Some w) = answer_both v w (cases_lt v k) (cases_lt w k)

pub table_is : (gates : List Timed) (q k : ℕ) (rows : List (List Entry)) (last wires : List ℕ) (table : List (List Entry)) (sites : Sites) →
    Stands gates sites rows last → Bounded rows (length last) → TakeTime gates → length wires ≡ k → length last ≡ k + 1 → All (λ w. w < length rows) wires →
    ((v : ℕ) → v < k → sites.start v ≡ param q v) → ((j : ℕ) → j < k → sites.at (slice_index wires j) ≡ param q j) → length table ≡ length wires + 1 →
    ((j : ℕ) (s : Option ℕ) → j < length wires → look (row_at table j) s ≡ positive (look (row_at rows (slice_index wires j)) s)) →
    ((s : Option ℕ) → look (row_at table (length wires)) s ≡ positive (number_at last (place s))) → IsTable gates q k table
table_is gates q k rows last wires table sites st bounded take many size below start at long kept lastly = record {
  size = (let e : length table ≡ k + 1 = omega arith in e);
  answers = answers gates q k rows last wires table sites st bounded take many size below start at long kept lastly;
}

-- before any gate
begins_by : (t u : Bool) → t ≡ u → when t (Some 0) ≡ more (when u (Some 0)) None
begins_by true true e = refl
begins_by true false e = cc
begins_by false true e = cc
begins_by false false e = refl

pub begin_star : (own : Option ℕ) (sites : Sites) (w : ℕ) (s : Option ℕ) → ((u v : ℕ) → own ≡ Some u → s ≡ Some v → nat_eq u v ≡ same_wire (sites.start v) (sites.at w)) → ((v : ℕ) → own ≡ None → s ≡ Some v → same_wire (sites.start v) (sites.at w) ≡ false) →
    begin own s ≡ star [] (from_of sites s) (sites.at w)
begin_star own sites w None f g = refl
begin_star None sites w (Some v) f g = ap (λ (t : Bool). more (when t (Some 0)) None) (sym (g v refl refl))
begin_star (Some u) sites w (Some v) f g = begins_by (nat_eq u v) (same_wire (sites.start v) (sites.at w)) (f u v refl refl)
