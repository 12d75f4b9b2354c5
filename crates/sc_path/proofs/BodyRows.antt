-- The rows of a body stand for the places of its wires.
use Rattle.std.proofs.Common.{◌≡◌, ◌≢◌, ℕ, suc, ◌+◌, ◌-◌, ◌<◌, ◌≤◌, List, [], ◌∷◌, length, replicate, Bool, true, false, Option, Some, None, ◌⊎◌, inl, inr, refl, sym, ap, ◌∙◌, subst, arith}
use Rattle.std.specs.Prelude.{slice_index, if◌then◌else◌}
use Rattle.std.proofs.lemmas.Bool.{cases_lt}
use Rattle.std.proofs.lemmas.List.{get_or_default, get_or_past}
use Rattle.sc_base.specs.declared.names.Class.{Class}
use Rattle.sc_base.specs.declared.names.Class.TheVariants.{Q, C}
use Rattle.sc_gate.specs.declared.gate.Wire.{Wire}
use Rattle.sc_gate.specs.Gates.{IsNew, AreDistinct}
use Rattle.sc_gate.specs.Numbers.{Numbers, number_of, with_more, no_wires, both, IsThere, AreThere}
use Rattle.sc_gate.specs.Paths.{star}
use Rattle.sc_gate.specs.Wires.{same_wire}
use Rattle.sc_gate.proofs.WireLemmas.{same_wire-true}
use Rattle.sc_deck.specs.declared.item.Item.{Item}
use Rattle.sc_deck.specs.declared.item.Item.TheVariants as item
use Rattle.sc_deck.specs.declared.key.Key.{Key}
use Rattle.sc_deck.specs.Bodies.{after_items}
use Rattle.sc_deck.specs.Events.{after_events}
use Rattle.sc_deck.specs.Items.{after_item}
use Rattle.sc_deck.specs.Keys.{param_classes, params_of}
use Rattle.sc_deck.specs.Placing.{shifted, put, Sized}
use Rattle.sc_deck.specs.Renaming.{wire}
use Rattle.sc_deck.specs.Unfolding.{Unfolding, unfold_item, unfold_items, places_with, places_after, placed, numbered, of_class}
use Rattle.sc_deck.proofs.FormedLaws.{Fine, put-one_to_one}
use Rattle.sc_deck.proofs.PlaceLaws.{Sized-params}
use Rattle.sc_deck.proofs.PutLaws.{numbered-classes}
use Rattle.sc_deck.proofs.SequenceLaws.{after_events-append}
use Rattle.sc_deck.proofs.WireLaws.{more_of}
use Rattle.sc_path.specs.declared.row.Entry.{Entry}
use Rattle.sc_path.specs.Rows.{look, row_at, place}
use Rattle.sc_path.specs.Ends.{begin, start_in}
use Rattle.sc_path.specs.Tables.{param}
use Rattle.sc_path.specs.Fronts.{from_of, Bounded, Stands}
use Rattle.sc_path.specs.Places.{row_in, row_number, start_places, body_sites}
use Rattle.sc_path.proofs.CallStar.{lt_true, lt_false}
use Rattle.sc_path.proofs.DeckTurns.{put_own}
use Rattle.sc_path.proofs.PlaceLemmas.{param_row}
use Rattle.sc_path.proofs.PowerLemmas.{param_low, param_high, param_one, same_param, zeros, length_zeros, apart_none}
use Rattle.sc_path.proofs.Reached.{there_wider, fine_item}
use Rattle.sc_path.proofs.TableLemmas.{begin_star}
use Rattle.sc_path.proofs.Walk.{placed_after}

up : (c d : Class) (n : Numbers) → number_of c n ≤ number_of c (with_more d 1 n)
up Q Q n = omega arith
up Q C n = omega arith
up C Q n = omega arith
up C C n = omega arith

abbrev grown : List Class → Numbers → Numbers
grown [] n = n
grown (c ∷ cs) n = grown cs (with_more c 1 n)

grown_up : (c : Class) (cs : List Class) (n : Numbers) → number_of c n ≤ number_of c (grown cs n)
grown_up c [] n = omega arith
grown_up c (d ∷ cs) n = let h = grown_up c cs (with_more d 1 n) in let g = up c d n in omega arith

numbered_there : (cs : List Class) (n : Numbers) → AreThere (grown cs n) (numbered cs n)
numbered_there [] n = tt
numbered_there (c ∷ cs) n = (let h = grown_up c cs (with_more c 1 n) in let m = more_of c 1 n in omega arith, numbered_there cs (with_more c 1 n))

numbered_new : (w : Wire) (cs : List Class) (n : Numbers) → IsThere n w → IsNew w (numbered cs n)
numbered_new w [] n h = tt
numbered_new w (c ∷ cs) n h = (differ, numbered_new w cs (with_more c 1 n) (let u = up w.class c n in omega arith))
  where
    differ : w ≢ wire c (number_of c n)
    differ e = let g : number_of c n < number_of c n = subst (λ (v : Wire). v.number < number_of v.class n) e h in omega arith

numbered_distinct : (cs : List Class) (n : Numbers) → AreDistinct (numbered cs n)
numbered_distinct [] n = tt
numbered_distinct (c ∷ cs) n = (numbered_new (wire c (number_of c n)) cs (with_more c 1 n) (let m = more_of c 1 n in omega arith), numbered_distinct cs (with_more c 1 n))

grown_count : (d : Class) (cs : List Class) (n : Numbers) → number_of d (grown cs n) ≡ number_of d n + length (of_class d (numbered cs n))
grown_count d [] n = omega arith
grown_count Q (Q ∷ cs) n = let h = grown_count Q cs (with_more Q 1 n) in omega arith
grown_count Q (C ∷ cs) n = let h = grown_count Q cs (with_more C 1 n) in omega arith
grown_count C (Q ∷ cs) n = let h = grown_count C cs (with_more Q 1 n) in omega arith
grown_count C (C ∷ cs) n = let h = grown_count C cs (with_more C 1 n) in omega arith

none_of : (class : Class) → number_of class no_wires ≡ 0
none_of Q = refl
none_of C = refl

-- the parameter wires are distinct, and below their numbers
pub fine_start : (key : Key) → Fine (start_places key) (params_of key) (params_of key)
fine_start key =
    let sized = Sized-params (start_places key) key (numbered-classes (param_classes key) no_wires) in
    record {
      sized = sized;
      distinct = numbered_distinct (param_classes key) no_wires;
      there = there_wider (grown (param_classes key) no_wires) (params_of key)
          (λ class. let a = grown_count class (param_classes key) no_wires in let b = sized.count class in let z = none_of class in omega arith)
          (numbered (param_classes key) no_wires) (numbered_there (param_classes key) no_wires);
    }

pub fine_items : (us : List Unfolding) (items : List Item) (places : List Wire) (numbers next : Numbers) → Fine places numbers next → Fine (places_after us items places next) (after_items numbers items) (after_events next (unfold_items us items places next))
fine_items us [] places numbers next fine = fine
fine_items us (i ∷ items) places numbers next fine =
    subst (λ (n : Numbers). Fine (places_after us items (places_with i places next) (after_events next (unfold_item us i places next))) (after_items (after_item numbers i) items) n)
    (sym (after_events-append next (unfold_item us i places next) (unfold_items us items (places_with i places next) (after_events next (unfold_item us i places next)))))
    (fine_items us items (places_with i places next) (after_item numbers i) (after_events next (unfold_item us i places next)) (fine_item us places numbers next i fine))

more_numbers : (c : Class) (i : Item) (numbers : Numbers) → number_of c numbers ≤ number_of c (after_item numbers i)
more_numbers Q (item.Fresh Q n) numbers = omega arith
more_numbers Q (item.Fresh C n) numbers = omega arith
more_numbers C (item.Fresh Q n) numbers = omega arith
more_numbers C (item.Fresh C n) numbers = omega arith
more_numbers c (item.Gate gate) numbers = omega arith
more_numbers c (item.Call callee wires) numbers = omega arith
more_numbers c (item.Gates gate turns) numbers = omega arith
more_numbers c (item.Calls callee wires turns) numbers = omega arith

pub numbers_grow : (c : Class) (items : List Item) (numbers : Numbers) → number_of c numbers ≤ number_of c (after_items numbers items)
numbers_grow c [] numbers = omega arith
numbers_grow c (i ∷ items) numbers = let h = numbers_grow c items (after_item numbers i) in let g = more_numbers c i numbers in omega arith

pub there_grow : (items : List Item) (numbers : Numbers) (w : Wire) → IsThere numbers w → IsThere (after_items numbers items) w
there_grow items numbers w h = let g = numbers_grow w.class items numbers in omega arith

-- a local wire that is there is placed as it is put
pub placed_put : (places : List Wire) (numbers next : Numbers) → Sized places numbers → (w : Wire) → IsThere numbers w → placed places w ≡ put places next w
placed_put places numbers next sized w below =
    get_or_default (of_class w.class places) w.number w (shifted (length (of_class w.class places)) (number_of w.class next) w) (subst (λ (n : ℕ). w.number < n) (sym (sized.count w.class)) below)

pub placed_one : (places : List Wire) (numbers next : Numbers) → Fine places numbers next → (v w : Wire) → IsThere numbers v → IsThere numbers w → placed places v ≡ placed places w → v ≡ w
placed_one places numbers next fine v w a b e =
    put-one_to_one places next fine.distinct fine.there v w (sym (placed_put places numbers next fine.sized v a) ∙ e ∙ placed_put places numbers next fine.sized w b)

there_by : (numbers : Numbers) (w : ℕ) → w < both numbers → (w < numbers.qubits) ⊎ (numbers.qubits ≤ w) → IsThere numbers (param numbers.qubits w)
there_by numbers w h (inl l) = subst (IsThere numbers) (sym (param_low numbers.qubits w l)) l
there_by numbers w h (inr l) = subst (IsThere numbers) (sym (param_high numbers.qubits w l)) (omega arith)

-- the wire of a row is there
pub row_there : (numbers : Numbers) (w : ℕ) → w < both numbers → IsThere numbers (param numbers.qubits w)
row_there numbers w h = there_by numbers w h (cases_lt w numbers.qubits)

abbrev first_of : Class → Numbers → ℕ
first_of Q numbers = 0
first_of C numbers = numbers.qubits

param_first : (c : Class) (numbers : Numbers) (n : ℕ) → n < number_of c numbers → param numbers.qubits (first_of c numbers + n) ≡ wire c n
param_first Q numbers n h = let e : 0 + n ≡ n = omega arith in ap (param numbers.qubits) e ∙ param_low numbers.qubits n h
param_first C numbers n h =
    let l : numbers.qubits ≤ numbers.qubits + n = omega arith in
    let e : numbers.qubits + n - numbers.qubits ≡ n = omega arith in
    param_high numbers.qubits (numbers.qubits + n) l ∙ ap (wire C) e

first_below : (c : Class) (numbers : Numbers) (n : ℕ) → n < number_of c numbers → first_of c numbers + n < both numbers
first_below Q numbers n h = omega arith
first_below C numbers n h = omega arith

started : (first k n u : ℕ) → start_in first k n ≡ Some u → (n < k) ⊎ (k ≤ n) → (n < k) × (u ≡ first + n)
started first k n u e (inl l) = (l, cc (sym (ap (λ (t : Bool). if t then Some (first + n) else None) (lt_true n k l)) ∙ e))
started first k n u e (inr l) = cc (sym (ap (λ (t : Bool). if t then Some (first + n) else None) (lt_false n k l)) ∙ e)

unstarted : (first k n : ℕ) → start_in first k n ≡ None → (n < k) ⊎ (k ≤ n) → k ≤ n
unstarted first k n e (inl l) = cc (sym (ap (λ (t : Bool). if t then Some (first + n) else None) (lt_true n k l)) ∙ e)
unstarted first k n e (inr l) = l

differs : (v w : Wire) → v ≢ w → same_wire v w ≡ false
differs v w h = by (same_wire v w) refl
  where
    by : (t : Bool) → same_wire v w ≡ t → t ≡ false
    by true e = absurd (h (same_wire-true v w e))
    by false e = refl

module _ (us : List Unfolding) (key : Key) (items : List Item) where
  abbrev starts : Numbers
  starts = params_of key

  abbrev ends : Numbers
  ends = after_items starts items

  abbrev last_places : List Wire
  last_places = places_after us items (start_places key) starts

  pub fine_end : Fine last_places ends (after_events starts (unfold_items us items (start_places key) starts))
  fine_end = fine_items us items (start_places key) starts starts (fine_start key)

  -- the wire of the row of a local wire
  pub site_row : (v : Wire) → IsThere ends v → (body_sites us key items).at (row_number ends.qubits v) ≡ placed last_places v
  site_row v there = ap (placed last_places) (param_row ends v there)

  -- rows stand for wires of their own
  pub site_one : (a b : ℕ) → a < both ends → b < both ends → (body_sites us key items).at a ≡ (body_sites us key items).at b → a ≡ b
  site_one a b h l e =
      param_one ends.qubits a b
      (placed_one last_places ends (after_events starts (unfold_items us items (start_places key) starts)) fine_end (param ends.qubits a) (param ends.qubits b) (row_there ends a h) (row_there ends b l) e)

  -- a parameter wire stands for itself
  pub site_own : (v : Wire) → IsThere starts v → (body_sites us key items).at (row_number ends.qubits v) ≡ v
  site_own v there =
      site_row v (there_grow items starts v there)
      ∙ placed_after us items (start_places key) starts starts (fine_start key).sized v there
      ∙ placed_put (start_places key) starts starts (fine_start key).sized v there
      ∙ put_own (record { key = key; items = items }) starts v there

  apart_start : (v : Wire) (t : ℕ) → IsThere ends v → number_of v.class starts ≤ v.number → t < both starts → same_wire (param starts.qubits t) ((body_sites us key items).at (row_number ends.qubits v)) ≡ false
  apart_start v t there past h = differs (param starts.qubits t) ((body_sites us key items).at (row_number ends.qubits v)) differ
    where
      differ : param starts.qubits t ≢ (body_sites us key items).at (row_number ends.qubits v)
      differ e =
          let p : IsThere starts (param starts.qubits t) = row_there starts t h in
          let same : param starts.qubits t ≡ v =
          placed_one last_places ends (after_events starts (unfold_items us items (start_places key) starts)) fine_end (param starts.qubits t) v (there_grow items starts (param starts.qubits t) p) there
          (sym (site_row (param starts.qubits t) (there_grow items starts (param starts.qubits t) p)) ∙ site_own (param starts.qubits t) p ∙ e ∙ site_row v there) in
          let g : v.number < number_of v.class starts = subst (IsThere starts) same p in
          omega arith

  -- what a row has before any gate
  start_star : (c : Class) (n : ℕ) → n < number_of c ends → (s : Option ℕ) → place s < both starts + 1 → begin (start_in (first_of c starts) (number_of c starts) n) s ≡ star [] (from_of (body_sites us key items) s) ((body_sites us key items).at (row_in c ends.qubits n))
  start_star c n there s h =
      begin_star (start_in (first_of c starts) (number_of c starts) n) (body_sites us key items) (row_in c ends.qubits n) s
      (λ u v e f.
      let b = started (first_of c starts) (number_of c starts) n u e (cases_lt n (number_of c starts)) in
      let is : param starts.qubits u ≡ wire c n = ap (param starts.qubits) b.1 ∙ param_first c starts n b.0 in
      same_param starts.qubits u v ∙ ap (same_wire (param starts.qubits v)) (is ∙ sym (site_own (wire c n) b.0)))
      (λ v e f.
      let k : place s ≡ suc v = ap place f in
      apart_start (wire c n) v there (unstarted (first_of c starts) (number_of c starts) n e (cases_lt n (number_of c starts))) (omega arith))

  module _ (rows : List (List Entry)) (last : List ℕ) (size : length rows ≡ both ends)
      (made : (w : ℕ) (s : Option ℕ) → w < ends.qubits → look (row_at rows w) s ≡ begin (start_in 0 starts.qubits w) s)
      (made_too : (w : ℕ) (s : Option ℕ) → w < ends.cbits → look (row_at rows (ends.qubits + w)) s ≡ begin (start_in starts.qubits starts.cbits w) s)
      (blank : last ≡ replicate (both starts + 1) 0) where
    long : length last ≡ both starts + 1
    long = ap length blank ∙ length_zeros (both starts + 1)

    stars_by : (w : ℕ) (s : Option ℕ) → w < length rows → place s < length last → (w < ends.qubits) ⊎ (ends.qubits ≤ w) → look (row_at rows w) s ≡ star [] (from_of (body_sites us key items) s) ((body_sites us key items).at w)
    stars_by w s h l (inl q) = let m = long in made w s q ∙ start_star Q w q s (omega arith)
    stars_by w s h l (inr q) =
        let m = long in
        let b : w - ends.qubits < ends.cbits = omega arith in
        let e : ends.qubits + (w - ends.qubits) ≡ w = omega arith in
        subst (λ (x : ℕ). look (row_at rows x) s ≡ star [] (from_of (body_sites us key items) s) ((body_sites us key items).at x)) e
        (made_too (w - ends.qubits) s b ∙ start_star C (w - ends.qubits) b s (omega arith))

    -- THE ROWS before the first item
    pub stands_start : Stands [] (body_sites us key items) rows last
    stands_start = record {
      apart = λ a b h l e. site_one a b (omega arith) (omega arith) e;
      stars = λ w s h l. stars_by w s h l (cases_lt w ends.qubits);
      lasts = λ s h. let m = long in ap (λ (l : List ℕ). slice_index l (place s)) blank ∙ zeros (both starts + 1) (place s) (omega arith);
    }

begin_far : (first k n v : ℕ) → first + k ≤ v → (n < k) ⊎ (k ≤ n) → begin (start_in first k n) (Some v) ≡ None
begin_far first k n v h (inl l) =
    ap (λ (t : Bool). begin (if t then Some (first + n) else None) (Some v)) (lt_true n k l) ∙ apart_none (first + n) v (omega arith)
begin_far first k n v h (inr l) = ap (λ (t : Bool). begin (if t then Some (first + n) else None) (Some v)) (lt_false n k l)

module _ (starts ends : Numbers) (rows : List (List Entry)) (last : List ℕ) (size : length rows ≡ both ends)
    (made : (w : ℕ) (s : Option ℕ) → w < ends.qubits → look (row_at rows w) s ≡ begin (start_in 0 starts.qubits w) s)
    (made_too : (w : ℕ) (s : Option ℕ) → w < ends.cbits → look (row_at rows (ends.qubits + w)) s ≡ begin (start_in starts.qubits starts.cbits w) s)
    (blank : last ≡ replicate (both starts + 1) 0) where
  long_last : length last ≡ both starts + 1
  long_last = ap length blank ∙ length_zeros (both starts + 1)

  none_far : (w v : ℕ) → both starts ≤ v → (w < ends.qubits) ⊎ (ends.qubits ≤ w) → (w < both ends) ⊎ (both ends ≤ w) → look (row_at rows w) (Some v) ≡ None
  none_far w v h (inl q) b = made w (Some v) q ∙ begin_far 0 starts.qubits w v (omega arith) (cases_lt w starts.qubits)
  none_far w v h (inr q) (inl b) =
      let l : w - ends.qubits < ends.cbits = omega arith in
      let e : ends.qubits + (w - ends.qubits) ≡ w = omega arith in
      subst (λ (x : ℕ). look (row_at rows x) (Some v) ≡ None) e
      (made_too (w - ends.qubits) (Some v) l ∙ begin_far starts.qubits starts.cbits (w - ends.qubits) v (omega arith) (cases_lt (w - ends.qubits) starts.cbits))
  none_far w v h (inr q) (inr b) = ap (λ (x : List Entry). look x (Some v)) (get_or_past rows w [] (omega arith))

  none_by : (w : ℕ) (s : Option ℕ) → both starts + 1 ≤ place s → look (row_at rows w) s ≡ None
  none_by w None h = absurd (omega arith)
  none_by w (Some v) h = none_far w v (omega arith) (cases_lt w ends.qubits) (cases_lt w (both ends))

  pub bounded_start : Bounded rows (length last)
  bounded_start = record { none = λ w s h. let m = long_last in none_by w s (omega arith) }

-- what rows are before any item
pub record Blank (params wires params' wires' : ℕ) (rows : List (List Entry)) (last : List ℕ) : Type 0 where
  pub size : length rows ≡ wires + wires'
  pub made : (w : ℕ) (s : Option ℕ) → w < wires → look (row_at rows w) s ≡ begin (start_in 0 params w) s
  pub made_too : (w : ℕ) (s : Option ℕ) → w < wires' → look (row_at rows (wires + w)) s ≡ begin (start_in params params' w) s
  pub blank : last ≡ replicate (params + params' + 1) 0

pub blank_at : (a b c d a' b' c' d' : ℕ) (rows : List (List Entry)) (last : List ℕ) → a ≡ a' → b ≡ b' → c ≡ c' → d ≡ d' → Blank a b c d rows last → Blank a' b' c' d' rows last
blank_at a b c d a' b' c' d' rows last p q r s h =
    subst (λ (x : ℕ). Blank a' b' c' x rows last) s (subst (λ (x : ℕ). Blank a' b' x d rows last) r (subst (λ (x : ℕ). Blank a' x c d rows last) q (subst (λ (x : ℕ). Blank x b c d rows last) p h)))

pub stands_blank : (us : List Unfolding) (key : Key) (items : List Item) (p : Numbers) (rows : List (List Entry)) (last : List ℕ) → params_of key ≡ p →
    Blank p.qubits (after_items p items).qubits p.cbits (after_items p items).cbits rows last → Stands [] (body_sites us key items) rows last
stands_blank us key items p rows last e =
    subst (λ (n : Numbers). Blank n.qubits (after_items n items).qubits n.cbits (after_items n items).cbits rows last → Stands [] (body_sites us key items) rows last) e
    (λ b. stands_start us key items rows last b.size b.made b.made_too b.blank)

pub bounded_blank : (starts ends : Numbers) (rows : List (List Entry)) (last : List ℕ) → Blank starts.qubits ends.qubits starts.cbits ends.cbits rows last → Bounded rows (length last)
bounded_blank starts ends rows last b = bounded_start starts ends rows last b.size b.made b.made_too b.blank
