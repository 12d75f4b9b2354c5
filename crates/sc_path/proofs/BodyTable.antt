-- The table of a body from its rows after the last item, and the tables of one body more.
use Rattle.std.proofs.Common.{◌≡◌, ℕ, zero, suc, ◌+◌, ◌-◌, ◌^◌, ◌<◌, ◌≤◌, List, [], ◌∷◌, ◌++◌, All, map, length, take, slice_get, Option, Some, None, ◌⊎◌, inl, inr, refl, sym, ap, ◌∙◌, subst, arith, length-append}
use Rattle.std.specs.Prelude.{slice_index, unwrap_or}
use Rattle.std.specs.List.{range_with_len}
use Rattle.std.proofs.lemmas.Bool.{cases_lt}
use Rattle.std.proofs.lemmas.List.{get_or-append-add}
use Rattle.std.proofs.lemmas.List.FromFn.{length-range_with_len, get_or-range_with_len}
use Rattle.sc_base.specs.declared.names.Class.TheVariants.{Q, C}
use Rattle.sc_gate.specs.Chains.{Timed, timed, or_zero, critical_of}
use Rattle.sc_gate.specs.Numbers.{Numbers, both, no_wires}
use Rattle.sc_gate.specs.Times.{AreTimes}
use Rattle.sc_deck.specs.declared.item.Item.{Item}
use Rattle.sc_deck.specs.declared.key.Key.{Key}
use Rattle.sc_deck.specs.Bodies.{Contents, after_items, wires_of}
use Rattle.sc_deck.specs.Events.{Event, gates_in}
use Rattle.sc_deck.specs.Keys.{params_of, param_classes}
use Rattle.sc_deck.specs.Modules.{Module}
use Rattle.sc_deck.specs.Renaming.{wire}
use Rattle.sc_deck.specs.Unfolding.{Unfolding, unfoldings, numbered}
use Rattle.sc_deck.proofs.PutLaws.{expansion-is}
use Rattle.sc_deck.proofs.SequenceLaws.{unfold_on-before}
use Rattle.sc_path.specs.declared.row.Entry.{Entry}
use Rattle.sc_path.specs.declared.table.Table.{Table}
use Rattle.sc_path.specs.Rows.{look, row_at, place}
use Rattle.sc_path.specs.Ends.{positive, number_at}
use Rattle.sc_path.specs.Tables.{param, IsTable, IsTableOf, StandsFor, timed_gates, get_of}
use Rattle.sc_path.specs.Fronts.{Bounded, Stands}
use Rattle.sc_path.specs.Places.{events_of, gates_before, body_sites}
use Rattle.sc_path.proofs.BodyRows.{site_own, numbers_grow}
use Rattle.sc_path.proofs.PowerLemmas.{param_low, param_high}
use Rattle.sc_path.proofs.Steps.{whole_gates}
use Rattle.sc_path.proofs.TableLemmas.{table_is}
use Rattle.sc_path.proofs.TurnRows.{takes_time}

abbrev pub end_rows : Numbers → Numbers → List ℕ
end_rows starts ends = range_with_len 0 starts.qubits ++ range_with_len ends.qubits starts.cbits

left_index : (xs ys : List ℕ) (i : ℕ) → i < length xs → slice_index (xs ++ ys) i ≡ slice_index xs i
left_index [] ys i h = absurd (omega arith)
left_index (x ∷ xs) ys zero h = refl
left_index (x ∷ xs) ys (suc i) h = left_index xs ys i (omega arith)

all_join : (P : ℕ → Type 0) (xs ys : List ℕ) → All P xs → All P ys → All P (xs ++ ys)
all_join P [] ys a b i d h = b i d h
all_join P (x ∷ xs) ys a b zero d h = a zero d (omega arith)
all_join P (x ∷ xs) ys a b (suc i) d h = all_join P xs ys (λ j e k. a (suc j) e (omega arith)) b i d (omega arith)

pub range_below : (a n m : ℕ) → a + n ≤ m → All (λ w. w < m) (range_with_len a n)
range_below a n m h i d k =
    let l = length-range_with_len a n in
    let k' : i < n = omega arith in
    let e = get_or-range_with_len a n i d k' in
    omega arith

pub ends_below : (starts ends : Numbers) (n : ℕ) → starts.qubits ≤ ends.qubits → starts.cbits ≤ ends.cbits → n ≡ both ends → All (λ w. w < n) (end_rows starts ends)
ends_below starts ends n a b e =
    all_join (λ w. w < n) (range_with_len 0 starts.qubits) (range_with_len ends.qubits starts.cbits) (range_below 0 starts.qubits n (omega arith)) (range_below ends.qubits starts.cbits n (omega arith))

pub params_low : (body : Contents) → (body.params.qubits ≤ (wires_of body).qubits) × (body.params.cbits ≤ (wires_of body).cbits)
params_low body = (numbers_grow Q body.items body.params, numbers_grow C body.items body.params)

pub ends_many : (starts ends : Numbers) → length (end_rows starts ends) ≡ both starts
ends_many starts ends =
    let a = length-append (range_with_len 0 starts.qubits) (range_with_len ends.qubits starts.cbits) in
    let b = length-range_with_len 0 starts.qubits in
    let c = length-range_with_len ends.qubits starts.cbits in
    omega arith

module _ (us : List Unfolding) (key : Key) (items : List Item) where
  abbrev starts : Numbers
  starts = params_of key

  abbrev ends : Numbers
  ends = after_items starts items

  at_by : (j : ℕ) → j < both starts → (j < starts.qubits) ⊎ (starts.qubits ≤ j) → (body_sites us key items).at (slice_index (end_rows starts ends) j) ≡ param starts.qubits j
  at_by j h (inl l) =
      let n = length-range_with_len 0 starts.qubits in
      let z : 0 + j ≡ j = omega arith in
      ap (body_sites us key items).at (left_index (range_with_len 0 starts.qubits) (range_with_len ends.qubits starts.cbits) j (omega arith) ∙ get_or-range_with_len 0 starts.qubits j 0 l ∙ z)
      ∙ site_own us key items (wire Q j) l ∙ sym (param_low starts.qubits j l)
  at_by j h (inr l) =
      let n = length-range_with_len 0 starts.qubits in
      let k : j - starts.qubits < starts.cbits = omega arith in
      let e : j ≡ length (range_with_len 0 starts.qubits) + (j - starts.qubits) = omega arith in
      ap (body_sites us key items).at
      (ap (slice_index (end_rows starts ends)) e ∙ get_or-append-add (range_with_len 0 starts.qubits) (range_with_len ends.qubits starts.cbits) (j - starts.qubits) 0
      ∙ get_or-range_with_len ends.qubits starts.cbits (j - starts.qubits) 0 k)
      ∙ site_own us key items (wire C (j - starts.qubits)) k ∙ sym (param_high starts.qubits j l)

  pub own_table : (times : List ℕ) → AreTimes times → (rows table : List (List Entry)) (last : List ℕ) → length rows ≡ both ends → length last ≡ both starts + 1 → Bounded rows (length last) →
      Stands (map (timed times) (gates_in (events_of us key items))) (body_sites us key items) rows last → length table ≡ length (end_rows starts ends) + 1 →
      ((j : ℕ) (s : Option ℕ) → j < length (end_rows starts ends) → look (row_at table j) s ≡ positive (look (row_at rows (slice_index (end_rows starts ends) j)) s)) →
      ((s : Option ℕ) → look (row_at table (length (end_rows starts ends))) s ≡ positive (number_at last (place s))) →
      IsTable (map (timed times) (gates_in (events_of us key items))) starts.qubits (both starts) table
  own_table times are rows table last size long bounded st many kept lastly =
      table_is (map (timed times) (gates_in (events_of us key items))) starts.qubits (both starts) rows last (end_rows starts ends) table (body_sites us key items) st bounded
      (takes_time times are (gates_in (events_of us key items))) (ends_many starts ends) long (ends_below starts ends (length rows) (numbers_grow Q items starts) (numbers_grow C items starts) size)
      (λ v h. refl) (λ j h. at_by j h (cases_lt j starts.qubits)) many kept lastly

take_all : {X : Type 0} (xs : List X) → take (length xs) xs ≡ xs
take_all [] = refl
take_all (x ∷ xs) = ap (λ ys. x ∷ ys) (take_all xs)

-- THE TABLE OF A BODY
pub body_table : (times : List ℕ) → AreTimes times → (modules : List Module) (key : Key) (body : Contents) (rows : List (List Entry)) (last wires : List ℕ) (table : Table) → params_of key ≡ body.params →
    length rows ≡ both (wires_of body) → length last ≡ both body.params + 1 → Bounded rows (length last) →
    Stands (gates_before times (unfoldings modules) key body.items (length body.items)) (body_sites (unfoldings modules) key body.items) rows last → wires ≡ end_rows body.params (wires_of body) →
    length table.rows ≡ length wires + 1 →
    ((j : ℕ) (s : Option ℕ) → j < length wires → look (row_at table.rows j) s ≡ positive (look (row_at rows (slice_index wires j)) s)) →
    ((s : Option ℕ) → look (row_at table.rows (length wires)) s ≡ positive (number_at last (place s))) →
    IsTableOf times (modules ++ record { key = key; items = body.items } ∷ []) (length modules) (record { key = key; items = body.items }) table
body_table times are modules key body rows last wires table ext size long bounded st is many kept lastly =
    let us : List Unfolding = unfoldings modules in
    let whole : Stands (map (timed times) (gates_in (events_of (unfoldings modules) key body.items))) (body_sites (unfoldings modules) key body.items) rows last =
    subst (λ (xs : List Item). Stands (map (timed times) (gates_in (events_of (unfoldings modules) key xs))) (body_sites (unfoldings modules) key body.items) rows last) (take_all body.items) st in
    let w : wires ≡ end_rows (params_of key) (after_items (params_of key) body.items) = is ∙ ap (λ (p : Numbers). end_rows p (after_items p body.items)) (sym ext) in
    let all = own_table (unfoldings modules) key body.items times are rows table.rows last
    (size ∙ ap (λ (p : Numbers). both (after_items p body.items)) (sym ext)) (long ∙ ap (λ (p : Numbers). both p + 1) (sym ext)) bounded whole in
    subst (λ (gs : List Timed). IsTable gs (params_of key).qubits (both (params_of key)) table.rows) (sym (whole_gates times modules key body.items))
    (all (subst (λ (ws : List ℕ). length table.rows ≡ length ws + 1) w many)
    (subst (λ (ws : List ℕ). (j : ℕ) (s : Option ℕ) → j < length ws → look (row_at table.rows j) s ≡ positive (look (row_at rows (slice_index ws j)) s)) w kept)
    (subst (λ (ws : List ℕ). (s : Option ℕ) → look (row_at table.rows (length ws)) s ≡ positive (number_at last (place s))) w lastly))

-- one module more
get_left : {X : Type 0} (xs ys : List X) (i : ℕ) → i < length xs → slice_get (xs ++ ys) i ≡ slice_get xs i
get_left [] ys i h = absurd (omega arith)
get_left (x ∷ xs) ys zero h = refl
get_left (x ∷ xs) ys (suc i) h = get_left xs ys i (omega arith)

get_right : {X : Type 0} (xs : List X) (x y : X) (i : ℕ) → slice_get (xs ++ x ∷ []) i ≡ Some y → length xs ≤ i → (i ≡ length xs) × (x ≡ y)
get_right [] x y zero e h = (refl, cc e)
get_right [] x y (suc i) e h = cc e
get_right (z ∷ xs) x y zero e h = absurd (omega arith)
get_right (z ∷ xs) x y (suc i) e h = let r = get_right xs x y i e (omega arith) in (ap suc r.0, r.1)

-- the gates of an earlier module stay
gates_earlier : (times : List ℕ) (modules : List Module) (m n : Module) (i : ℕ) → i < length modules → slice_get modules i ≡ Some n → timed_gates times (modules ++ m ∷ []) i ≡ timed_gates times modules i
gates_earlier times modules m n i h at =
    ap (λ (es : List Event). map (timed times) (gates_in es))
    (expansion-is (modules ++ m ∷ []) i n (get_left modules (m ∷ []) i h ∙ at)
    ∙ ap (λ u. u (numbered (param_classes n.key) no_wires) (params_of n.key)) (unfold_on-before modules m i h)
    ∙ sym (expansion-is modules i n at))

module _ (times : List ℕ) (modules : List Module) (m : Module) (tables : List Table) (table : Table) (sf : StandsFor tables times modules) (is : IsTableOf times (modules ++ m ∷ []) (length modules) m table) where
  each_by : (i : ℕ) (n : Module) (t : Table) → slice_get (modules ++ m ∷ []) i ≡ Some n → slice_get (tables ++ table ∷ []) i ≡ Some t → (i < length modules) ⊎ (length modules ≤ i) → IsTableOf times (modules ++ m ∷ []) i n t
  each_by i n t a b (inl h) =
      let size = sf.size in
      let at : slice_get modules i ≡ Some n = sym (get_left modules (m ∷ []) i h) ∙ a in
      let l : i < length tables = omega arith in
      subst (λ (gs : List Timed). IsTable gs (params_of n.key).qubits (both (params_of n.key)) t.rows) (sym (gates_earlier times modules m n i h at))
      (sf.each i n t at (sym (get_left tables (table ∷ []) i l) ∙ b))
  each_by i n t a b (inr h) =
      let size = sf.size in
      let x = get_right modules m n i a h in
      let l : length tables ≤ i = omega arith in
      let y = get_right tables table t i b l in
      subst (λ (j : ℕ). IsTableOf times (modules ++ m ∷ []) j n t) (sym x.0)
      (subst (λ (k : Module). IsTableOf times (modules ++ m ∷ []) (length modules) k t) x.1
      (subst (λ (k : Table). IsTableOf times (modules ++ m ∷ []) (length modules) m k) y.1 is))

  -- THE TABLES of one body more
  pub stands_more_tables : StandsFor (tables ++ table ∷ []) times (modules ++ m ∷ [])
  stands_more_tables = record {
    size = let a = length-append tables (table ∷ []) in let b = length-append modules (m ∷ []) in let s = sf.size in omega arith;
    each = λ i n t a b. each_by i n t a b (cases_lt i (length modules));
  }

zero_or : (o : Option ℕ) → or_zero o ≡ unwrap_or o 0
zero_or None = refl
zero_or (Some n) = refl

-- a weight that is kept is not too large
pub critical_fits : (gates : List Timed) (q k : ℕ) (rows : List (List Entry)) (o : Option ℕ) (n : ℕ) → IsTable gates q k rows → o ≡ get_of rows None None → n ≡ unwrap_or o 0 → n < 2 ^ 128 → critical_of gates < 2 ^ 128
critical_fits gates q k rows o n is e f h = subst (λ (x : ℕ). x < 2 ^ 128) (f ∙ sym (zero_or o) ∙ ap or_zero (e ∙ is.answers None None)) h

-- the rows of the parameter wires, by their numbers
pub ends_same : (starts ends : Numbers) (a b c : ℕ) (wires rows : List ℕ) → wires ≡ rows → rows ≡ range_with_len 0 a ++ range_with_len b c → a ≡ starts.qubits → b ≡ ends.qubits → c ≡ starts.cbits → wires ≡ end_rows starts ends
ends_same starts ends a b c wires rows e f p q r =
    e ∙ f ∙ ap (λ (x : ℕ). range_with_len 0 x ++ range_with_len b c) p ∙ ap (λ (x : ℕ). range_with_len 0 starts.qubits ++ range_with_len x c) q
    ∙ ap (λ (x : ℕ). range_with_len 0 starts.qubits ++ range_with_len ends.qubits x) r
