-- One more item of a body, in every deck of which these are the tables.
use Rattle.std.proofs.Common.{◌≡◌, ◌≢◌, eqb-true, ℕ, zero, suc, ◌+◌, ◌*◌, ◌^◌, ◌<◌, ◌≤◌, List, [], ◌∷◌, ◌++◌, All, map, length, replicate, get_or, take, drop, slice_get, Bool, true, false, cond, Option, Some, None, refl, sym, ap, ◌∙◌, subst, arith, append-nil}
use Rattle.std.specs.Prelude.{IsSomeAnd, nat_eq, ◌||◌}
use Rattle.std.specs.List.{AllByRecursion, IsDistinct, list_any}
use Rattle.std.proofs.lemmas.Map.Steps.{length-le_from_distinct_below}
use Rattle.std.proofs.Math.Seq.{get_or-append_seam, take-append_seam}
use Rattle.std.proofs.lemmas.List.{take-append-drop}
use Rattle.std.proofs.lemmas.List.Elements.{All-get_or, All-from_recursion}
use Rattle.sc_base.specs.declared.names.Class.{Class}
use Rattle.sc_base.specs.declared.names.Class.TheVariants.{Q, C}
use Rattle.sc_gate.specs.declared.gate.Wire.{Wire}
use Rattle.sc_gate.specs.declared.gate.Gate.{Gate}
use Rattle.sc_gate.specs.Chains.{Timed, timed, best, or_zero, critical_of}
use Rattle.sc_gate.specs.Gates.{class_of, operands, IsNew, AreDistinct}
use Rattle.sc_gate.specs.Numbers.{Numbers, number_of, both, IsThere, AreThere}
use Rattle.sc_gate.specs.Renaming.{rename_gate}
use Rattle.sc_gate.specs.Times.{duration}
use Rattle.sc_gate.specs.Wires.{same_class}
use Rattle.sc_gate.proofs.Joined.{in_first}
use Rattle.sc_gate.proofs.RenameLemmas.{operands-rename}
use Rattle.sc_gate.proofs.WireLemmas.{member_here}
use Rattle.sc_deck.specs.declared.item.Item.{Item}
use Rattle.sc_deck.specs.declared.item.Item.TheVariants as item
use Rattle.sc_deck.specs.declared.key.Key.{Key}
use Rattle.sc_deck.specs.Bodies.{Contents, ItemsFit, IsBody, after_items, wires_of}
use Rattle.sc_deck.specs.Decks.{CallsFit, IsDeck, CallFits, ItemCallFits}
use Rattle.sc_deck.specs.Events.{Event, gates_in, after_events, Return}
use Rattle.sc_deck.specs.Items.{ItemFits, GateFits, after_item}
use Rattle.sc_deck.specs.Keys.{params_of, param_classes}
use Rattle.sc_deck.specs.Modules.{Module, body_of}
use Rattle.sc_deck.specs.Unfolding.{Unfolding, unfold_items, unfoldings, places_after, placed, of_class}
use Rattle.sc_deck.proofs.CallLaws.{CallEarlier-at}
use Rattle.sc_deck.proofs.PutLaws.{expansion-is}
use Rattle.sc_deck.proofs.SequenceLaws.{gates_in-append, unfold_items-append, unfold_on-last}
use Rattle.sc_deck.proofs.TextLaws.{IsDeck-front}
use Rattle.sc_path.specs.declared.row.Entry.{Entry}
use Rattle.sc_path.specs.declared.table.Table.{Table}
use Rattle.sc_path.specs.Rows.{Passes}
use Rattle.sc_path.specs.Tables.{param, Extends, timed_gates, CallKnown, ItemKnown, CallsKnown}
use Rattle.sc_path.specs.Fronts.{Sites, Stands, gate_at}
use Rattle.sc_path.specs.Places.{row_number, rows_for, start_places, events_of, body_sites}
use Rattle.sc_path.proofs.GateTurns.{heavy, best_turns}
use Rattle.sc_path.proofs.ItemRows.{site_before, after_items-append}
use Rattle.sc_path.proofs.BodyRows.{there_grow}
use Rattle.sc_path.proofs.PlaceLemmas.{row_below, param_row}
use Rattle.sc_path.proofs.PowerLemmas.{passes_in}
use Rattle.sc_path.proofs.TurnRows.{stands_turns}

-- a list at one of its places
pub cut : {X : Type 0} (xs : List X) (n : ℕ) (d x : X) → n < length xs → get_or xs n d ≡ x → xs ≡ take n xs ++ x ∷ drop (suc n) xs
cut [] n d x h e = absurd (omega arith)
cut (y ∷ xs) zero d x h e = ap (λ z. z ∷ xs) e
cut (y ∷ xs) (suc n) d x h e = ap (λ zs. y ∷ zs) (cut xs n d x (omega arith) e)

pub taken_more : {X : Type 0} (xs : List X) (n : ℕ) (d x : X) → n < length xs → get_or xs n d ≡ x → take (suc n) xs ≡ take n xs ++ x ∷ []
taken_more [] n d x h e = absurd (omega arith)
taken_more (y ∷ xs) zero d x h e = ap (λ z. z ∷ []) e
taken_more (y ∷ xs) (suc n) d x h e = ap (λ zs. y ∷ zs) (taken_more xs n d x (omega arith) e)

fits_at : (numbers : Numbers) (xs : List Item) (i : Item) (ys : List Item) → ItemsFit numbers (xs ++ i ∷ ys) → ItemFits (after_items numbers xs) i
fits_at numbers [] i ys f = f.0
fits_at numbers (x ∷ xs) i ys f = fits_at (after_item numbers x) xs i ys f.1

-- an item of a body may stand where it does
pub item_fits : (body : Contents) (n : ℕ) (d i : Item) → IsBody body → n < length body.items → get_or body.items n d ≡ i → ItemFits (after_items body.params (take n body.items)) i
item_fits body n d i sound h e = fits_at body.params (take n body.items) i (drop (suc n) body.items) (subst (ItemsFit body.params) (cut body.items n d i h e) sound.fits)

there_all : (rest : List Item) (numbers : Numbers) (ws : List Wire) → AreThere numbers ws → AreThere (after_items numbers rest) ws
there_all rest numbers [] a = tt
there_all rest numbers (w ∷ ws) a = (there_grow rest numbers w a.0, there_all rest numbers ws a.1)

pub there_at_end : (body : Contents) (n : ℕ) (ws : List Wire) → AreThere (after_items body.params (take n body.items)) ws → AreThere (wires_of body) ws
there_at_end body n ws a =
    subst (λ (m : Numbers). AreThere m ws) (sym (after_items-append body.params (take n body.items) (drop n body.items)) ∙ ap (after_items body.params) (take-append-drop n body.items))
    (there_all (drop n body.items) (after_items body.params (take n body.items)) ws a)

number_le : (numbers : Numbers) (w : Wire) → IsThere numbers w → numbers.qubits + w.number ≤ both numbers + both numbers
number_le numbers w h = by w.class h
  where
    by : (c : Class) → w.number < number_of c numbers → numbers.qubits + w.number ≤ both numbers + both numbers
    by Q h = omega arith
    by C h = omega arith

small_each : (numbers : Numbers) (q : ℕ) (ws : List Wire) → q ≡ numbers.qubits → both numbers ≤ 65536 → AreThere numbers ws → AllByRecursion (λ (w : Wire). q + w.number < 4294967296) ws
small_each numbers q [] e narrow a = tt
small_each numbers q (w ∷ ws) e narrow a = (let h = number_le numbers w a.0 in omega arith, small_each numbers q ws e narrow a.1)

-- the numbers of wires that are there are small
pub small : (numbers : Numbers) (q : ℕ) (ws : List Wire) → q ≡ numbers.qubits → both numbers ≤ 65536 → AreThere numbers ws → All (λ (w : Wire). q + w.number < 4294967296) ws
small numbers q ws e narrow there = All-from_recursion (λ (w : Wire). q + w.number < 4294967296) ws (small_each numbers q ws e narrow there)

rows_each : (numbers : Numbers) (q n : ℕ) (ws : List Wire) → q ≡ numbers.qubits → n ≡ both numbers → AreThere numbers ws → AllByRecursion (λ w. w < n) (map (row_number q) ws)
rows_each numbers q n [] e f a = tt
rows_each numbers q n (w ∷ ws) e f a = (let h = row_below numbers w a.0 in subst (λ (x : ℕ). row_number x w < n) (sym e) (omega arith), rows_each numbers q n ws e f a.1)

-- and so are their rows
pub rows_small : (numbers : Numbers) (q n : ℕ) (ws : List Wire) → q ≡ numbers.qubits → n ≡ both numbers → AreThere numbers ws → All (λ w. w < n) (map (row_number q) ws)
rows_small numbers q n ws e f there = All-from_recursion (λ w. w < n) (map (row_number q) ws) (rows_each numbers q n ws e f there)

of_there : (numbers : Numbers) (c : Class) (ws : List Wire) → AreThere numbers ws → AreThere numbers (of_class c ws)
of_there numbers c [] a = tt
of_there numbers c (w ∷ ws) a = by (same_class c w.class) (of_there numbers c ws a.1)
  where
    by : (t : Bool) → AreThere numbers (of_class c ws) → AreThere numbers (cond t (w ∷ of_class c ws) (of_class c ws))
    by true r = (a.0, r)
    by false r = r

all_rows : (P : ℕ → Type 0) (xs ys : List ℕ) → AllByRecursion P xs → AllByRecursion P ys → AllByRecursion P (xs ++ ys)
all_rows P [] ys a b = b
all_rows P (x ∷ xs) ys a b = (a.0, all_rows P xs ys a.1 b)

-- the rows of a call are there
pub call_small : (numbers : Numbers) (q n : ℕ) (ws : List Wire) → q ≡ numbers.qubits → n ≡ both numbers → AreThere numbers ws → All (λ w. w < n) (rows_for q ws)
call_small numbers q n ws e f there =
    All-from_recursion (λ w. w < n) (rows_for q ws)
    (all_rows (λ w. w < n) (map (row_number q) (of_class Q ws)) (map (row_number q) (of_class C ws)) (rows_each numbers q n (of_class Q ws) e f (of_there numbers Q ws there)) (rows_each numbers q n (of_class C ws) e f (of_there numbers C ws there)))

-- what a deck with one more body says of that body
pub record Within (modules : List Module) (key : Key) (items : List Item) : Type 0 where
  pub deck : IsDeck modules
  pub fits : ItemsFit (params_of key) items
  pub calls : CallsFit modules items

at_last : {X : Type 0} (xs : List X) (x : X) → slice_get (xs ++ x ∷ []) (length xs) ≡ Some x
at_last [] x = refl
at_last (y ∷ xs) x = at_last xs x

length_last : {X : Type 0} (xs : List X) (x : X) → length xs < length (xs ++ x ∷ [])
length_last [] x = omega arith
length_last (y ∷ xs) x = let h = length_last xs x in omega arith

pub within_deck : (modules : List Module) (key : Key) (body : Contents) → Extends modules key body → Within modules key body.items
within_deck modules key body ext =
    let m : Module = record { key = key; items = body.items } in
    let all : List Module = modules ++ m ∷ [] in
    record {
      deck = IsDeck-front modules (record { key = key; items = body.items } ∷ []) ext.deck;
      fits = (subst (λ (x : Module). IsBody (body_of x)) (get_or-append_seam modules (record { key = key; items = body.items }) [] (record { key = key; items = body.items }))
          (All-get_or (λ (x : Module). IsBody (body_of x)) (modules ++ record { key = key; items = body.items } ∷ []) (length modules) (record { key = key; items = body.items })
          (length_last modules (record { key = key; items = body.items })) ext.deck.bodies)).fits;
      calls = subst (λ (ms : List Module). CallsFit ms body.items) (take-append_seam modules (record { key = key; items = body.items } ∷ []))
          (CallEarlier-at (modules ++ record { key = key; items = body.items } ∷ []) ext.deck.calls (length modules) (record { key = key; items = body.items }) (at_last modules (record { key = key; items = body.items })));
    }

-- the gates of the last body are those of its items
pub whole_gates : (times : List ℕ) (modules : List Module) (key : Key) (items : List Item) →
    timed_gates times (modules ++ record { key = key; items = items } ∷ []) (length modules) ≡ map (timed times) (gates_in (events_of (unfoldings modules) key items))
whole_gates times modules key items =
    let m : Module = record { key = key; items = items } in
    ap (λ (es : List Event). map (timed times) (gates_in es))
    (expansion-is (modules ++ record { key = key; items = items } ∷ []) (length modules) (record { key = key; items = items }) (at_last modules (record { key = key; items = items }))
    ∙ ap (λ u. u (start_places key) (params_of key)) (unfold_on-last modules (record { key = key; items = items })))
    ∙ ap (map (timed times)) (gates_in-append (events_of (unfoldings modules) key items) (Return key ∷ []) ∙ append-nil (gates_in (events_of (unfoldings modules) key items)))

map_append : (f : Gate → Timed) (xs ys : List Gate) → map f (xs ++ ys) ≡ map f xs ++ map f ys
map_append f [] ys = refl
map_append f (x ∷ xs) ys = ap (λ (zs : List Timed). f x ∷ zs) (map_append f xs ys)

-- a chain of the first items that is too heavy is one of the body
pub passes_whole : (times : List ℕ) (us : List Unfolding) (key : Key) (xs ys : List Item) → Passes (best (map (timed times) (gates_in (events_of us key xs))) None None) → Passes (best (map (timed times) (gates_in (events_of us key (xs ++ ys)))) None None)
passes_whole times us key xs ys h =
    let rest : List Event = unfold_items us ys (places_after us xs (start_places key) (params_of key)) (after_events (params_of key) (events_of us key xs)) in
    subst (λ (gs : List Timed). Passes (best gs None None))
    (sym (ap (λ (es : List Event). map (timed times) (gates_in es)) (unfold_items-append us xs ys (start_places key) (params_of key))
    ∙ ap (map (timed times)) (gates_in-append (events_of us key xs) rest) ∙ map_append (timed times) (gates_in (events_of us key xs)) (gates_in rest)))
    (passes_in (map (timed times) (gates_in (events_of us key xs))) (map (timed times) (gates_in (events_of us key xs)) ++ map (timed times) (gates_in rest))
    (in_first (map (timed times) (gates_in (events_of us key xs))) (map (timed times) (gates_in rest)) None None) h)

heavy_critical : (o : Option ℕ) → Passes o → 2 ^ 128 ≤ or_zero o
heavy_critical None h = absurd h
heavy_critical (Some n) h = h

pub critical_heavy : (times : List ℕ) (modules : List Module) (key : Key) (items xs ys : List Item) → items ≡ xs ++ ys → Passes (best (map (timed times) (gates_in (events_of (unfoldings modules) key xs))) None None) →
    2 ^ 128 ≤ critical_of (timed_gates times (modules ++ record { key = key; items = items } ∷ []) (length modules))
critical_heavy times modules key items xs ys e h =
    subst (λ (gs : List Timed). 2 ^ 128 ≤ critical_of gs) (sym (whole_gates times modules key items))
    (heavy_critical (best (map (timed times) (gates_in (events_of (unfoldings modules) key items))) None None)
    (subst (λ (is : List Item). Passes (best (map (timed times) (gates_in (events_of (unfoldings modules) key is))) None None)) (sym e) (passes_whole times (unfoldings modules) key xs ys h)))

-- the gate of an item with the places of its wires
module _ (us : List Unfolding) (times : List ℕ) (key : Key) (xs : List Item) (i : Item) (ys : List Item) (gate : Gate) (fits : GateFits (after_items (params_of key) xs) gate) where
  abbrev here : Gate
  here = rename_gate (placed (places_after us xs (start_places key) (params_of key))) gate

  abbrev sites : Sites
  sites = body_sites us key (xs ++ i ∷ ys)

  abbrev qubits : ℕ
  qubits = (after_items (params_of key) (xs ++ i ∷ ys)).qubits

  wires_at : (ws : List Wire) → AreThere (after_items (params_of key) xs) ws → map sites.at (map (row_number qubits) ws) ≡ map (placed (places_after us xs (start_places key) (params_of key))) ws
  wires_at [] a = refl
  wires_at (w ∷ ws) a = (let first = site_before us key xs (i ∷ ys) w a.0 in let rest = wires_at ws a.1 in λ k. first k ∷ rest k)

  gate_here : (n : ℕ) → gate_at sites (n * duration times gate.kind) (map (row_number qubits) (operands gate)) ≡ heavy n (timed times here)
  gate_here n =
      let e = wires_at (operands gate) fits.there ∙ sym (operands-rename (placed (places_after us xs (start_places key) (params_of key))) gate) in
      λ k. record { weight = n * duration times gate.kind; wires = e k }

  -- THE ROWS after so many turns of a gate
  pub gate_stands : (n : ℕ) (before : List Timed) (rows : List (List Entry)) (last : List ℕ) → Stands (before ++ gate_at sites (suc n * duration times gate.kind) (map (row_number qubits) (operands gate)) ∷ []) sites rows last →
      Stands (before ++ replicate (suc n) (timed times here)) sites rows last
  gate_stands n before rows last st =
      stands_turns n before (timed times here) here.a sites rows last (member_here here.a _)
      (subst (λ (g : Timed). Stands (before ++ g ∷ []) sites rows last) (gate_here (suc n)) st)

  pub gate_heavy : (n : ℕ) (before : List Timed) → Passes (best (before ++ gate_at sites (suc n * duration times gate.kind) (map (row_number qubits) (operands gate)) ∷ []) None None) → Passes (best (before ++ replicate (suc n) (timed times here)) None None)
  gate_heavy n before h =
      subst (λ (o : Option ℕ). Passes o) (sym (best_turns n before (timed times here) None here.a (member_here here.a _)))
      (subst (λ (g : Timed). Passes (best (before ++ g ∷ []) None None)) (gate_here (suc n)) h)

known_by : (tables : List Table) (items : List Item) (n : ℕ) (d i : Item) → CallsKnown tables items → n < length items → get_or items n d ≡ i → ItemKnown tables i
known_by tables [] n d i a h e = absurd (omega arith)
known_by tables (x ∷ items) zero d i a h e = subst (ItemKnown tables) e a.0
known_by tables (x ∷ items) (suc n) d i a h e = known_by tables items n d i a.1 (omega arith) e

-- the table of a callee is there
pub item_known : (tables : List Table) (items : List Item) (n : ℕ) (d i : Item) → CallsKnown tables items → n < length items → get_or items n d ≡ i → ItemKnown tables i
item_known = known_by

pub callee_below : (tables : List Table) (callee n : ℕ) → CallKnown tables callee n → callee < length tables
callee_below [] callee n h = absurd h
callee_below (t ∷ tables) zero n h = omega arith
callee_below (t ∷ tables) (suc callee) n h = let k = callee_below tables callee n h in omega arith

pub callee_rows : (tables : List Table) (callee n : ℕ) (d : Table) → CallKnown tables callee n → length (get_or tables callee d).rows ≡ n + 1
callee_rows [] callee n d h = absurd h
callee_rows (t ∷ tables) zero n d h = h
callee_rows (t ∷ tables) (suc callee) n d h = callee_rows tables callee n d h

pub callee_at : (tables : List Table) (callee : ℕ) (d : Table) → callee < length tables → slice_get tables callee ≡ Some (get_or tables callee d)
callee_at [] callee d h = absurd (omega arith)
callee_at (t ∷ tables) zero d h = refl
callee_at (t ∷ tables) (suc callee) d h = callee_at tables callee d (omega arith)

-- the calls of a body fit the bodies that its deck has
calls_by : (modules : List Module) (xs : List Item) (i : Item) (ys : List Item) → CallsFit modules (xs ++ i ∷ ys) → ItemCallFits modules i
calls_by modules [] i ys a = a.0
calls_by modules (x ∷ xs) i ys a = calls_by modules xs i ys a.1

pub item_call : (modules : List Module) (xs : List Item) (i : Item) (ys : List Item) → CallsFit modules (xs ++ i ∷ ys) → ItemCallFits modules i
item_call = calls_by

pub record Callee (modules : List Module) (callee : ℕ) (wires : List Wire) : Type 0 where
  pub m : Module
  pub at : slice_get modules callee ≡ Some m
  pub classes : map class_of wires ≡ param_classes m.key

pub callee_of : (modules : List Module) (callee : ℕ) (wires : List Wire) → CallFits modules callee wires → Callee modules callee wires
callee_of modules callee wires fit = by (slice_get modules callee) refl fit
  where
    by : (o : Option Module) → slice_get modules callee ≡ o → IsSomeAnd o (λ m. map class_of wires ≡ param_classes m.key) → Callee modules callee wires
    by None e h = absurd h
    by (Some m) e h = record { m = m; at = e; classes = h }

row_one : (numbers : Numbers) (v w : Wire) → IsThere numbers v → IsThere numbers w → row_number numbers.qubits v ≡ row_number numbers.qubits w → v ≡ w
row_one numbers v w a b e = sym (param_row numbers v a) ∙ ap (param numbers.qubits) e ∙ param_row numbers w b

apart_by : (numbers : Numbers) (v w : Wire) → IsThere numbers v → IsThere numbers w → v ≢ w → (t : Bool) → nat_eq (row_number numbers.qubits v) (row_number numbers.qubits w) ≡ t → t ≡ false
apart_by numbers v w a b h true e = absurd (h (row_one numbers v w a b (eqb-true (row_number numbers.qubits v) (row_number numbers.qubits w) e)))
apart_by numbers v w a b h false e = refl

new_rows : (numbers : Numbers) (w : Wire) (ws : List Wire) → IsThere numbers w → AreThere numbers ws → IsNew w ws → AllByRecursion (λ y. nat_eq (row_number numbers.qubits w) y ≡ false) (map (row_number numbers.qubits) ws)
new_rows numbers w [] a b n = tt
new_rows numbers w (v ∷ ws) a b n = (apart_by numbers w v a b.0 n.0 (nat_eq (row_number numbers.qubits w) (row_number numbers.qubits v)) refl, new_rows numbers w ws a b.1 n.1)

distinct_rows : (numbers : Numbers) (ws : List Wire) → AreThere numbers ws → AreDistinct ws → IsDistinct nat_eq (map (row_number numbers.qubits) ws)
unfolding IsDistinct
distinct_rows numbers [] a d = tt
distinct_rows numbers (w ∷ ws) a d = (new_rows numbers w ws a.0 a.1 d.0, distinct_rows numbers ws a.1 d.1)

any_by : (n q x : ℕ) (xs : List ℕ) → x < n → (list_any (nat_eq q) xs ≡ true → q < n) → (t : Bool) → nat_eq q x ≡ t → (t || list_any (nat_eq q) xs) ≡ true → q < n
any_by n q x xs h f true e a = subst (λ (y : ℕ). y < n) (sym (eqb-true q x e)) h
any_by n q x xs h f false e a = f a

any_below : (n q : ℕ) (xs : List ℕ) → AllByRecursion (λ x. x < n) xs → list_any (nat_eq q) xs ≡ true → q < n
any_below n q [] a h = cc
any_below n q (x ∷ xs) a h = any_by n q x xs a.0 (any_below n q xs a.1) (nat_eq q x) refl h

length_rows : (f : Wire → ℕ) (ws : List Wire) → length (map f ws) ≡ length ws
length_rows f [] = refl
length_rows f (w ∷ ws) = ap suc (length_rows f ws)

-- distinct wires that are there are few
pub wires_few : (numbers : Numbers) (ws : List Wire) → both numbers ≤ 65536 → AreThere numbers ws → AreDistinct ws → length ws ≤ 65536
wires_few numbers ws narrow there distinct =
    let l = length-le_from_distinct_below (map (row_number numbers.qubits) ws) (both numbers) (distinct_rows numbers ws there distinct)
    (λ q. any_below (both numbers) q (map (row_number numbers.qubits) ws) (rows_each numbers numbers.qubits (both numbers) ws refl refl there)) in
    let m = length_rows (row_number numbers.qubits) ws in
    omega arith

-- an item of a list that is another one
pub item_at : (xs ys : List Item) (n : ℕ) (d i : Item) → xs ≡ ys → get_or xs n d ≡ i → get_or ys n d ≡ i
item_at xs ys n d i e h = ap (λ (zs : List Item). get_or zs n d) (sym e) ∙ h

module _ (body : Contents) (n : ℕ) (d : Item) (sound : IsBody body) (h : n < length body.items) where
  pub gate_there : (gate : Gate) → get_or body.items n d ≡ item.Gate gate → AreThere (wires_of body) (operands gate)
  gate_there gate e = there_at_end body n (operands gate) (item_fits body n d (item.Gate gate) sound h e).there

  pub gates_there : (gate : Gate) (t : ℕ) → get_or body.items n d ≡ item.Gates gate t → AreThere (wires_of body) (operands gate)
  gates_there gate t e = there_at_end body n (operands gate) (item_fits body n d (item.Gates gate t) sound h e).0.there

  pub call_there : (callee : ℕ) (wires : List Wire) → get_or body.items n d ≡ item.Call callee wires → AreThere (wires_of body) wires
  call_there callee wires e = there_at_end body n wires (item_fits body n d (item.Call callee wires) sound h e).there

  pub calls_there : (callee : ℕ) (wires : List Wire) (t : ℕ) → get_or body.items n d ≡ item.Calls callee wires t → AreThere (wires_of body) wires
  calls_there callee wires t e = there_at_end body n wires (item_fits body n d (item.Calls callee wires t) sound h e).0.there
