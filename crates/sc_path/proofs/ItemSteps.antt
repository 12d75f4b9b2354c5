-- The rows after each kind of item.
use Rattle.std.proofs.Common.{◌≡◌, ℕ, zero, suc, ◌+◌, ◌-◌, ◌*◌, ◌^◌, ◌<◌, ◌≤◌, List, [], ◌∷◌, ◌++◌, map, length, replicate, get_or, take, drop, None, refl, sym, ap, ◌∙◌, subst, arith, append_assoc, append-nil}
use Rattle.sc_base.specs.declared.names.Class.{Class}
use Rattle.sc_gate.specs.declared.gate.Wire.{Wire}
use Rattle.sc_gate.specs.declared.gate.Gate.{Gate}
use Rattle.sc_gate.specs.Chains.{Timed, timed, best, critical_of}
use Rattle.sc_gate.specs.Gates.{class_of, operands}
use Rattle.sc_gate.specs.Numbers.{Numbers, both}
use Rattle.sc_gate.specs.Renaming.{rename_gate, rename_timed}
use Rattle.sc_gate.specs.Times.{AreTimes, duration}
use Rattle.sc_deck.specs.declared.item.Item.{Item}
use Rattle.sc_deck.specs.declared.item.Item.TheVariants as item
use Rattle.sc_deck.specs.declared.key.Key.{Key}
use Rattle.sc_deck.specs.Bodies.{Contents, ItemsFit, after_items, wires_of}
use Rattle.sc_deck.specs.Decks.{CallsFit, IsDeck, ItemCallFits}
use Rattle.sc_deck.specs.Events.{Event, gates_in, after_events}
use Rattle.sc_deck.specs.Items.{GateFits, WiresFit}
use Rattle.sc_deck.specs.Keys.{params_of, param_classes}
use Rattle.sc_deck.specs.Modules.{Module}
use Rattle.sc_deck.specs.Placing.{put, GatesOn}
use Rattle.sc_deck.specs.Unfolding.{Unfolding, places_with, unfold_item, unfoldings, unfold_on, places_after, placed, repeated}
use Rattle.sc_path.specs.declared.fault.PathFault.{PathFault}
use Rattle.sc_path.specs.declared.fault.PathFault.TheVariants.{CountTooLarge, Memory}
use Rattle.sc_path.specs.declared.row.Entry.{Entry}
use Rattle.sc_path.specs.declared.table.Table.{Table}
use Rattle.sc_path.specs.Rows.{Passes}
use Rattle.sc_path.specs.Tables.{Extends, StandsFor, timed_gates, CallKnown, IsTable}
use Rattle.sc_path.specs.Fronts.{Sites, Stands, gate_at, WhyGate, WhyNoCall}
use Rattle.sc_path.specs.Places.{row_number, rows_for, start_places, events_of, gates_before, body_sites, StandsAt, WhyItem}
use Rattle.sc_path.specs.Powers.{AreTurns, WhyPower}
use Rattle.sc_path.proofs.ItemRows.{AfterCall, gates_more, call_more, call_heavy, callee_heavy, call_on, calls_on, passed_kinds}
use Rattle.sc_path.proofs.Steps.{cut, taken_more, Within, within_deck, critical_heavy, gate_stands, gate_heavy, Callee, callee_of, callee_at, callee_below, item_call}
use Rattle.sc_path.proofs.TurnLemmas.{Called}
use Rattle.sc_path.proofs.TurnRows.{gates_again, deck_turns, first_turn, call_is, calls_are, turn}

-- an item as turns of a gate
pub IsGates : Item → Gate → ℕ → Type 0
IsGates i gate k = (times : List ℕ) (us : List Unfolding) (places : List Wire) (next : Numbers) → map (timed times) (gates_in (unfold_item us i places next)) ≡ replicate k (timed times (rename_gate (placed places) gate))

pub one_gate : (gate : Gate) → IsGates (item.Gate gate) gate 1
unfolding IsGates
one_gate gate = λ times us places next. refl

pub gate_turns : (gate : Gate) (n : ℕ) → IsGates (item.Gates gate n) gate n
unfolding IsGates
gate_turns gate n = λ times us places next. gates_again times (rename_gate (placed places) gate) n next

some_suc : (t : ℕ) → 1 ≤ t → (k : ℕ) × (t ≡ suc k)
some_suc zero h = absurd (omega arith)
some_suc (suc k) h = (k, refl)

after_stands : (tables : List Table) (times : List ℕ) (body : Contents) (modules : List Module) (key : Key) (n : ℕ) (d i : Item) (rows : List (List Entry)) (last : List ℕ) → n < length body.items → get_or body.items n d ≡ i →
    Stands (map (timed times) (gates_in (events_of (unfoldings modules) key (take n body.items ++ i ∷ [])))) (body_sites (unfoldings modules) key (take n body.items ++ i ∷ drop (suc n) body.items)) rows last →
    Stands (gates_before times (unfoldings modules) key body.items (n + 1)) (body_sites (unfoldings modules) key body.items) rows last
after_stands tables times body modules key n d i rows last h e st =
    let s : n + 1 ≡ suc n = omega arith in
    subst (λ (is : List Item). Stands (map (timed times) (gates_in (events_of (unfoldings modules) key is))) (body_sites (unfoldings modules) key body.items) rows last)
    (sym (ap (λ (k : ℕ). take k body.items) s ∙ taken_more body.items n d i h e))
    (subst (λ (is : List Item). Stands (map (timed times) (gates_in (events_of (unfoldings modules) key (take n body.items ++ i ∷ [])))) (body_sites (unfoldings modules) key is) rows last) (sym (cut body.items n d i h e)) st)

module _ (tables : List Table) (times : List ℕ) (body : Contents) (n : ℕ) (d i : Item) (rows : List (List Entry)) (last : List ℕ) (h : n < length body.items) (e : get_or body.items n d ≡ i)
    (q : ℕ) (qubits : q ≡ (wires_of body).qubits) where
  abbrev xs : List Item
  xs = take n body.items

  abbrev ys : List Item
  ys = drop (suc n) body.items

  split : body.items ≡ (xs ++ i ∷ []) ++ ys
  split = cut body.items n d i h e ∙ sym (append_assoc xs (i ∷ []) ys)

  module _ (modules : List Module) (key : Key) (ext : Extends modules key body) where
    abbrev us : List Unfolding
    us = unfoldings modules

    pub here : StandsFor tables times modules → StandsAt tables times body n rows last → Stands (map (timed times) (gates_in (events_of us key xs))) (body_sites us key (xs ++ i ∷ ys)) rows last
    here sf st = subst (λ (is : List Item). Stands (map (timed times) (gates_in (events_of us key xs))) (body_sites us key is) rows last) (cut body.items n d i h e) (st modules key ext sf)

    pub ends_qubits : q ≡ (after_items (params_of key) (xs ++ i ∷ ys)).qubits
    ends_qubits = qubits ∙ ap (λ (m : Numbers). (after_items m body.items).qubits) (sym ext.params) ∙ ap (λ (is : List Item). (after_items (params_of key) is).qubits) (cut body.items n d i h e)

    pub ends_both : both (wires_of body) ≡ both (after_items (params_of key) (xs ++ i ∷ ys))
    ends_both = ap (λ (m : Numbers). both (after_items m body.items)) (sym ext.params) ∙ ap (λ (is : List Item). both (after_items (params_of key) is)) (cut body.items n d i h e)

  -- SO MANY TURNS of a gate
  pub gate_step : (gate : Gate) (t : ℕ) → 1 ≤ t → IsGates i gate t → GateFits (after_items body.params xs) gate → (rows' : List (List Entry)) (last' : List ℕ) →
      ((gates : List Timed) (sites : Sites) → Stands gates sites rows last → Stands (gates ++ gate_at sites (t * duration times gate.kind) (map (row_number q) (operands gate)) ∷ []) sites rows' last') →
      StandsAt tables times body n rows last → StandsAt tables times body (n + 1) rows' last'
  unfolding IsGates
  gate_step gate t some is fits rows' last' step st = λ modules key ext sf.
      let k = some_suc t some in
      let us : List Unfolding = unfoldings modules in
      let f : GateFits (after_items (params_of key) xs) gate = subst (λ (m : Numbers). GateFits (after_items m xs) gate) (sym ext.params) fits in
      let before : List Timed = map (timed times) (gates_in (events_of (unfoldings modules) key xs)) in
      let made = step (map (timed times) (gates_in (events_of (unfoldings modules) key xs))) (body_sites (unfoldings modules) key (xs ++ i ∷ ys)) (here modules key ext sf st) in
      let made' = subst (λ (x : ℕ). Stands (map (timed times) (gates_in (events_of (unfoldings modules) key xs)) ++ gate_at (body_sites (unfoldings modules) key (xs ++ i ∷ ys)) (x * duration times gate.kind) (map (row_number q) (operands gate)) ∷ []) (body_sites (unfoldings modules) key (xs ++ i ∷ ys)) rows' last') k.1 made in
      let made'' = subst (λ (x : ℕ). Stands (map (timed times) (gates_in (events_of (unfoldings modules) key xs)) ++ gate_at (body_sites (unfoldings modules) key (xs ++ i ∷ ys)) (suc k.0 * duration times gate.kind) (map (row_number x) (operands gate)) ∷ []) (body_sites (unfoldings modules) key (xs ++ i ∷ ys)) rows' last') (ends_qubits modules key ext) made' in
      let places : List Wire = places_after (unfoldings modules) xs (start_places key) (params_of key) in
      let next : Numbers = after_events (params_of key) (events_of (unfoldings modules) key xs) in
      let gates = is times (unfoldings modules) places next ∙ ap (λ (x : ℕ). replicate x (timed times (rename_gate (placed (places_after (unfoldings modules) xs (start_places key) (params_of key))) gate))) k.1 in
      after_stands tables times body modules key n d i rows' last' h e
      (subst (λ (gs : List Timed). Stands gs (body_sites (unfoldings modules) key (xs ++ i ∷ ys)) rows' last')
      (sym (gates_more times (unfoldings modules) key xs i ∙ ap (λ (gs : List Timed). map (timed times) (gates_in (events_of (unfoldings modules) key xs)) ++ gs) gates))
      (gate_stands (unfoldings modules) times key xs i ys gate f k.0 (map (timed times) (gates_in (events_of (unfoldings modules) key xs))) rows' last' made''))

  pub gate_why : (gate : Gate) (t : ℕ) → 1 ≤ t → IsGates i gate t → GateFits (after_items body.params xs) gate → (fault : PathFault) → WhyGate rows last (t * duration times gate.kind) (map (row_number q) (operands gate)) fault → WhyItem tables times body n rows last fault
  unfolding IsGates
  gate_why gate t some is fits Memory why = λ st. tt
  gate_why gate t some is fits CountTooLarge why = λ st modules key ext sf.
      let k = some_suc t some in
      let f : GateFits (after_items (params_of key) xs) gate = subst (λ (m : Numbers). GateFits (after_items m xs) gate) (sym ext.params) fits in
      let made = why (map (timed times) (gates_in (events_of (unfoldings modules) key xs))) (body_sites (unfoldings modules) key (xs ++ i ∷ ys)) (here modules key ext sf st) in
      let made' = subst (λ (x : ℕ). Passes (best (map (timed times) (gates_in (events_of (unfoldings modules) key xs)) ++ gate_at (body_sites (unfoldings modules) key (xs ++ i ∷ ys)) (x * duration times gate.kind) (map (row_number q) (operands gate)) ∷ []) None None)) k.1 made in
      let made'' = subst (λ (x : ℕ). Passes (best (map (timed times) (gates_in (events_of (unfoldings modules) key xs)) ++ gate_at (body_sites (unfoldings modules) key (xs ++ i ∷ ys)) (suc k.0 * duration times gate.kind) (map (row_number x) (operands gate)) ∷ []) None None)) (ends_qubits modules key ext) made' in
      let places : List Wire = places_after (unfoldings modules) xs (start_places key) (params_of key) in
      let next : Numbers = after_events (params_of key) (events_of (unfoldings modules) key xs) in
      let gates = is times (unfoldings modules) places next ∙ ap (λ (x : ℕ). replicate x (timed times (rename_gate (placed (places_after (unfoldings modules) xs (start_places key) (params_of key))) gate))) k.1 in
      critical_heavy times modules key body.items (xs ++ i ∷ []) ys split
      (subst (λ (gs : List Timed). Passes (best gs None None))
      (sym (gates_more times (unfoldings modules) key xs i ∙ ap (λ (gs : List Timed). map (timed times) (gates_in (events_of (unfoldings modules) key xs)) ++ gs) gates))
      (gate_heavy (unfoldings modules) times key xs i ys gate f k.0 (map (timed times) (gates_in (events_of (unfoldings modules) key xs))) made''))

  -- a call of an item, in a deck
  pub record Ready (modules : List Module) (key : Key) (wires : List Wire) (table : List (List Entry)) : Type 0 where
    pub deck : IsDeck modules
    pub fits : ItemsFit (params_of key) (xs ++ i ∷ ys)
    pub calls : CallsFit modules (xs ++ i ∷ ys)
    pub wires_fit : WiresFit (after_items (params_of key) xs) wires
    pub m : Module
    pub classes : map class_of wires ≡ param_classes m.key
    pub callee : List Timed
    pub stays : places_with i (places_after (unfoldings modules) xs (start_places key) (params_of key)) (after_events (params_of key) (events_of (unfoldings modules) key xs)) ≡ places_after (unfoldings modules) xs (start_places key) (params_of key)
    pub is : map (timed times) (gates_in (unfold_item (unfoldings modules) i (places_after (unfoldings modules) xs (start_places key) (params_of key)) (after_events (params_of key) (events_of (unfoldings modules) key xs))))
        ≡ map (rename_timed (put (map (placed (places_after (unfoldings modules) xs (start_places key) (params_of key))) wires) (after_events (params_of key) (events_of (unfoldings modules) key xs)))) callee
    pub on : GatesOn (AfterCall modules deck key xs i ys fits calls wires wires_fit m classes)
        (gates_in (unfold_item (unfoldings modules) i (places_after (unfoldings modules) xs (start_places key) (params_of key)) (after_events (params_of key) (events_of (unfoldings modules) key xs))))
    pub has : IsTable callee (params_of m.key).qubits (both (params_of m.key)) table

  -- THE ROWS after a call
  pub step_ready : (wires : List Wire) (table : List (List Entry)) → ((modules : List Module) (key : Key) → Extends modules key body → StandsFor tables times modules → Ready modules key wires table) →
      length rows ≡ both (wires_of body) → length last ≡ both body.params + 1 → (rows' : List (List Entry)) (last' : List ℕ) → Called rows last (rows_for q wires) table rows' last' →
      StandsAt tables times body n rows last → StandsAt tables times body (n + 1) rows' last'
  step_ready wires table ready size long rows' last' step st = λ modules key ext sf.
      let r = ready modules key ext sf in
      after_stands tables times body modules key n d i rows' last' h e
      (call_more modules r.deck key xs i ys r.fits r.calls wires r.wires_fit r.m r.classes times r.callee rows last table (size ∙ ends_both modules key ext) (long ∙ ap (λ (m : Numbers). both m + 1) (sym ext.params)) r.stays r.is r.on r.has
      (here modules key ext sf st) rows' last'
      (subst (λ (x : ℕ). Called rows last (rows_for x wires) table rows' last') (ends_qubits modules key ext) step))

  pub why_ready : (wires : List Wire) (table : List (List Entry)) → ((modules : List Module) (key : Key) → Extends modules key body → StandsFor tables times modules → Ready modules key wires table) →
      length rows ≡ both (wires_of body) → length last ≡ both body.params + 1 → (fault : PathFault) → WhyNoCall rows last (rows_for q wires) table fault → WhyItem tables times body n rows last fault
  why_ready wires table ready size long Memory why = λ st. tt
  why_ready wires table ready size long CountTooLarge why = λ st modules key ext sf.
      let r = ready modules key ext sf in
      critical_heavy times modules key body.items (xs ++ i ∷ []) ys split
      (call_heavy modules r.deck key xs i ys r.fits r.calls wires r.wires_fit r.m r.classes times r.callee rows last table (size ∙ ends_both modules key ext) (long ∙ ap (λ (m : Numbers). both m + 1) (sym ext.params)) r.stays r.is r.on r.has
      (here modules key ext sf st)
      (subst (λ (x : ℕ). WhyNoCall rows last (rows_for x wires) table CountTooLarge) (ends_qubits modules key ext) why))

  module _ (callee : ℕ) (wires : List Wire) (fits : WiresFit (after_items body.params xs) wires) (known : CallKnown tables callee (length wires)) (dt : Table) (modules : List Module) (key : Key) (ext : Extends modules key body) (sf : StandsFor tables times modules) where
    deck_here : Within modules key body.items
    deck_here = within_deck modules key body ext

    items_fit : ItemsFit (params_of key) (xs ++ i ∷ ys)
    items_fit = subst (ItemsFit (params_of key)) (cut body.items n d i h e) deck_here.fits

    calls_fit : CallsFit modules (xs ++ i ∷ ys)
    calls_fit = subst (CallsFit modules) (cut body.items n d i h e) deck_here.calls

    fit_here : WiresFit (after_items (params_of key) xs) wires
    fit_here = subst (λ (m : Numbers). WiresFit (after_items m xs) wires) (sym ext.params) fits

    abbrev places : List Wire
    places = places_after (unfoldings modules) xs (start_places key) (params_of key)

    abbrev next : Numbers
    next = after_events (params_of key) (events_of (unfoldings modules) key xs)

    abbrev table : Table
    table = get_or tables callee dt

    has_of : (c : Callee modules callee wires) → IsTable (timed_gates times modules callee) (params_of c.m.key).qubits (both (params_of c.m.key)) table.rows
    has_of c = sf.each callee c.m table c.at (callee_at tables callee dt (callee_below tables callee (length wires) known))

    pub ready_call : i ≡ item.Call callee wires → Ready modules key wires table.rows
    ready_call ic =
        let c = callee_of modules callee wires (subst (ItemCallFits modules) ic (item_call modules xs i ys calls_fit)) in
        let ev : unfold_item (unfoldings modules) i places next ≡ unfold_on modules callee (map (placed places) wires) next = ap (λ (x : Item). unfold_item (unfoldings modules) x places next) ic in
        record {
          deck = deck_here.deck;
          fits = items_fit;
          calls = calls_fit;
          wires_fit = fit_here;
          m = c.m;
          classes = c.classes;
          callee = timed_gates times modules callee;
          stays = ap (λ (x : Item). places_with x places next) ic;
          is = ap (λ (es : List Event). map (timed times) (gates_in es)) ev ∙ call_is times modules deck_here.deck callee c.m c.at (map (placed places) wires) next (passed_kinds modules deck_here.deck key xs i ys items_fit calls_fit wires fit_here c.m c.classes);
          on = call_on modules deck_here.deck key xs i ys items_fit calls_fit wires fit_here c.m c.classes callee c.at ev;
          has = has_of c;
        }

    module _ (t : ℕ) (ic : i ≡ item.Calls callee wires t) (are : AreTimes times) where
      called : Callee modules callee wires
      called = callee_of modules callee wires (subst (ItemCallFits modules) ic (item_call modules xs i ys calls_fit))

      events_are : unfold_item (unfoldings modules) i places next ≡ repeated t (unfold_on modules callee (map (placed places) wires)) next
      events_are = ap (λ (x : Item). unfold_item (unfoldings modules) x places next) ic

      gates_are : map (timed times) (gates_in (unfold_item (unfoldings modules) i places next)) ≡ map (rename_timed (put (map (placed places) wires) next)) (turn times modules deck_here.deck callee called.m called.at t)
      gates_are =
          ap (λ (es : List Event). map (timed times) (gates_in es)) events_are
          ∙ calls_are times modules deck_here.deck callee called.m called.at (map (placed places) wires) next (passed_kinds modules deck_here.deck key xs i ys items_fit calls_fit wires fit_here called.m called.classes) t

      below_one : length table.rows - 1 ≡ both (params_of called.m.key)
      below_one = let s = (has_of called).size in omega arith

      turns_here : AreTurns (params_of called.m.key).qubits (length table.rows - 1) (turn times modules deck_here.deck callee called.m called.at)
      turns_here = subst (λ (k : ℕ). AreTurns (params_of called.m.key).qubits k (turn times modules deck_here.deck callee called.m called.at)) (sym below_one) (deck_turns times modules deck_here.deck callee called.m called.at are)

      one_here : IsTable (turn times modules deck_here.deck callee called.m called.at 1) (params_of called.m.key).qubits (length table.rows - 1) table.rows
      one_here =
          subst (λ (k : ℕ). IsTable (turn times modules deck_here.deck callee called.m called.at 1) (params_of called.m.key).qubits k table.rows) (sym below_one)
          (subst (λ (gs : List Timed). IsTable gs (params_of called.m.key).qubits (both (params_of called.m.key)) table.rows) (first_turn times modules deck_here.deck callee called.m called.at) (has_of called))

      pub ready_calls : (power : List (List Entry)) → ((q : ℕ) (turns : ℕ → List Timed) → AreTurns q (length table.rows - 1) turns → IsTable (turns 1) q (length table.rows - 1) table.rows → IsTable (turns t) q (length table.rows - 1) power) → Ready modules key wires power
      ready_calls power powers = record {
        deck = deck_here.deck;
        fits = items_fit;
        calls = calls_fit;
        wires_fit = fit_here;
        m = called.m;
        classes = called.classes;
        callee = turn times modules deck_here.deck callee called.m called.at t;
        stays = ap (λ (x : Item). places_with x places next) ic;
        is = gates_are;
        on = calls_on modules deck_here.deck key xs i ys items_fit calls_fit wires fit_here called.m called.classes callee t called.at events_are;
        has = subst (λ (k : ℕ). IsTable (turn times modules deck_here.deck callee called.m called.at t) (params_of called.m.key).qubits k power) below_one
            (powers (params_of called.m.key).qubits (turn times modules deck_here.deck callee called.m called.at) turns_here one_here);
      }

      pub power_heavy : ((q : ℕ) (turns : ℕ → List Timed) → AreTurns q (length table.rows - 1) turns → IsTable (turns 1) q (length table.rows - 1) table.rows → Passes (best (turns t) None None)) →
          2 ^ 128 ≤ critical_of (timed_gates times (modules ++ record { key = key; items = body.items } ∷ []) (length modules))
      power_heavy why =
          critical_heavy times modules key body.items (xs ++ i ∷ []) ys split
          (callee_heavy modules deck_here.deck key xs i ys items_fit calls_fit wires fit_here called.m called.classes times (turn times modules deck_here.deck callee called.m called.at t) gates_are
          (why (params_of called.m.key).qubits (turn times modules deck_here.deck callee called.m called.at) turns_here one_here))

  pub why_power : (callee : ℕ) (wires : List Wire) (t : ℕ) (dt : Table) (fault : PathFault) → WiresFit (after_items body.params xs) wires → CallKnown tables callee (length wires) → i ≡ item.Calls callee wires t → AreTimes times →
      WhyPower (get_or tables callee dt).rows t fault → WhyItem tables times body n rows last fault
  why_power callee wires t dt Memory fits known ic are why = λ st. tt
  why_power callee wires t dt CountTooLarge fits known ic are why = λ st modules key ext sf. power_heavy callee wires fits known dt modules key ext sf t ic are why

  module _ (callee : ℕ) (wires ws : List Wire) (tab : List (List Entry)) (dt : Table) (fits : WiresFit (after_items body.params xs) wires) (known : CallKnown tables callee (length wires)) (same : ws ≡ wires)
      (size : length rows ≡ both (wires_of body)) (long : length last ≡ both body.params + 1) where
    pub call_step : i ≡ item.Call callee wires → tab ≡ (get_or tables callee dt).rows → (rows' : List (List Entry)) (last' : List ℕ) → Called rows last (rows_for q ws) tab rows' last' →
        StandsAt tables times body n rows last → StandsAt tables times body (n + 1) rows' last'
    call_step ic is rows' last' step =
        step_ready wires (get_or tables callee dt).rows (λ modules key ext sf. ready_call callee wires fits known dt modules key ext sf ic) size long rows' last'
        (subst (λ (v : List Wire). Called rows last (rows_for q v) (get_or tables callee dt).rows rows' last') same (subst (λ (r : List (List Entry)). Called rows last (rows_for q ws) r rows' last') is step))

    pub call_why : i ≡ item.Call callee wires → tab ≡ (get_or tables callee dt).rows → (fault : PathFault) → WhyNoCall rows last (rows_for q ws) tab fault → WhyItem tables times body n rows last fault
    call_why ic is fault why =
        why_ready wires (get_or tables callee dt).rows (λ modules key ext sf. ready_call callee wires fits known dt modules key ext sf ic) size long fault
        (subst (λ (v : List Wire). WhyNoCall rows last (rows_for q v) (get_or tables callee dt).rows fault) same (subst (λ (r : List (List Entry)). WhyNoCall rows last (rows_for q ws) r fault) is why))

    module _ (t : ℕ) (power : List (List Entry)) (ic : i ≡ item.Calls callee wires t) (are : AreTimes times) (is : tab ≡ power)
        (powers : (q : ℕ) (turns : ℕ → List Timed) → AreTurns q (length (get_or tables callee dt).rows - 1) turns → IsTable (turns 1) q (length (get_or tables callee dt).rows - 1) (get_or tables callee dt).rows → IsTable (turns t) q (length (get_or tables callee dt).rows - 1) power) where
      pub calls_step : (rows' : List (List Entry)) (last' : List ℕ) → Called rows last (rows_for q ws) tab rows' last' → StandsAt tables times body n rows last → StandsAt tables times body (n + 1) rows' last'
      calls_step rows' last' step =
          step_ready wires power (λ modules key ext sf. ready_calls callee wires fits known dt modules key ext sf t ic are power powers) size long rows' last'
          (subst (λ (v : List Wire). Called rows last (rows_for q v) power rows' last') same (subst (λ (r : List (List Entry)). Called rows last (rows_for q ws) r rows' last') is step))

      pub calls_why : (fault : PathFault) → WhyNoCall rows last (rows_for q ws) tab fault → WhyItem tables times body n rows last fault
      calls_why fault why =
          why_ready wires power (λ modules key ext sf. ready_calls callee wires fits known dt modules key ext sf t ic are power powers) size long fault
          (subst (λ (v : List Wire). WhyNoCall rows last (rows_for q v) power fault) same (subst (λ (r : List (List Entry)). WhyNoCall rows last (rows_for q ws) r fault) is why))

  -- fresh wires leave the rows
  pub fresh_step : (class : Class) (m : ℕ) → i ≡ item.Fresh class m → StandsAt tables times body n rows last → StandsAt tables times body (n + 1) rows last
  fresh_step class m ic st = λ modules key ext sf.
      let places : List Wire = places_after (unfoldings modules) xs (start_places key) (params_of key) in
      let next : Numbers = after_events (params_of key) (events_of (unfoldings modules) key xs) in
      let none : map (timed times) (gates_in (unfold_item (unfoldings modules) i (places_after (unfoldings modules) xs (start_places key) (params_of key)) (after_events (params_of key) (events_of (unfoldings modules) key xs)))) ≡ [] =
      ap (λ (x : Item). map (timed times) (gates_in (unfold_item (unfoldings modules) x (places_after (unfoldings modules) xs (start_places key) (params_of key)) (after_events (params_of key) (events_of (unfoldings modules) key xs))))) ic in
      after_stands tables times body modules key n d i rows last h e
      (subst (λ (gs : List Timed). Stands gs (body_sites (unfoldings modules) key (xs ++ i ∷ ys)) rows last)
      (sym (gates_more times (unfoldings modules) key xs i ∙ ap (λ (gs : List Timed). map (timed times) (gates_in (events_of (unfoldings modules) key xs)) ++ gs) none ∙ append-nil (map (timed times) (gates_in (events_of (unfoldings modules) key xs)))))
      (here modules key ext sf st))
