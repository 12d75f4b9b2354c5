-- The events that are left before and after fresh wires, and before and after a call that is gone over.
use Rattle.std.proofs.Common.{◌≡◌, ℕ, zero, suc, ◌+◌, ◌-◌, ◌*◌, ◌≤◌, List, [], ◌∷◌, ◌++◌, map, drop, take, length, Some, refl, sym, ap, ◌∙◌, arith}
use Rattle.std.specs.Prelude.{slice_get}
use Rattle.std.proofs.lemmas.List.{append-nil, drop-append-le, take-append-le, map-append}
use Rattle.sc_base.specs.declared.names.Class.{Class}
use Rattle.sc_base.specs.declared.names.Class.TheVariants.{Q, C}
use Rattle.sc_gate.specs.declared.gate.Wire.{Wire}
use Rattle.sc_gate.specs.Gates.{class_of}
use Rattle.sc_gate.specs.Numbers.{Numbers, number_of, with_more}
use Rattle.sc_deck.specs.declared.item.Item.{Item}
use Rattle.sc_deck.specs.declared.item.Item.TheVariants as item
use Rattle.sc_deck.specs.Decks.{IsDeck}
use Rattle.sc_deck.specs.Events.{Event, Fresh, Return, after_events, gates_in, fresh_in}
use Rattle.sc_deck.specs.Keys.{param_classes}
use Rattle.sc_deck.specs.Modules.{Module}
use Rattle.sc_deck.specs.Renaming.{wire}
use Rattle.sc_deck.specs.Turns.{turns_of}
use Rattle.sc_deck.specs.Unfolding.{Unfolding, unfold_items, unfold_on, unfoldings, placed, of_class, wires_from, repeated, expansion, gates_of}
use Rattle.sc_deck.proofs.SequenceLaws.{after_events-adds, gates_in-append}
use Rattle.sc_deck.proofs.PlaceLaws.{of_class-same, of_class-other}
use Rattle.sc_deck.proofs.PutLaws.{fresh_in-put, gates_in-put, fresh_in-repeated}
use Rattle.sc_flat.specs.declared.size.Size.{Size}
use Rattle.sc_flat.specs.declared.walk.Walk.{Walk}
use Rattle.sc_flat.specs.Frames.{wires_in, numbers_from}
use Rattle.sc_flat.specs.Kept.{IsSizeOf}
use Rattle.sc_flat.specs.Walks.{less_turns, rest_of, opens, numbers, rest, places_of, own_qubits, own_cbits, with_fresh, without_turns}
use Rattle.sc_flat.proofs.PlaceLemmas.{Same, of_class-qubits, of_class-cbits, of_class-push}
use Rattle.sc_flat.proofs.TurnLemmas.{once, IsStep, items_same, less_none, left_turns}
use Rattle.sc_flat.proofs.StepLemmas.{closed, split, Before, outer, rest_in, rest_before}

run_wires : (class : Class) (first n : ℕ) → map (wire class) (numbers_from first n) ≡ wires_from class first n
run_wires class first zero = refl
run_wires class first (suc n) = ap (λ ws. wire class first ∷ ws) (run_wires class (suc first) n)

more_qubits : (qubits cbits : List ℕ) (first n : ℕ) → Same (wires_in qubits cbits ++ wires_from Q first n) (wires_in (qubits ++ numbers_from first n) cbits)
more_qubits qubits cbits first n = record { of = by }
  where
    by : (class : Class) → of_class class (wires_in qubits cbits ++ wires_from Q first n) ≡ of_class class (wires_in (qubits ++ numbers_from first n) cbits)
    by Q =
        of_class-push Q (wires_in qubits cbits) (wires_from Q first n)
        ∙ (λ k. of_class-qubits qubits cbits k ++ (of_class-same Q first n ∙ sym (run_wires Q first n)) k)
        ∙ sym (map-append (wire Q) qubits (numbers_from first n)) ∙ sym (of_class-qubits (qubits ++ numbers_from first n) cbits)
    by C =
        of_class-push C (wires_in qubits cbits) (wires_from Q first n)
        ∙ (λ k. of_class-cbits qubits cbits k ++ of_class-other C Q first n refl k)
        ∙ append-nil (map (wire C) cbits) ∙ sym (of_class-cbits (qubits ++ numbers_from first n) cbits)

more_cbits : (qubits cbits : List ℕ) (first n : ℕ) → Same (wires_in qubits cbits ++ wires_from C first n) (wires_in qubits (cbits ++ numbers_from first n))
more_cbits qubits cbits first n = record { of = by }
  where
    by : (class : Class) → of_class class (wires_in qubits cbits ++ wires_from C first n) ≡ of_class class (wires_in qubits (cbits ++ numbers_from first n))
    by C =
        of_class-push C (wires_in qubits cbits) (wires_from C first n)
        ∙ (λ k. of_class-cbits qubits cbits k ++ (of_class-same C first n ∙ sym (run_wires C first n)) k)
        ∙ sym (map-append (wire C) cbits (numbers_from first n)) ∙ sym (of_class-cbits qubits (cbits ++ numbers_from first n))
    by Q =
        of_class-push Q (wires_in qubits cbits) (wires_from C first n)
        ∙ (λ k. of_class-qubits qubits cbits k ++ of_class-other Q C first n refl k)
        ∙ append-nil (map (wire Q) qubits) ∙ sym (of_class-qubits qubits (cbits ++ numbers_from first n))

-- fresh wires
pub fresh_turn : (modules : List Module) (w : Walk) (m : Module) (class : Class) (n : ℕ) → Before modules w m (item.Fresh class n) →
    w.top.qubits ≤ length w.wires.qubits → w.top.cbits ≤ length w.wires.cbits → rest modules w ≡ (Fresh class n ∷ []) ++ rest modules (with_fresh class n w)
fresh_turn modules w m Q n b hq hc =
    let us : List Unfolding = unfoldings modules in
    let next : Numbers = with_more Q n (numbers w) in
    let run : List ℕ = numbers_from w.next_qubit n in
    let own = drop-append-le w.top.qubits w.wires.qubits run hq in
    let others = take-append-le w.top.qubits w.wires.qubits run hq in
    let new : rest modules (with_fresh Q n w) ≡ closed us m.key (drop (w.top.item + 1) m.items) (places_of w ++ wires_from Q w.next_qubit n) next (outer modules w) =
    rest_in modules (with_fresh Q n w) m b.at
    ∙ (λ k. closed us m.key (less_none (drop (w.top.item + 1) m.items) k) (wires_in (own k) (own_cbits w)) next
    (opens modules w.below.frames (others k) (take w.top.cbits w.wires.cbits)))
    ∙ ap (λ events. events ++ (Return m.key ∷ rest_of us (outer modules w) (after_events next events)))
    (sym (items_same us (drop (w.top.item + 1) m.items) _ _ next (more_qubits (own_qubits w) (own_cbits w) w.next_qubit n))) in
    rest_before modules w m (item.Fresh Q n) b ∙ ap (λ events. Fresh Q n ∷ events) (sym new)
fresh_turn modules w m C n b hq hc =
    let us : List Unfolding = unfoldings modules in
    let next : Numbers = with_more C n (numbers w) in
    let run : List ℕ = numbers_from w.next_cbit n in
    let own = drop-append-le w.top.cbits w.wires.cbits run hc in
    let others = take-append-le w.top.cbits w.wires.cbits run hc in
    let new : rest modules (with_fresh C n w) ≡ closed us m.key (drop (w.top.item + 1) m.items) (places_of w ++ wires_from C w.next_cbit n) next (outer modules w) =
    rest_in modules (with_fresh C n w) m b.at
    ∙ (λ k. closed us m.key (less_none (drop (w.top.item + 1) m.items) k) (wires_in (own_qubits w) (own k)) next
    (opens modules w.below.frames (take w.top.qubits w.wires.qubits) (others k)))
    ∙ ap (λ events. events ++ (Return m.key ∷ rest_of us (outer modules w) (after_events next events)))
    (sym (items_same us (drop (w.top.item + 1) m.items) _ _ next (more_cbits (own_qubits w) (own_cbits w) w.next_cbit n))) in
    rest_before modules w m (item.Fresh C n) b ∙ ap (λ events. Fresh C n ∷ events) (sym new)

-- turns without a gate have no gate together
no_gates : (step : Numbers → List Event) → ((next : Numbers) → gates_in (step next) ≡ []) → (n : ℕ) (next : Numbers) → gates_in (repeated n step next) ≡ []
no_gates step none zero next = refl
no_gates step none (suc n) next =
    gates_in-append (step next) (repeated n step (after_events next (step next)))
    ∙ (λ k. none next k ++ no_gates step none n (after_events next (step next)) k)

nothing : {X : Type 0} (xs : List X) → length xs ≡ 0 → xs ≡ []
nothing [] e = refl
nothing (x ∷ xs) e = absurd (omega (arith, e))

-- the turns of a call that are left, where its expansion has no gate
pub skip_gates : (modules : List Module) → IsDeck modules → (j : ℕ) (callee : Module) (ws : List Wire) (size : Size) → slice_get modules j ≡ Some callee →
    map class_of ws ≡ param_classes callee.key → IsSizeOf modules j size → size.gates ≡ 0 → (n : ℕ) (next : Numbers) → gates_in (repeated n (unfold_on modules j ws) next) ≡ []
skip_gates modules deck j callee ws size there classes is none n next =
    no_gates (unfold_on modules j ws)
    (λ (m : Numbers). let e = gates_in-put modules deck j callee there ws m classes in
    e ∙ ap (map _) (nothing (gates_of modules j) (sym is.0 ∙ none)))
    n next

pub skip_numbers : (modules : List Module) → IsDeck modules → (j : ℕ) (callee : Module) (ws : List Wire) (size : Size) → slice_get modules j ≡ Some callee →
    map class_of ws ≡ param_classes callee.key → IsSizeOf modules j size → (n : ℕ) (next : Numbers) →
    after_events next (repeated n (unfold_on modules j ws) next) ≡ record { qubits = next.qubits + n * size.qubits; cbits = next.cbits + n * size.cbits }
skip_numbers modules deck j callee ws size there classes is n next =
    let each : (class : Class) → number_of class (fresh_in (repeated n (unfold_on modules j ws) next)) ≡ n * number_of class (fresh_in (expansion modules j)) =
    λ class. fresh_in-repeated (unfold_on modules j ws) class (number_of class (fresh_in (expansion modules j)))
    (λ (m : Numbers). ap (number_of class) (fresh_in-put modules deck j callee there ws m classes)) n next in
    let q : (after_events next (repeated n (unfold_on modules j ws) next)).qubits ≡ next.qubits + n * size.qubits =
    after_events-adds next (repeated n (unfold_on modules j ws) next) Q ∙ ap (λ k. next.qubits + k) (each Q ∙ ap (λ k. n * k) (sym is.1)) in
    let c : (after_events next (repeated n (unfold_on modules j ws) next)).cbits ≡ next.cbits + n * size.cbits =
    after_events-adds next (repeated n (unfold_on modules j ws) next) C ∙ ap (λ k. next.cbits + k) (each C ∙ ap (λ k. n * k) (sym is.2)) in
    λ k. record { qubits = q k; cbits = c k }

-- past a call
pub skip_turn : (modules : List Module) → IsDeck modules → (w : Walk) (m callee : Module) (i : Item) (j : ℕ) (ws : List Wire) (size : Size) → Before modules w m i → IsStep i →
    slice_get modules j ≡ Some callee → map class_of (map (placed (places_of w)) ws) ≡ param_classes callee.key → IsSizeOf modules j size →
    ((next : Numbers) → once (unfoldings modules) i (places_of w) next ≡ unfold_on modules j (map (placed (places_of w)) ws) next) →
    rest modules w ≡ repeated (turns_of i - w.top.done) (unfold_on modules j (map (placed (places_of w)) ws)) (numbers w) ++ rest modules (without_turns (turns_of i) size w)
skip_turn modules deck w m callee i j ws size b step there classes is same =
    let us : List Unfolding = unfoldings modules in
    let vs : List Wire = map (placed (places_of w)) ws in
    let t : ℕ = turns_of i - w.top.done in
    let gone : List Event = repeated t (unfold_on modules j vs) (numbers w) in
    let fn : once us i (places_of w) ≡ unfold_on modules j vs = λ k next. same next k in
    let turns : unfold_items us (less_turns w.top.done i ∷ drop (w.top.item + 1) m.items) (places_of w) (numbers w)
    ≡ gone ++ unfold_items us (drop (w.top.item + 1) m.items) (places_of w) (after_events (numbers w) gone) =
    left_turns us i w.top.done (drop (w.top.item + 1) m.items) (places_of w) (numbers w) step b.done
    ∙ (λ k. repeated t (fn k) (numbers w) ++ unfold_items us (drop (w.top.item + 1) m.items) (places_of w) (after_events (numbers w) (repeated t (fn k) (numbers w)))) in
    let next = skip_numbers modules deck j callee vs size there classes is t (numbers w) in
    rest_before modules w m i b
    ∙ split us m.key (less_turns w.top.done i ∷ drop (w.top.item + 1) m.items) (drop (w.top.item + 1) m.items) (places_of w) (places_of w) (numbers w) gone (outer modules w) turns
    ∙ (λ k. gone ++ closed us m.key (sym (less_none (drop (w.top.item + 1) m.items)) k) (places_of w) (next k) (outer modules w))
    ∙ ap (λ events. gone ++ events) (sym (rest_in modules (without_turns (turns_of i) size w) m b.at))
