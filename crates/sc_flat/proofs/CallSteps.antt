-- The events that are left before and after fresh wires, a call and a return.
use Rattle.std.proofs.Common.{◌≡◌, ℕ, ◌+◌, ◌≤◌, List, [], ◌∷◌, ◌++◌, map, drop, take, length, Some, refl, sym, ap, ◌∙◌, append_assoc, subst}
use Rattle.std.specs.Prelude.{slice_get}
use Rattle.std.specs.Option.{option_map_or}
use Rattle.std.proofs.lemmas.List.{take_at, drop_at, drop_all}
use Rattle.sc_base.specs.declared.names.Class.TheVariants.{Q, C}
use Rattle.sc_gate.specs.declared.gate.Wire.{Wire}
use Rattle.sc_gate.specs.Numbers.{Numbers}
use Rattle.sc_deck.specs.declared.item.Item.{Item}
use Rattle.sc_deck.specs.declared.key.Key.{Key}
use Rattle.sc_deck.specs.Decks.{IsDeck}
use Rattle.sc_deck.specs.Events.{Event, Enter, Return, after_events}
use Rattle.sc_deck.specs.Keys.{main_key}
use Rattle.sc_deck.specs.Modules.{Module, key_of}
use Rattle.sc_deck.specs.Turns.{turns_of}
use Rattle.sc_deck.specs.Unfolding.{Unfolding, unfold_items, unfold_on, unfoldings, placed}
use Rattle.sc_deck.proofs.SequenceLaws.{after_events-append}
use Rattle.sc_deck.proofs.EarlierLaws.{unfold_on-at}
use Rattle.sc_flat.specs.declared.frames.Frame.{Frame}
use Rattle.sc_flat.specs.declared.walk.Walk.{Walk}
use Rattle.sc_flat.specs.Frames.{wires_in, numbers_in}
use Rattle.sc_flat.specs.Walks.{less_turns, less, Open, rest_of, open_of, opens, numbers, rest, places_of, own_qubits, own_cbits, turned, inside, outside}
use Rattle.sc_flat.proofs.PlaceLemmas.{same_numbered}
use Rattle.sc_flat.proofs.TurnLemmas.{once, IsStep, items_same, less_none}
use Rattle.sc_flat.proofs.StepLemmas.{closed, split, Before, outer, rest_in, rest_before, turn_left}

-- out of a body whose items are done
pub leave_turn : (modules : List Module) (w : Walk) (m : Module) (f : Frame) (frames : List Frame) → slice_get modules w.top.body ≡ Some m → length m.items ≤ w.top.item →
    w.below.frames ≡ f ∷ frames → rest modules w ≡ (Return m.key ∷ []) ++ rest modules (outside f frames w)
leave_turn modules w m f frames at past below =
    rest_in modules w m at
    ∙ ap (λ items. closed (unfoldings modules) m.key (less w.top.done items) (places_of w) (numbers w) (outer modules w)) (drop_all w.top.item m.items past)
    ∙ ap (λ fs. Return m.key ∷ rest_of (unfoldings modules) (opens modules fs (take w.top.qubits w.wires.qubits) (take w.top.cbits w.wires.cbits)) (numbers w)) below

-- nothing is left but the return where the outermost body is done
pub last_return : (modules : List Module) (w : Walk) (m : Module) → slice_get modules w.top.body ≡ Some m → length m.items ≤ w.top.item → w.below.frames ≡ [] →
    rest modules w ≡ Return m.key ∷ []
last_return modules w m at past below =
    rest_in modules w m at
    ∙ ap (λ items. closed (unfoldings modules) m.key (less w.top.done items) (places_of w) (numbers w) (outer modules w)) (drop_all w.top.item m.items past)
    ∙ ap (λ fs. Return m.key ∷ rest_of (unfoldings modules) (opens modules fs (take w.top.qubits w.wires.qubits) (take w.top.cbits w.wires.cbits)) (numbers w)) below

-- the events of a callee, and then those of the caller
entered : (us : List Unfolding) (key caller : Key) (items left : List Item) (ws ps : List Wire) (next : Numbers) (os : List Open) →
    (Enter key ws ∷ (unfold_items us items ws next ++ Return key ∷ []))
    ++ closed us caller left ps (after_events next (Enter key ws ∷ (unfold_items us items ws next ++ Return key ∷ []))) os
    ≡ (Enter key ws ∷ []) ++ closed us key items ws next (record { key = caller; left = left; places = ps } ∷ os)
entered us key caller items left ws ps next os =
    let events : List Event = unfold_items us items ws next in
    ap (λ (m : Numbers). (Enter key ws ∷ (events ++ Return key ∷ [])) ++ closed us caller left ps m os) (after_events-append next events (Return key ∷ []))
    ∙ ap (λ es. Enter key ws ∷ es) (append_assoc events (Return key ∷ []) (closed us caller left ps (after_events next events) os))

-- the innermost body after the wires of a call were put behind all others
inner_places : (w : Walk) (j n : ℕ) (ws : List Wire) → places_of (inside j ws n w) ≡ wires_in (numbers_in Q (map (placed (places_of w)) ws)) (numbers_in C (map (placed (places_of w)) ws))
inner_places w j n ws =
    let q : drop (length w.wires.qubits) (w.wires.qubits ++ numbers_in Q (map (placed (places_of w)) ws)) ≡ numbers_in Q (map (placed (places_of w)) ws) = drop_at w.wires.qubits _ (length w.wires.qubits) refl in
    let c : drop (length w.wires.cbits) (w.wires.cbits ++ numbers_in C (map (placed (places_of w)) ws)) ≡ numbers_in C (map (placed (places_of w)) ws) = drop_at w.wires.cbits _ (length w.wires.cbits) refl in
    λ k. wires_in (q k) (c k)

inner_outer : (modules : List Module) (w : Walk) (j n : ℕ) (ws : List Wire) →
    outer modules (inside j ws n w) ≡ open_of modules (turned n w.top) (own_qubits w) (own_cbits w) ∷ outer modules w
inner_outer modules w j n ws =
    let q : take (length w.wires.qubits) (w.wires.qubits ++ numbers_in Q (map (placed (places_of w)) ws)) ≡ w.wires.qubits = take_at w.wires.qubits _ (length w.wires.qubits) refl in
    let c : take (length w.wires.cbits) (w.wires.cbits ++ numbers_in C (map (placed (places_of w)) ws)) ≡ w.wires.cbits = take_at w.wires.cbits _ (length w.wires.cbits) refl in
    λ k. opens modules (turned n w.top ∷ w.below.frames) (q k) (c k)

-- into a call
pub enter_turn : (modules : List Module) → IsDeck modules → (w : Walk) (m callee : Module) (i : Item) (j : ℕ) (ws : List Wire) → Before modules w m i → IsStep i →
    slice_get modules j ≡ Some callee →
    ((next : Numbers) → once (unfoldings modules) i (places_of w) next ≡ unfold_on modules j (map (placed (places_of w)) ws) next) →
    rest modules w ≡ (Enter callee.key (map (placed (places_of w)) ws) ∷ []) ++ rest modules (inside j ws (turns_of i) w)
enter_turn modules deck w m callee i j ws b step there is =
    let us : List Unfolding = unfoldings modules in
    let vs : List Wire = map (placed (places_of w)) ws in
    let left : List Item = less (turned (turns_of i) w.top).done (drop (turned (turns_of i) w.top).item m.items) in
    let whole : List Event = Enter callee.key vs ∷ (unfold_items us callee.items vs (numbers w) ++ Return callee.key ∷ []) in
    let is' : once us i (places_of w) (numbers w) ≡ whole = is (numbers w) ∙ (λ k. unfold_on-at modules deck j callee there k vs (numbers w)) in
    let e = turn_left us w.top m i (places_of w) (numbers w) b.here b.done step in
    let e' = subst (λ events. unfold_items us (less_turns w.top.done i ∷ drop (w.top.item + 1) m.items) (places_of w) (numbers w)
    ≡ events ++ unfold_items us left (places_of w) (after_events (numbers w) events)) is' e in
    let o : open_of modules (turned (turns_of i) w.top) (own_qubits w) (own_cbits w) ≡ record { key = m.key; left = left; places = places_of w } =
    λ k. record {
      key = option_map_or key_of (b.at k) main_key;
      left = less (turned (turns_of i) w.top).done (drop (turned (turns_of i) w.top).item (option_map_or (λ (n : Module). n.items) (b.at k) []));
      places = places_of w;
    } in
    let new : rest modules (inside j ws (turns_of i) w) ≡ closed us callee.key callee.items vs (numbers w) (record { key = m.key; left = left; places = places_of w } ∷ outer modules w) =
    rest_in modules (inside j ws (turns_of i) w) callee there
    ∙ ap (λ items. closed us callee.key items (places_of (inside j ws (turns_of i) w)) (numbers w) (outer modules (inside j ws (turns_of i) w))) (less_none callee.items)
    ∙ ap (λ os. closed us callee.key callee.items (places_of (inside j ws (turns_of i) w)) (numbers w) os) (inner_outer modules w j (turns_of i) ws ∙ ap (λ v. v ∷ outer modules w) o)
    ∙ ap (λ events. events ++ (Return callee.key ∷ rest_of us (record { key = m.key; left = left; places = places_of w } ∷ outer modules w) (after_events (numbers w) events)))
    (ap (λ ps. unfold_items us callee.items ps (numbers w)) (inner_places w j (turns_of i) ws) ∙ items_same us callee.items _ vs (numbers w) (same_numbered vs)) in
    rest_before modules w m i b
    ∙ split us m.key (less_turns w.top.done i ∷ drop (w.top.item + 1) m.items) left (places_of w) (places_of w) (numbers w) whole (outer modules w) e'
    ∙ entered us callee.key m.key callee.items left vs (places_of w) (numbers w) (outer modules w)
    ∙ ap (λ events. (Enter callee.key vs ∷ []) ++ events) (sym new)
