-- The events that are left before and after a step.
use Rattle.std.proofs.Common.{◌≡◌, zero, suc, ◌+◌, ◌-◌, ◌<◌, nat_eq, Bool, true, false, cond, List, [], ◌∷◌, ◌++◌, drop, take, Some, refl, sym, ap, ◌∙◌, arith, append_assoc, subst}
use Rattle.std.specs.Prelude.{slice_get}
use Rattle.std.specs.Option.{option_map_or}
use Rattle.std.proofs.lemmas.Bool.Decides.{Decides-eqb}
use Rattle.sc_gate.specs.declared.gate.Wire.{Wire}
use Rattle.sc_gate.specs.declared.gate.Gate.{Gate}
use Rattle.sc_gate.specs.Numbers.{Numbers}
use Rattle.sc_gate.specs.Renaming.{rename_gate}
use Rattle.sc_deck.specs.declared.item.Item.{Item}
use Rattle.sc_deck.specs.declared.key.Key.{Key}
use Rattle.sc_deck.specs.Events.{Event, Return, Apply, after_events}
use Rattle.sc_deck.specs.Keys.{main_key}
use Rattle.sc_deck.specs.Modules.{Module, key_of}
use Rattle.sc_deck.specs.Turns.{turns_of}
use Rattle.sc_deck.specs.Unfolding.{Unfolding, unfold_items, unfoldings, placed}
use Rattle.sc_deck.proofs.SequenceLaws.{after_events-append}
use Rattle.sc_flat.specs.declared.frames.Frame.{Frame}
use Rattle.sc_flat.specs.declared.walk.Walk.{Walk}
use Rattle.sc_flat.specs.Walks.{less_turns, less, Open, rest_of, opens, numbers, rest, places_of, turned, with_turn}
use Rattle.sc_flat.proofs.TurnLemmas.{once, turns_then, IsStep, left_turns, first_turn, less_none}

-- the events of an open body, and of those outside of it
abbrev pub closed : List Unfolding → Key → List Item → List Wire → Numbers → List Open → List Event
closed us key left places next os =
    let events : List Event = unfold_items us left places next in
    events ++ (Return key ∷ rest_of us os (after_events next events))

-- events that go first in the body go first in all
pub split : (us : List Unfolding) (key : Key) (left left' : List Item) (ps ps' : List Wire) (next : Numbers) (first : List Event) (os : List Open) →
    unfold_items us left ps next ≡ first ++ unfold_items us left' ps' (after_events next first) →
    closed us key left ps next os ≡ first ++ closed us key left' ps' (after_events next first) os
split us key left left' ps ps' next first os e =
    let more : List Event = unfold_items us left' ps' (after_events next first) in
    (λ k. e k ++ (Return key ∷ rest_of us os (after_events next (e k))))
    ∙ ap (λ (m : Numbers). (first ++ more) ++ (Return key ∷ rest_of us os m)) (after_events-append next first more)
    ∙ append_assoc first more (Return key ∷ rest_of us os (after_events (after_events next first) more))

-- the walk stands before an item of a module
pub record Before (modules : List Module) (w : Walk) (m : Module) (i : Item) : Type 0 where
  pub at : slice_get modules w.top.body ≡ Some m
  pub here : drop w.top.item m.items ≡ i ∷ drop (w.top.item + 1) m.items
  pub done : w.top.done < turns_of i

-- the bodies outside of the innermost one
abbrev pub outer : List Module → Walk → List Open
outer modules w = opens modules w.below.frames (take w.top.qubits w.wires.qubits) (take w.top.cbits w.wires.cbits)

-- what is left, where the module is known
pub rest_in : (modules : List Module) (w : Walk) (m : Module) → slice_get modules w.top.body ≡ Some m →
    rest modules w ≡ closed (unfoldings modules) m.key (less w.top.done (drop w.top.item m.items)) (places_of w) (numbers w) (outer modules w)
rest_in modules w m at =
    ap
    (λ o. closed (unfoldings modules) (option_map_or key_of o main_key) (less w.top.done (drop w.top.item (option_map_or (λ (m : Module). m.items) o []))) (places_of w) (numbers w)
    (outer modules w))
    at

pub rest_before : (modules : List Module) (w : Walk) (m : Module) (i : Item) → Before modules w m i →
    rest modules w ≡ closed (unfoldings modules) m.key (less_turns w.top.done i ∷ drop (w.top.item + 1) m.items) (places_of w) (numbers w) (outer modules w)
rest_before modules w m i b =
    rest_in modules w m b.at
    ∙ ap (λ left. closed (unfoldings modules) m.key (less w.top.done left) (places_of w) (numbers w) (outer modules w)) b.here

-- one turn of an item: its events, and then what is left of its turns and the items after it
pub turn_left : (us : List Unfolding) (f : Frame) (m : Module) (i : Item) (ps : List Wire) (next : Numbers) → drop f.item m.items ≡ i ∷ drop (f.item + 1) m.items →
    f.done < turns_of i → IsStep i →
    unfold_items us (less_turns f.done i ∷ drop (f.item + 1) m.items) ps next
    ≡ once us i ps next ++ unfold_items us (less (turned (turns_of i) f).done (drop (turned (turns_of i) f).item m.items)) ps (after_events next (once us i ps next))
turn_left us f m i ps next here below step = by (nat_eq (f.done + 1) (turns_of i)) refl
  where
    after : Numbers
    after = after_events next (once us i ps next)

    items : List Item
    items = drop (f.item + 1) m.items

    first : unfold_items us (less_turns f.done i ∷ drop (f.item + 1) m.items) ps next
        ≡ once us i ps next ++ turns_then us (turns_of i - (f.done + 1)) (once us i ps) (drop (f.item + 1) m.items) ps (after_events next (once us i ps next))
    first =
        let e : turns_of i - f.done ≡ suc (turns_of i - (f.done + 1)) = omega arith in
        left_turns us i f.done (drop (f.item + 1) m.items) ps next step below
        ∙ ap (λ n. turns_then us n (once us i ps) (drop (f.item + 1) m.items) ps next) e
        ∙ first_turn us (turns_of i - (f.done + 1)) (once us i ps) (drop (f.item + 1) m.items) ps next

    by : (b : Bool) → nat_eq (f.done + 1) (turns_of i) ≡ b →
        unfold_items us (less_turns f.done i ∷ drop (f.item + 1) m.items) ps next
        ≡ once us i ps next ++ unfold_items us (less (turned (turns_of i) f).done (drop (turned (turns_of i) f).item m.items)) ps (after_events next (once us i ps next))
    by true e =
        let same : f.done + 1 ≡ turns_of i = (Decides-eqb (f.done + 1) (turns_of i)).0 e in
        let none : turns_of i - (f.done + 1) ≡ zero = omega arith in
        first
        ∙ ap (λ n. once us i ps next ++ turns_then us n (once us i ps) (drop (f.item + 1) m.items) ps (after_events next (once us i ps next))) none
        ∙ ap (λ l. once us i ps next ++ unfold_items us l ps (after_events next (once us i ps next))) (sym (less_none (drop (f.item + 1) m.items)))
        ∙ ap (λ v. once us i ps next ++ unfold_items us (less (cond v 0 (f.done + 1)) (drop (cond v (f.item + 1) f.item) m.items)) ps (after_events next (once us i ps next))) (sym e)
    by false e =
        let other : f.done + 1 ≡ turns_of i → ⊥ = λ same. cc ((Decides-eqb (f.done + 1) (turns_of i)).1 same, e) in
        let more : f.done + 1 < turns_of i = omega (arith, below, other) in
        first
        ∙ ap (λ l. once us i ps next ++ l) (sym (left_turns us i (f.done + 1) (drop (f.item + 1) m.items) ps (after_events next (once us i ps next)) step more))
        ∙ ap (λ l. once us i ps next ++ unfold_items us (less (f.done + 1) l) ps (after_events next (once us i ps next))) (sym here)
        ∙ ap (λ v. once us i ps next ++ unfold_items us (less (cond v 0 (f.done + 1)) (drop (cond v (f.item + 1) f.item) m.items)) ps (after_events next (once us i ps next))) (sym e)

-- one turn of a gate
pub gate_turn : (modules : List Module) (w : Walk) (m : Module) (i : Item) (gate : Gate) → Before modules w m i → IsStep i →
    ((next : Numbers) → once (unfoldings modules) i (places_of w) next ≡ Apply (rename_gate (placed (places_of w)) gate) ∷ []) →
    rest modules w ≡ (Apply (rename_gate (placed (places_of w)) gate) ∷ []) ++ rest modules (with_turn (turns_of i) w)
gate_turn modules w m i gate b step is =
    let us : List Unfolding = unfoldings modules in
    let e = turn_left us w.top m i (places_of w) (numbers w) b.here b.done step in
    let e' = subst (λ events. unfold_items us (less_turns w.top.done i ∷ drop (w.top.item + 1) m.items) (places_of w) (numbers w)
    ≡ events ++ unfold_items us (less (turned (turns_of i) w.top).done (drop (turned (turns_of i) w.top).item m.items)) (places_of w) (after_events (numbers w) events))
    (is (numbers w)) e in
    rest_before modules w m i b
    ∙ split us m.key (less_turns w.top.done i ∷ drop (w.top.item + 1) m.items) (less (turned (turns_of i) w.top).done (drop (turned (turns_of i) w.top).item m.items)) (places_of w) (places_of w) (numbers w) (Apply (rename_gate (placed (places_of w)) gate) ∷ []) (outer modules w) e'
    ∙ ap (λ events. (Apply (rename_gate (placed (places_of w)) gate) ∷ []) ++ events) (sym (rest_in modules (with_turn (turns_of i) w) m b.at))
