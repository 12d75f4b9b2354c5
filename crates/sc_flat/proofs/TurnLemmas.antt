-- Items turn by turn, and items over the same wires.
use Rattle.std.proofs.Common.{◌≡◌, ℕ, zero, suc, ◌-◌, ◌<◌, List, [], ◌∷◌, ◌++◌, map, refl, sym, ap, ◌∙◌, arith, append_assoc}
use Rattle.std.proofs.lemmas.List.{append-nil}
use Rattle.sc_gate.specs.declared.gate.Wire.{Wire}
use Rattle.sc_gate.specs.Numbers.{Numbers}
use Rattle.sc_gate.specs.Renaming.{rename_gate}
use Rattle.sc_deck.specs.declared.item.Item.{Item}
use Rattle.sc_deck.specs.declared.item.Item.TheVariants as item
use Rattle.sc_deck.specs.Events.{Event, Apply, after_events}
use Rattle.sc_deck.specs.Turns.{turns_of}
use Rattle.sc_deck.specs.Unfolding.{Unfolding, unfolding_at, unfold_item, unfold_items, places_with, placed, repeated}
use Rattle.sc_deck.proofs.SequenceLaws.{after_events-append}
use Rattle.sc_flat.specs.Walks.{less_turns, less}
use Rattle.sc_flat.proofs.PlaceLemmas.{Same, same_push, same_itself, placed_same}

item_same : (us : List Unfolding) (i : Item) (ps qs : List Wire) (next : Numbers) → Same ps qs → unfold_item us i ps next ≡ unfold_item us i qs next
item_same us (item.Fresh class n) ps qs next s = refl
item_same us (item.Gate gate) ps qs next s = λ k. Apply (rename_gate (placed_same ps qs s k) gate) ∷ []
item_same us (item.Call callee wires) ps qs next s = λ k. unfolding_at us callee (map (placed_same ps qs s k) wires) next
item_same us (item.Gates gate turns) ps qs next s = λ k. repeated turns (λ _. Apply (rename_gate (placed_same ps qs s k) gate) ∷ []) next
item_same us (item.Calls callee wires turns) ps qs next s = λ k. repeated turns (unfolding_at us callee (map (placed_same ps qs s k) wires)) next

with_same : (i : Item) (ps qs : List Wire) (next : Numbers) → Same ps qs → Same (places_with i ps next) (places_with i qs next)
with_same (item.Fresh class n) ps qs next s = same_push ps qs _ _ s (same_itself _)
with_same (item.Gate gate) ps qs next s = s
with_same (item.Call callee wires) ps qs next s = s
with_same (item.Gates gate turns) ps qs next s = s
with_same (item.Calls callee wires turns) ps qs next s = s

-- items unfold alike over the same wires
pub items_same : (us : List Unfolding) (items : List Item) (ps qs : List Wire) (next : Numbers) → Same ps qs → unfold_items us items ps next ≡ unfold_items us items qs next
items_same us [] ps qs next s = refl
items_same us (i ∷ items) ps qs next s =
    let e : unfold_item us i ps next ≡ unfold_item us i qs next = item_same us i ps qs next s in
    (λ k. e k ++ unfold_items us items (places_with i ps next) (after_events next (e k)))
    ∙ ap (λ m. unfold_item us i qs next ++ m) (items_same us items (places_with i ps next) (places_with i qs next) (after_events next (unfold_item us i qs next)) (with_same i ps qs next s))

-- no turn is done yet
pub less_none : (items : List Item) → less 0 items ≡ items
less_none [] = refl
less_none (item.Fresh class n ∷ items) = refl
less_none (item.Gate gate ∷ items) = refl
less_none (item.Call callee wires ∷ items) = refl
less_none (item.Gates gate turns ∷ items) = let e : turns - 0 ≡ turns = omega arith in ap (λ t. item.Gates gate t ∷ items) e
less_none (item.Calls callee wires turns ∷ items) = let e : turns - 0 ≡ turns = omega arith in ap (λ t. item.Calls callee wires t ∷ items) e

-- the events of a gate or a call for one turn
abbrev pub once : List Unfolding → Item → List Wire → Numbers → List Event
once us (item.Fresh class n) ps next = []
once us (item.Gate gate) ps next = Apply (rename_gate (placed ps) gate) ∷ []
once us (item.Call callee wires) ps next = unfolding_at us callee (map (placed ps) wires) next
once us (item.Gates gate turns) ps next = Apply (rename_gate (placed ps) gate) ∷ []
once us (item.Calls callee wires turns) ps next = unfolding_at us callee (map (placed ps) wires) next

-- so many turns, and then other items
abbrev pub turns_then : List Unfolding → ℕ → (Numbers → List Event) → List Item → List Wire → Numbers → List Event
turns_then us n step items ps next = repeated n step next ++ unfold_items us items ps (after_events next (repeated n step next))

abbrev pub IsStep : Item → Type 0
IsStep (item.Fresh class n) = ⊥
IsStep _ = Unit {0}

one : (d t : ℕ) → d < t → t ≡ 1 → t - d ≡ suc zero
one d t below e = omega arith

-- the turns that are left of an item, and the items after it
pub left_turns : (us : List Unfolding) (i : Item) (d : ℕ) (items : List Item) (ps : List Wire) (next : Numbers) → IsStep i → d < turns_of i →
    unfold_items us (less_turns d i ∷ items) ps next ≡ turns_then us (turns_of i - d) (once us i ps) items ps next
left_turns us (item.Fresh class n) d items ps next step below = absurd step
left_turns us (item.Gate gate) d items ps next step below =
    let e : 1 - d ≡ suc zero = one d 1 below refl in
    sym (ap (λ n. turns_then us n (once us (item.Gate gate) ps) items ps next) e)
left_turns us (item.Call callee wires) d items ps next step below =
    let e : 1 - d ≡ suc zero = one d 1 below refl in
    let single : repeated (suc zero) (once us (item.Call callee wires) ps) next ≡ unfolding_at us callee (map (placed ps) wires) next = append-nil (unfolding_at us callee (map (placed ps) wires) next) in
    sym (ap (λ events. events ++ unfold_items us items ps (after_events next events)) single)
    ∙ sym (ap (λ n. turns_then us n (once us (item.Call callee wires) ps) items ps next) e)
left_turns us (item.Gates gate turns) d items ps next step below = refl
left_turns us (item.Calls callee wires turns) d items ps next step below = refl

-- one turn of so many
pub first_turn : (us : List Unfolding) (n : ℕ) (step : Numbers → List Event) (items : List Item) (ps : List Wire) (next : Numbers) →
    turns_then us (suc n) step items ps next ≡ step next ++ turns_then us n step items ps (after_events next (step next))
first_turn us n step items ps next =
    let more : List Event = repeated n step (after_events next (step next)) in
    ap (λ (m : Numbers). (step next ++ more) ++ unfold_items us items ps m) (after_events-append next (step next) more)
    ∙ append_assoc (step next) more (unfold_items us items ps (after_events (after_events next (step next)) more))
