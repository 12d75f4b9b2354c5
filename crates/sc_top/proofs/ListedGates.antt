-- The gates that a whole deck unfolds to may stand in a flat text: their wires are there, and their angles in range.
use Rattle.std.proofs.Common.{◌≡◌, ℕ, zero, suc, ◌-◌, ◌<◌, ◌^◌, List, [], ◌∷◌, ◌++◌, map, length, Option, None, Some, FitsSigned, refl, arith}
use Rattle.std.specs.Prelude.{slice_get, IsSomeAnd}
use Rattle.std.specs.Int.{w64}
use Rattle.std.specs.List.{AllByRecursion}
use Rattle.std.specs.Option.{option_map_or}
use Rattle.std.proofs.lemmas.List.Elements.{recursion_from_All}
use Rattle.sc_base.specs.declared.names.Class.{Class}
use Rattle.sc_base.specs.declared.names.Class.TheVariants.{Q, C}
use Rattle.sc_gate.specs.declared.gate.Wire.{Wire}
use Rattle.sc_gate.specs.declared.gate.Gate.{Gate}
use Rattle.sc_gate.specs.Gates.{class_of, operands, AreWellFormed}
use Rattle.sc_gate.specs.Numbers.{Numbers, number_of, no_wires, IsThere, AreThere}
use Rattle.sc_gate.specs.SameGates.{value_of}
use Rattle.sc_gate.specs.Texts.{IsNumbered}
use Rattle.sc_deck.specs.declared.item.Item.{Item}
use Rattle.sc_deck.specs.declared.item.Item.TheVariants as item
use Rattle.sc_deck.specs.Bodies.{IsBody}
use Rattle.sc_deck.specs.Decks.{CallFits, ItemCallFits, CallsFit, IsDeck, IsWhole}
use Rattle.sc_deck.specs.Events.{Event, Enter, Fresh, Apply, Return, after_events, gates_in, fresh_in}
use Rattle.sc_deck.specs.Items.{ItemInRange}
use Rattle.sc_deck.specs.Keys.{param_classes, params_of}
use Rattle.sc_deck.specs.Modules.{Module, body_of}
use Rattle.sc_deck.specs.Placing.{GatesOn}
use Rattle.sc_deck.specs.Unfolding.{Unfolding, placed, places_with, repeated, unfolding_at, unfold_item, unfold_items, unfold_module, unfold_on, numbered, expansion}
use Rattle.sc_deck.proofs.EachUnfolding.{Each, each_unfolding}
use Rattle.sc_deck.proofs.FormedLaws.{gates_of-formed}
use Rattle.sc_deck.proofs.WireLaws.{gates_of-below}
use Rattle.sc_read.specs.GateFronts.{counts, IsNextGate}
use Rattle.sc_top.specs.Expansions.{whole}

-- ---- angles

abbrev HasAngle : Gate → Type 0
HasAngle g = FitsSigned w64 (value_of g.kind)

abbrev HaveAngles : List Event → Type 0
HaveAngles events = AllByRecursion HasAngle (gates_in events)

abbrev UnfoldsInRange : Module → Unfolding → Type 0
UnfoldsInRange m u = (wires : List Wire) (next : Numbers) → HaveAngles (u wires next)

angles_append : (xs ys : List Event) → HaveAngles xs → HaveAngles ys → HaveAngles (xs ++ ys)
angles_append [] ys a b = b
angles_append (Enter key wires ∷ xs) ys a b = angles_append xs ys a b
angles_append (Fresh class n ∷ xs) ys a b = angles_append xs ys a b
angles_append (Apply g ∷ xs) ys a b = (a.0, angles_append xs ys a.1 b)
angles_append (Return key ∷ xs) ys a b = angles_append xs ys a b

repeated_angles : (once : Numbers → List Event) → ((next : Numbers) → HaveAngles (once next)) → (n : ℕ) (next : Numbers) → HaveAngles (repeated n once next)
repeated_angles once each zero next = tt
repeated_angles once each (suc n) next =
    angles_append (once next) (repeated n once (after_events next (once next))) (each next) (repeated_angles once each n (after_events next (once next)))

module _ (us : List Unfolding) (before : List Module) (can : Each UnfoldsInRange us before) where
  called_angles : (callee : ℕ) (wires passed : List Wire) (next : Numbers) → CallFits before callee wires → HaveAngles (unfolding_at us callee passed next)
  called_angles callee wires passed next fits = by (slice_get before callee) refl fits
    where
      by : (o : Option Module) → slice_get before callee ≡ o → IsSomeAnd o (λ m. map class_of wires ≡ param_classes m.key) → HaveAngles (unfolding_at us callee passed next)
      by None e h = absurd h
      by (Some m) e h = can.each callee m e passed next

  item_angles : (i : Item) (places : List Wire) (next : Numbers) → ItemInRange i → ItemCallFits before i → HaveAngles (unfold_item us i places next)
  item_angles (item.Fresh class n) places next range fits = tt
  item_angles (item.Gate gate) places next range fits = (range, tt)
  item_angles (item.Call callee wires) places next range fits = called_angles callee wires (map (placed places) wires) next fits
  item_angles (item.Gates gate turns) places next range fits = repeated_angles (λ _. unfold_item us (item.Gate gate) places next) (λ k. (range.0, tt)) turns next
  item_angles (item.Calls callee wires turns) places next range fits =
      repeated_angles (unfolding_at us callee (map (placed places) wires)) (λ k. called_angles callee wires (map (placed places) wires) k fits) turns next

  items_angles : (items : List Item) (places : List Wire) (next : Numbers) → AllByRecursion ItemInRange items → CallsFit before items → HaveAngles (unfold_items us items places next)
  items_angles [] places next range fits = tt
  items_angles (i ∷ items) places next range fits =
      let events : List Event = unfold_item us i places next in
      angles_append events (unfold_items us items (places_with i places next) (after_events next events)) (item_angles i places next range.0 fits.0)
      (items_angles items (places_with i places next) (after_events next events) range.1 fits.1)

  module_angles : (m : Module) → IsBody (body_of m) → CallsFit before m.items → UnfoldsInRange m (unfold_module us m)
  module_angles m body calls wires next =
      angles_append (unfold_items us m.items wires next) (Return m.key ∷ []) (items_angles m.items wires next (recursion_from_All ItemInRange m.items body.in_range) calls) tt

whole_angles : (modules : List Module) → IsDeck modules → (i : ℕ) → HaveAngles (expansion modules i)
whole_angles modules deck i = by (slice_get modules i) refl
  where
    by : (o : Option Module) → slice_get modules i ≡ o → HaveAngles (option_map_or (λ m. unfold_on modules i (numbered (param_classes m.key) no_wires) (params_of m.key)) o [])
    by None e = tt
    by (Some m) e = (each_unfolding UnfoldsInRange module_angles modules deck).each i m e (numbered (param_classes m.key) no_wires) (params_of m.key)

-- ---- gates that may stand

small_number : (wires : Numbers) → wires.qubits < 2 ^ 32 → wires.cbits < 2 ^ 32 → (c : Class) (n : ℕ) → n < number_of c wires → n < 2 ^ 32
small_number wires q c Q n below = omega arith
small_number wires q c C n below = omega arith

numbered_all : (wires : Numbers) → wires.qubits < 2 ^ 32 → wires.cbits < 2 ^ 32 → (ws : List Wire) → AreThere wires ws → AllByRecursion IsNumbered ws
numbered_all wires q c [] there = tt
numbered_all wires q c (w ∷ ws) there = (small_number wires q c w.class w.number there.0, numbered_all wires q c ws there.1)

each_stands : (wires : Numbers) → wires.qubits < 2 ^ 32 → wires.cbits < 2 ^ 32 → (gates : List Gate) → AreWellFormed gates → AllByRecursion HasAngle gates → GatesOn (IsThere wires) gates → AllByRecursion (IsNextGate wires) gates
each_stands wires q c [] formed angles there = tt
each_stands wires q c (g ∷ gates) formed angles there = (
  record { has_line = record { well_formed = formed.0; in_range = angles.0; numbered = numbered_all wires q c (operands g) there.0 }; there = there.0 },
  each_stands wires q c gates formed.1 angles.1 there.1,
)

-- THE GATES of a whole deck may stand in the flat text of its wires, where these are few enough
pub listed_gates_stand : (modules : List Module) → IsDeck modules → IsWhole modules → (fresh_in (whole modules)).qubits < 2 ^ 32 → (fresh_in (whole modules)).cbits < 2 ^ 32 →
    AllByRecursion (IsNextGate (counts (fresh_in (whole modules)).qubits (fresh_in (whole modules)).cbits)) (gates_in (whole modules))
listed_gates_stand modules deck is_whole q c =
    each_stands (fresh_in (whole modules)) q c (gates_in (whole modules)) (gates_of-formed modules deck is_whole) (whole_angles modules deck (length modules - 1)) (gates_of-below modules deck is_whole)
