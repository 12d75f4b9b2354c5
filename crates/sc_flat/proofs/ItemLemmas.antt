-- What is known of the item at a place of a body.
use Rattle.std.proofs.Common.{◌≡◌, ℕ, zero, suc, ◌+◌, ◌<◌, ◌≤◌, List, [], ◌∷◌, map, drop, take, Option, Some, None, refl, ap, subst, ◌∙◌, arith}
use Rattle.std.specs.Prelude.{slice_get, slice_index, IsSomeAnd}
use Rattle.std.specs.Option.{option_map_or}
use Rattle.sc_base.specs.declared.names.Class.TheVariants.{Q, C}
use Rattle.sc_gate.specs.declared.gate.Wire.{Wire}
use Rattle.sc_gate.specs.Gates.{class_of}
use Rattle.sc_gate.specs.Numbers.{Numbers, both}
use Rattle.sc_deck.specs.declared.item.Item.{Item}
use Rattle.sc_deck.specs.declared.item.Item.TheVariants as item
use Rattle.sc_deck.specs.Bodies.{after_items, ItemsFit, wires_of}
use Rattle.sc_deck.specs.Decks.{IsDeck, CallsFit, CallFits, ItemCallFits}
use Rattle.sc_deck.specs.Items.{after_item, ItemFits, callee_of}
use Rattle.sc_deck.specs.Keys.{param_classes}
use Rattle.sc_deck.specs.Modules.{Module, body_of, greatest_called, reaches_of}
use Rattle.sc_deck.specs.Turns.{turns_of}
use Rattle.sc_deck.proofs.ReachLaws.{reaches-Solved}

same_some : {X : Type 0} (x y : X) → Some x ≡ Some y → x ≡ y
same_some x y e = cc

-- the item fits where it stands
pub item_fits : (numbers : Numbers) (items : List Item) (k : ℕ) (i : Item) → ItemsFit numbers items → slice_get items k ≡ Some i → ItemFits (after_items numbers (take k items)) i
item_fits numbers [] k i fit at = cc
item_fits numbers (x ∷ items) zero i fit at = subst (ItemFits numbers) (same_some x i at) fit.0
item_fits numbers (x ∷ items) (suc k) i fit at = item_fits (after_item numbers x) items k i fit.1 at

-- the wires after it
after_next : (numbers : Numbers) (items : List Item) (k : ℕ) (i : Item) → slice_get items k ≡ Some i → after_items numbers (take (suc k) items) ≡ after_item (after_items numbers (take k items)) i
after_next numbers [] k i at = cc
after_next numbers (x ∷ items) zero i at = ap (after_item numbers) (same_some x i at)
after_next numbers (x ∷ items) (suc k) i at = after_next (after_item numbers x) items k i at

pub after_more : (numbers : Numbers) (items : List Item) (k : ℕ) (i : Item) → slice_get items k ≡ Some i → after_items numbers (take (k + 1) items) ≡ after_item (after_items numbers (take k items)) i
after_more numbers items k i at = let e : k + 1 ≡ suc k = omega arith in ap (λ n. after_items numbers (take n items)) e ∙ after_next numbers items k i at

-- each item has a turn
turn_some : (numbers : Numbers) (i : Item) → ItemFits numbers i → 0 < turns_of i
turn_some numbers (item.Fresh class n) fit = omega arith
turn_some numbers (item.Gate gate) fit = omega arith
turn_some numbers (item.Call callee wires) fit = omega arith
turn_some numbers (item.Gates gate turns) fit = omega (arith, fit.1)
turn_some numbers (item.Calls callee wires turns) fit = omega (arith, fit.1)

pub turns_some : (numbers : Numbers) (items : List Item) (k : ℕ) → ItemsFit numbers items → 0 < option_map_or turns_of (slice_get items k) 1
turns_some numbers [] k fit = omega arith
turns_some numbers (x ∷ items) zero fit = turn_some numbers x fit.0
turns_some numbers (x ∷ items) (suc k) fit = turns_some (after_item numbers x) items k fit.1

drop_next : (items : List Item) (k : ℕ) (i : Item) → slice_get items k ≡ Some i → drop k items ≡ i ∷ drop (suc k) items
drop_next [] k i at = cc
drop_next (x ∷ items) zero i at = ap (λ y. y ∷ items) (same_some x i at)
drop_next (x ∷ items) (suc k) i at = drop_next items k i at

pub drop_get : (items : List Item) (k : ℕ) (i : Item) → slice_get items k ≡ Some i → drop k items ≡ i ∷ drop (k + 1) items
drop_get items k i at = let e : suc k ≡ k + 1 = omega arith in drop_next items k i at ∙ ap (λ n. i ∷ drop n items) e

item_grows : (numbers : Numbers) (i : Item) → both numbers ≤ both (after_item numbers i)
item_grows numbers (item.Fresh Q n) = omega arith
item_grows numbers (item.Fresh C n) = omega arith
item_grows numbers (item.Gate gate) = omega arith
item_grows numbers (item.Call callee wires) = omega arith
item_grows numbers (item.Gates gate turns) = omega arith
item_grows numbers (item.Calls callee wires turns) = omega arith

items_grow : (numbers : Numbers) (items : List Item) → both numbers ≤ both (after_items numbers items)
items_grow numbers [] = omega arith
items_grow numbers (i ∷ items) = omega (arith, item_grows numbers i, items_grow (after_item numbers i) items)

-- the wires so far are among all wires of the body
pub front_grows : (numbers : Numbers) (items : List Item) (k : ℕ) → both (after_items numbers (take k items)) ≤ both (after_items numbers items)
front_grows numbers [] zero = omega arith
front_grows numbers [] (suc k) = omega arith
front_grows numbers (i ∷ items) zero = items_grow numbers (i ∷ items)
front_grows numbers (i ∷ items) (suc k) = front_grows (after_item numbers i) items k

-- the call fits where it stands
pub call_fits : (modules : List Module) (items : List Item) (k : ℕ) (i : Item) → CallsFit modules items → slice_get items k ≡ Some i → ItemCallFits modules i
call_fits modules [] k i fit at = cc
call_fits modules (x ∷ items) zero i fit at = subst (ItemCallFits modules) (same_some x i at) fit.0
call_fits modules (x ∷ items) (suc k) i fit at = call_fits modules items k i fit.1 at

get_front : {X : Type 0} (xs : List X) (n j : ℕ) (x : X) → slice_get (take n xs) j ≡ Some x → (j < n) × (slice_get xs j ≡ Some x)
get_front [] zero j x at = cc
get_front [] (suc n) j x at = cc
get_front (y ∷ xs) zero j x at = cc
get_front (y ∷ xs) (suc n) zero x at = (omega arith, at)
get_front (y ∷ xs) (suc n) (suc j) x at = let r = get_front xs n j x at in (omega (arith, r.0), r.1)

-- a callee is an earlier module whose parameters have the classes of the wires
pub record Callee (modules : List Module) (i j : ℕ) (ws : List Wire) : Type 0 where
  pub callee : Module
  pub at : slice_get modules j ≡ Some callee
  pub earlier : j < i
  pub classes : map class_of ws ≡ param_classes callee.key

pub callee_at : (modules : List Module) (i j : ℕ) (ws : List Wire) → CallFits (take i modules) j ws → Callee modules i j ws
callee_at modules i j ws fits = by (slice_get (take i modules) j) refl fits
  where
    by : (o : Option Module) → slice_get (take i modules) j ≡ o → IsSomeAnd o (λ (m : Module). map class_of ws ≡ param_classes m.key) → Callee modules i j ws
    by None e f = absurd f
    by (Some m) e f = let r = get_front modules i j m e in record { callee = m; at = r.1; earlier = r.0; classes = f }

-- a callee's reach is among those of its callers
called_below : (numbers : List ℕ) (items : List Item) (k j : ℕ) (i : Item) → slice_get items k ≡ Some i → callee_of i ≡ Some j → slice_index numbers j ≤ greatest_called numbers items
called_below numbers [] k j i at is = cc
called_below numbers (x ∷ items) zero j i at is = here x (ap callee_of (same_some x i at) ∙ is)
  where
    here : (x : Item) → callee_of x ≡ Some j → slice_index numbers j ≤ greatest_called numbers (x ∷ items)
    here (item.Fresh class n) e = cc
    here (item.Gate gate) e = cc
    here (item.Gates gate turns) e = cc
    here (item.Call callee wires) e = let s : callee ≡ j = same_some callee j e in let t : slice_index numbers callee ≡ slice_index numbers j = ap (slice_index numbers) s in omega arith
    here (item.Calls callee wires turns) e = let s : callee ≡ j = same_some callee j e in let t : slice_index numbers callee ≡ slice_index numbers j = ap (slice_index numbers) s in omega arith
called_below numbers (x ∷ items) (suc k) j i at is = omega (arith, called_below numbers items k j i at is, later x)
  where
    later : (x : Item) → greatest_called numbers items ≤ greatest_called numbers (x ∷ items)
    later (item.Fresh class n) = omega arith
    later (item.Gate gate) = omega arith
    later (item.Gates gate turns) = omega arith
    later (item.Call callee wires) = omega arith
    later (item.Calls callee wires turns) = omega arith

pub reach_of_callee : (modules : List Module) → IsDeck modules → (b : ℕ) (m : Module) (k j : ℕ) (i : Item) → slice_get modules b ≡ Some m → slice_get m.items k ≡ Some i → callee_of i ≡ Some j →
    slice_index (reaches_of modules) j + both (wires_of (body_of m)) ≤ slice_index (reaches_of modules) b
reach_of_callee modules deck b m k j i at get is =
    let e = (reaches-Solved modules deck).is b m at in
    omega (arith, e, called_below (reaches_of modules) m.items k j i get is)

pub reach_of_body : (modules : List Module) → IsDeck modules → (b : ℕ) (m : Module) → slice_get modules b ≡ Some m → both (wires_of (body_of m)) ≤ slice_index (reaches_of modules) b
reach_of_body modules deck b m at = let e = (reaches-Solved modules deck).is b m at in omega (arith, e)
