-- The wires of a body's items, from the places after the last item.
use Rattle.std.proofs.Common.{◌≡◌, ℕ, ◌<◌, ◌≤◌, List, [], ◌∷◌, ◌++◌, sym, ap, ◌∙◌, subst, arith, append_assoc, append-nil}
use Rattle.std.specs.List.{AllByRecursion}
use Rattle.sc_base.specs.declared.names.Class.{Class}
use Rattle.sc_gate.specs.declared.gate.Wire.{Wire}
use Rattle.sc_gate.specs.Numbers.{Numbers, number_of, with_more, IsThere}
use Rattle.sc_deck.specs.declared.item.Item.{Item}
use Rattle.sc_deck.specs.declared.item.Item.TheVariants as item
use Rattle.sc_deck.specs.Events.{Event, after_events}
use Rattle.sc_deck.specs.Placing.{Sized}
use Rattle.sc_deck.specs.Unfolding.{Unfolding, unfold_item, places_after, placed, wires_from}
use Rattle.sc_deck.proofs.PlaceLaws.{placed-before}
use Rattle.sc_deck.proofs.WireLaws.{after_events-grow, made_all}

-- the number of a wire is not below the next ones
abbrev pub IsLater : Numbers → Wire → Type 0
IsLater next w = number_of w.class next ≤ w.number

later_all : (next next' : Numbers) → ((class : Class) → number_of class next ≤ number_of class next') → (ws : List Wire) → AllByRecursion (IsLater next') ws → AllByRecursion (IsLater next) ws
later_all next next' grow [] a = tt
later_all next next' grow (w ∷ ws) a = (let h = grow w.class in let k = a.0 in omega arith, later_all next next' grow ws a.1)

all_append : (P : Wire → Type 0) (xs ys : List Wire) → AllByRecursion P xs → AllByRecursion P ys → AllByRecursion P (xs ++ ys)
all_append P [] ys a b = b
all_append P (x ∷ xs) ys a b = (a.0, all_append P xs ys a.1 b)

-- the places after items are those before them and later ones
pub record Grows (us : List Unfolding) (items : List Item) (places : List Wire) (next : Numbers) : Type 0 where
  pub more : List Wire
  pub is : places_after us items places next ≡ places ++ more
  pub later : AllByRecursion (IsLater next) more

pub places_grow : (us : List Unfolding) (items : List Item) (places : List Wire) (next : Numbers) → Grows us items places next
places_grow us [] places next = record { more = []; is = sym (append-nil places); later = tt }
places_grow us (item.Fresh class n ∷ items) places next =
    let next' : Numbers = with_more class n next in
    let g = places_grow us items (places ++ wires_from class (number_of class next) n) next' in
    record {
      more = wires_from class (number_of class next) n ++ g.more;
      is = g.is ∙ append_assoc places (wires_from class (number_of class next) n) g.more;
      later = all_append (IsLater next) (wires_from class (number_of class next) n) g.more (made_all (IsLater next) class (number_of class next) n (λ k from to. from))
          (later_all next next' (after_events-grow next (unfold_item us (item.Fresh class n) places next)) g.more g.later);
    }
places_grow us (item.Gate gate ∷ items) places next = let g = places_grow us items places next in record { more = g.more; is = g.is; later = g.later }
places_grow us (item.Call callee wires ∷ items) places next =
    let events : List Event = unfold_item us (item.Call callee wires) places next in
    let g = places_grow us items places (after_events next events) in
    record { more = g.more; is = g.is; later = later_all next (after_events next events) (after_events-grow next events) g.more g.later }
places_grow us (item.Gates gate turns ∷ items) places next =
    let events : List Event = unfold_item us (item.Gates gate turns) places next in
    let g = places_grow us items places (after_events next events) in
    record { more = g.more; is = g.is; later = later_all next (after_events next events) (after_events-grow next events) g.more g.later }
places_grow us (item.Calls callee wires turns ∷ items) places next =
    let events : List Event = unfold_item us (item.Calls callee wires turns) places next in
    let g = places_grow us items places (after_events next events) in
    record { more = g.more; is = g.is; later = later_all next (after_events next events) (after_events-grow next events) g.more g.later }

-- a local wire stands after the last item where it stands after it was made
pub placed_after : (us : List Unfolding) (items : List Item) (places : List Wire) (numbers next : Numbers) → Sized places numbers → (w : Wire) → IsThere numbers w → placed (places_after us items places next) w ≡ placed places w
placed_after us items places numbers next sized w there =
    let g = places_grow us items places next in
    ap (λ (ws : List Wire). placed ws w) g.is ∙ placed-before places g.more w (subst (λ (n : ℕ). w.number < n) (sym (sized.count w.class)) there)
