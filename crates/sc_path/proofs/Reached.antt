-- Where a body stands before one of its items: its places, the next numbers, and the wires of its gates so far.
use Rattle.std.proofs.Common.{◌≡◌, ◌≢◌, ℕ, zero, suc, ◌<◌, ◌≤◌, List, [], ◌∷◌, ◌++◌, map, slice_get, Option, Some, None, refl, sym, ap, ◌∙◌, subst, arith}
use Rattle.std.specs.Prelude.{IsSomeAnd}
use Rattle.std.specs.List.{AllByRecursion}
use Rattle.sc_base.specs.declared.names.Class.{Class}
use Rattle.sc_gate.specs.declared.gate.Wire.{Wire}
use Rattle.sc_gate.specs.declared.gate.Gate.{Gate}
use Rattle.sc_gate.specs.Gates.{class_of, operands, IsNew, AreDistinct}
use Rattle.sc_gate.specs.Numbers.{Numbers, number_of, with_more, IsThere, AreThere}
use Rattle.sc_gate.specs.Renaming.{rename_gate}
use Rattle.sc_gate.proofs.RenameLemmas.{operands-rename}
use Rattle.sc_deck.specs.declared.item.Item.{Item}
use Rattle.sc_deck.specs.declared.item.Item.TheVariants as item
use Rattle.sc_deck.specs.Bodies.{after_items, ItemsFit}
use Rattle.sc_deck.specs.Decks.{CallFits, ItemCallFits, CallsFit, IsDeck}
use Rattle.sc_deck.specs.Events.{Event, gates_in, after_events}
use Rattle.sc_deck.specs.Items.{ItemFits, after_item}
use Rattle.sc_deck.specs.Keys.{param_classes}
use Rattle.sc_deck.specs.Modules.{Module}
use Rattle.sc_deck.specs.Placing.{GatesOn}
use Rattle.sc_deck.specs.Renaming.{wire}
use Rattle.sc_deck.specs.Unfolding.{Unfolding, unfolding_at, unfold_item, unfold_items, unfoldings, unfold_on, places_with, places_after, placed, repeated, wires_from}
use Rattle.sc_deck.proofs.FormedLaws.{Fine, there_later}
use Rattle.sc_deck.proofs.PlaceLaws.{Sized-item, placed-classes}
use Rattle.sc_deck.proofs.SequenceLaws.{gates_in-append, after_events-append}
use Rattle.sc_deck.proofs.WireLaws.{after_events-grow, placed-all, more_of, made_all, unfold_on-wires}

all_append : {X : Type 0} (P : X → Type 0) (xs ys : List X) → AllByRecursion P xs → AllByRecursion P ys → AllByRecursion P (xs ++ ys)
all_append P [] ys a b = b
all_append P (x ∷ xs) ys a b = (a.0, all_append P xs ys a.1 b)

new_append : (w : Wire) (xs ys : List Wire) → IsNew w xs → IsNew w ys → IsNew w (xs ++ ys)
new_append w [] ys a b = b
new_append w (x ∷ xs) ys a b = (a.0, new_append w xs ys a.1 b)

new_made : (next : Numbers) (w : Wire) → IsThere next w → (class : Class) (first n : ℕ) → number_of class next ≤ first → IsNew w (wires_from class first n)
new_made next w there class first zero le = tt
new_made next w there class first (suc n) le = (differ, new_made next w there class (suc first) n (omega arith))
  where
    differ : w ≢ wire class first
    differ e =
        let h : first < number_of class next = subst (λ (v : Wire). v.number < number_of v.class next) e there in
        omega arith

later_made : (class : Class) (k first n : ℕ) → k < first → IsNew (wire class k) (wires_from class first n)
later_made class k first zero lt = tt
later_made class k first (suc n) lt = (differ, later_made class k (suc first) n (omega arith))
  where
    differ : wire class k ≢ wire class first
    differ e = let h : k ≡ first = ap (λ (w : Wire). w.number) e in omega arith

distinct_made : (class : Class) (first n : ℕ) → AreDistinct (wires_from class first n)
distinct_made class first zero = tt
distinct_made class first (suc n) = (later_made class first (suc first) n (omega arith), distinct_made class (suc first) n)

distinct_more : (next : Numbers) (places : List Wire) → AreThere next places → AreDistinct places → (class : Class) (n : ℕ) → AreDistinct (places ++ wires_from class (number_of class next) n)
distinct_more next [] there distinct class n = distinct_made class (number_of class next) n
distinct_more next (w ∷ places) there distinct class n = (
  new_append w places (wires_from class (number_of class next) n) distinct.0 (new_made next w there.0 class (number_of class next) n (omega arith)),
  distinct_more next places there.1 distinct.1 class n,
)

-- places stay distinct and below the next numbers
pub fine_item : (us : List Unfolding) (places : List Wire) (numbers next : Numbers) (i : Item) → Fine places numbers next → Fine (places_with i places next) (after_item numbers i) (after_events next (unfold_item us i places next))
fine_item us places numbers next (item.Fresh class n) fine = record {
  sized = Sized-item places numbers (item.Fresh class n) next fine.sized;
  distinct = distinct_more next places fine.there fine.distinct class n;
  there = all_append (IsThere (with_more class n next)) places (wires_from class (number_of class next) n)
      (there_later next (unfold_item us (item.Fresh class n) places next) places fine.there)
      (made_all (IsThere (with_more class n next)) class (number_of class next) n (λ k from to. let e = more_of class n next in omega arith));
}
fine_item us places numbers next (item.Gate gate) fine = fine
fine_item us places numbers next (item.Call callee wires) fine =
    record { sized = fine.sized; distinct = fine.distinct; there = there_later next (unfold_item us (item.Call callee wires) places next) places fine.there }
fine_item us places numbers next (item.Gates gate turns) fine =
    record { sized = fine.sized; distinct = fine.distinct; there = there_later next (unfold_item us (item.Gates gate turns) places next) places fine.there }
fine_item us places numbers next (item.Calls callee wires turns) fine =
    record { sized = fine.sized; distinct = fine.distinct; there = there_later next (unfold_item us (item.Calls callee wires turns) places next) places fine.there }

pub there_wider : (next next' : Numbers) → ((class : Class) → number_of class next ≤ number_of class next') → (ws : List Wire) → AreThere next ws → AreThere next' ws
there_wider next next' grow [] a = tt
there_wider next next' grow (w ∷ ws) a = (let g = grow w.class in let h = a.0 in omega arith, there_wider next next' grow ws a.1)

gates_wider : (next next' : Numbers) → ((class : Class) → number_of class next ≤ number_of class next') → (gates : List Gate) → GatesOn (IsThere next) gates → GatesOn (IsThere next') gates
gates_wider next next' grow [] a = tt
gates_wider next next' grow (g ∷ gates) a = (there_wider next next' grow (operands g) a.0, gates_wider next next' grow gates a.1)

-- turns of an unfolding on wires below the next numbers have wires below those after them
repeated_below : (once : Numbers → List Event) (ws : List Wire) → ((next : Numbers) → AreThere next ws → GatesOn (IsThere (after_events next (once next))) (gates_in (once next))) →
    (n : ℕ) (next : Numbers) → AreThere next ws → GatesOn (IsThere (after_events next (repeated n once next))) (gates_in (repeated n once next))
repeated_below once ws each zero next there = tt
repeated_below once ws each (suc n) next there =
    let next' : Numbers = after_events next (once next) in
    let rest : List Event = repeated n once next' in
    let e = after_events-append next (once next) rest in
    subst (λ (m : Numbers). GatesOn (IsThere m) (gates_in (once next ++ rest))) (sym e)
    (subst (GatesOn (IsThere (after_events next' rest))) (sym (gates_in-append (once next) rest))
    (all_append (λ g. AllByRecursion (IsThere (after_events next' rest)) (operands g)) (gates_in (once next)) (gates_in rest)
    (gates_wider next' (after_events next' rest) (after_events-grow next' rest) (gates_in (once next)) (each next there))
    (repeated_below once ws each n next' (there_later next (once next) ws there))))

module _ (modules : List Module) (deck : IsDeck modules) where
  call_below : (callee : ℕ) (wires passed : List Wire) → CallFits modules callee wires → map class_of passed ≡ map class_of wires → (next : Numbers) → AreThere next passed →
      GatesOn (IsThere (after_events next (unfold_on modules callee passed next))) (gates_in (unfold_on modules callee passed next))
  call_below callee wires passed fit classes next there = by (slice_get modules callee) refl fit
    where
      after : Numbers
      after = after_events next (unfold_on modules callee passed next)

      by : (o : Option Module) → slice_get modules callee ≡ o → IsSomeAnd o (λ m. map class_of wires ≡ param_classes m.key) → GatesOn (IsThere (after_events next (unfold_on modules callee passed next))) (gates_in (unfold_on modules callee passed next))
      by None e h = absurd h
      by (Some m) e h =
          unfold_on-wires (IsThere (after_events next (unfold_on modules callee passed next))) modules deck callee m e passed next (classes ∙ h)
          (there_later next (unfold_on modules callee passed next) passed there) (λ class k from to. to)

  gate_below : (places : List Wire) (numbers next : Numbers) → Fine places numbers next → (g : Gate) → AreThere numbers (operands g) → AllByRecursion (IsThere next) (operands (rename_gate (placed places) g))
  gate_below places numbers next fine g there = subst (AllByRecursion (IsThere next)) (sym (operands-rename (placed places) g)) (placed-all (IsThere next) places numbers fine.sized fine.there (operands g) there)

  -- the wires of an item's gates are below the next numbers after it
  pub item_below : (places : List Wire) (numbers next : Numbers) → Fine places numbers next → (i : Item) → ItemFits numbers i → ItemCallFits modules i →
      GatesOn (IsThere (after_events next (unfold_item (unfoldings modules) i places next))) (gates_in (unfold_item (unfoldings modules) i places next))
  item_below places numbers next fine (item.Fresh class n) fits calls = tt
  item_below places numbers next fine (item.Gate gate) fits calls = (gate_below places numbers next fine gate fits.there, tt)
  item_below places numbers next fine (item.Call callee wires) fits calls =
      call_below callee wires (map (placed places) wires) calls (placed-classes places numbers fine.sized wires fits.there) next (placed-all (IsThere next) places numbers fine.sized fine.there wires fits.there)
  item_below places numbers next fine (item.Gates gate turns) fits calls =
      repeated_below (λ _. unfold_item (unfoldings modules) (item.Gate gate) places next) (operands (rename_gate (placed places) gate)) (λ k there. (there, tt)) turns next (gate_below places numbers next fine gate fits.0.there)
  item_below places numbers next fine (item.Calls callee wires turns) fits calls =
      repeated_below (unfolding_at (unfoldings modules) callee (map (placed places) wires)) (map (placed places) wires)
      (λ k there. call_below callee wires (map (placed places) wires) calls (placed-classes places numbers fine.sized wires fits.0.there) k there) turns next
      (placed-all (IsThere next) places numbers fine.sized fine.there wires fits.0.there)

-- what is known after the first items of a body
pub record Reached (modules : List Module) (front : List Item) (i : Item) (places : List Wire) (numbers next : Numbers) : Type 0 where
  pub fine : Fine (places_after (unfoldings modules) front places next) (after_items numbers front) (after_events next (unfold_items (unfoldings modules) front places next))
  pub fits : ItemFits (after_items numbers front) i
  pub calls : ItemCallFits modules i
  pub below : GatesOn (IsThere (after_events next (unfold_items (unfoldings modules) front places next))) (gates_in (unfold_items (unfoldings modules) front places next))

-- THE WALK: before each item
pub reached : (modules : List Module) → IsDeck modules → (front : List Item) (i : Item) (rest : List Item) (places : List Wire) (numbers next : Numbers) → Fine places numbers next → ItemsFit numbers (front ++ i ∷ rest) → CallsFit modules (front ++ i ∷ rest) →
    Reached modules front i places numbers next
reached modules deck [] i rest places numbers next fine fits calls = record { fine = fine; fits = fits.0; calls = calls.0; below = tt }
reached modules deck (j ∷ front) i rest places numbers next fine fits calls =
    let us : List Unfolding = unfoldings modules in
    let events : List Event = unfold_item us j places next in
    let next' : Numbers = after_events next events in
    let more : List Event = unfold_items us front (places_with j places next) next' in
    let r = reached modules deck front i rest (places_with j places next) (after_item numbers j) next' (fine_item us places numbers next j fine) fits.1 calls.1 in
    let e : after_events next (events ++ more) ≡ after_events next' more = after_events-append next events more in
    record {
      fine = subst (λ (n : Numbers). Fine (places_after us front (places_with j places next) next') (after_items (after_item numbers j) front) n) (sym e) r.fine;
      fits = r.fits;
      calls = r.calls;
      below = subst (λ (n : Numbers). GatesOn (IsThere n) (gates_in (events ++ more))) (sym e)
          (subst (GatesOn (IsThere (after_events next' more))) (sym (gates_in-append events more))
          (all_append (λ g. AllByRecursion (IsThere (after_events next' more)) (operands g)) (gates_in events) (gates_in more)
          (gates_wider next' (after_events next' more) (after_events-grow next' more) (gates_in events) (item_below modules deck places numbers next fine j fits.0 calls.0)) r.below));
    }
