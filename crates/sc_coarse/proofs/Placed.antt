-- The wires of a body are placed one to one.
use Rattle.std.proofs.Common.{◌≡◌, ◌≢◌, ℕ, zero, suc, ◌+◌, ◌<◌, ◌≤◌, true, List, [], ◌∷◌, ◌++◌, map, length, Option, Some, None, refl, sym, ap, ◌∙◌, subst, arith, inl, inr, append_assoc}
use Rattle.std.specs.Prelude.{option_to_list}
use Rattle.std.specs.Option.{option_map}
use Rattle.std.specs.List.{AllByRecursion}
use Rattle.std.proofs.lemmas.Bool.{false≢true}
use Rattle.std.proofs.lemmas.List.{get_or_default, append-nil}
use Rattle.sc_base.specs.declared.names.Class.{Class}
use Rattle.sc_base.specs.declared.names.Class.TheVariants.{Q, C}
use Rattle.sc_gate.specs.declared.gate.Wire.{Wire}
use Rattle.sc_gate.specs.declared.gate.Gate.{Gate}
use Rattle.sc_gate.specs.Gates.{operands, IsNew, AreDistinct}
use Rattle.sc_gate.specs.Numbers.{Numbers, number_of, with_more, IsThere, AreThere}
use Rattle.sc_gate.specs.Renaming.{rename_gate, IsOneToOneOn}
use Rattle.sc_gate.specs.Wires.{member}
use Rattle.sc_gate.proofs.WireLemmas.{member_cases}
use Rattle.sc_gate.proofs.RenameLemmas.{distinct-rename}
use Rattle.sc_deck.specs.declared.item.Item.{Item}
use Rattle.sc_deck.specs.declared.item.Item.TheVariants as item
use Rattle.sc_deck.specs.Bodies.{after_items}
use Rattle.sc_deck.specs.Events.{after_events}
use Rattle.sc_deck.specs.Items.{after_item, WiresFit}
use Rattle.sc_deck.specs.Placing.{put, shifted, Sized}
use Rattle.sc_deck.specs.Renaming.{wire}
use Rattle.sc_deck.specs.Unfolding.{Unfolding, unfold_item, unfold_items, places_with, places_after, placed, of_class, wires_from, numbered}
use Rattle.sc_deck.proofs.FormedLaws.{Fine, put-one_to_one, there_later}
use Rattle.sc_deck.proofs.PlaceLaws.{Sized-item, placed-before}
use Rattle.sc_deck.proofs.SequenceLaws.{after_events-append}
use Rattle.sc_deck.proofs.WireLaws.{more_of, made_all}

all_then : (P : Wire → Type 0) (xs ys : List Wire) → AllByRecursion P xs → AllByRecursion P ys → AllByRecursion P (xs ++ ys)
all_then P [] ys a b = b
all_then P (x ∷ xs) ys a b = (a.0, all_then P xs ys a.1 b)

new_then : (w : Wire) (xs ys : List Wire) → IsNew w xs → IsNew w ys → IsNew w (xs ++ ys)
new_then w [] ys a b = b
new_then w (x ∷ xs) ys a b = (a.0, new_then w xs ys a.1 b)

-- wires below the next numbers are none of those from there on
new_made : (next : Numbers) (w : Wire) → IsThere next w → (class : Class) (first n : ℕ) → number_of class next ≤ first → IsNew w (wires_from class first n)
new_made next w there class first zero le = tt
new_made next w there class first (suc n) le = (differ, new_made next w there class (suc first) n (omega arith))
  where
    differ : w ≢ wire class first
    differ e =
        let h : first < number_of class next = subst (λ (v : Wire). v.number < number_of v.class next) e there in
        omega arith

later_made : (class : Class) (k first n : ℕ) → k < first → IsNew (wire class k) (wires_from class first n)
later_made class k first zero lt = tt
later_made class k first (suc n) lt = (differ, later_made class k (suc first) n (omega arith))
  where
    differ : wire class k ≢ wire class first
    differ e = let h : k ≡ first = ap (λ (w : Wire). w.number) e in omega arith

distinct_made : (class : Class) (first n : ℕ) → AreDistinct (wires_from class first n)
distinct_made class first zero = tt
distinct_made class first (suc n) = (later_made class first (suc first) n (omega arith), distinct_made class (suc first) n)

distinct_more : (next : Numbers) (places : List Wire) → AreThere next places → AreDistinct places → (class : Class) (n : ℕ) → AreDistinct (places ++ wires_from class (number_of class next) n)
distinct_more next [] there distinct class n = distinct_made class (number_of class next) n
distinct_more next (w ∷ places) there distinct class n = (
  new_then w places (wires_from class (number_of class next) n) distinct.0 (new_made next w there.0 class (number_of class next) n (omega arith)),
  distinct_more next places there.1 distinct.1 class n,
)

-- the places of a body after items
pub fine_item : (us : List Unfolding) (places : List Wire) (numbers next : Numbers) (i : Item) → Fine places numbers next → Fine (places_with i places next) (after_item numbers i) (after_events next (unfold_item us i places next))
fine_item us places numbers next (item.Fresh class n) fine = record {
  sized = Sized-item places numbers (item.Fresh class n) next fine.sized;
  distinct = distinct_more next places fine.there fine.distinct class n;
  there = all_then (IsThere (with_more class n next)) places (wires_from class (number_of class next) n)
      (there_later next (unfold_item us (item.Fresh class n) places next) places fine.there)
      (made_all (IsThere (with_more class n next)) class (number_of class next) n (λ k from to. let e = more_of class n next in omega arith));
}
fine_item us places numbers next (item.Gate gate) fine = fine
fine_item us places numbers next (item.Call callee wires) fine =
    record { sized = fine.sized; distinct = fine.distinct; there = there_later next (unfold_item us (item.Call callee wires) places next) places fine.there }
fine_item us places numbers next (item.Gates gate turns) fine =
    record { sized = fine.sized; distinct = fine.distinct; there = there_later next (unfold_item us (item.Gates gate turns) places next) places fine.there }
fine_item us places numbers next (item.Calls callee wires turns) fine =
    record { sized = fine.sized; distinct = fine.distinct; there = there_later next (unfold_item us (item.Calls callee wires turns) places next) places fine.there }

pub fine_items : (us : List Unfolding) (places : List Wire) (numbers next : Numbers) (items : List Item) → Fine places numbers next →
    Fine (places_after us items places next) (after_items numbers items) (after_events next (unfold_items us items places next))
fine_items us places numbers next [] fine = fine
fine_items us places numbers next (i ∷ items) fine =
    subst (Fine (places_after us items (places_with i places next) (after_events next (unfold_item us i places next))) (after_items (after_item numbers i) items))
    (sym (after_events-append next (unfold_item us i places next) (unfold_items us items (places_with i places next) (after_events next (unfold_item us i places next)))))
    (fine_items us (places_with i places next) (after_item numbers i) (after_events next (unfold_item us i places next)) items (fine_item us places numbers next i fine))

there_member : (numbers : Numbers) (ws : List Wire) (w : Wire) → AreThere numbers ws → member w ws ≡ true → IsThere numbers w
there_member numbers [] w there h = absurd (false≢true h)
there_member numbers (v ∷ ws) w there h = elim (member_cases v w ws h) [
  | inl e ↦ subst (IsThere numbers) e there.0
  | inr m ↦ there_member numbers ws w there.1 m
]

placed_put : (places : List Wire) (numbers next : Numbers) → Fine places numbers next → (w : Wire) → IsThere numbers w → placed places w ≡ put places next w
placed_put places numbers next fine w below =
    get_or_default (of_class w.class places) w.number w (shifted (length (of_class w.class places)) (number_of w.class next) w) (subst (λ (n : ℕ). w.number < n) (sym (fine.sized.count w.class)) below)

-- wires that are there are placed one to one
pub placed_apart : (places : List Wire) (numbers next : Numbers) → Fine places numbers next → (ws : List Wire) → AreThere numbers ws → IsOneToOneOn ws (placed places)
placed_apart places numbers next fine ws there = λ v w a b e.
    put-one_to_one places next fine.distinct fine.there v w
    (sym (placed_put places numbers next fine v (there_member numbers ws v there a)) ∙ (e ∙ placed_put places numbers next fine w (there_member numbers ws w there b)))

pub passed_distinct : (places : List Wire) (numbers next : Numbers) → Fine places numbers next → (ws : List Wire) → WiresFit numbers ws → AreDistinct (map (placed places) ws)
passed_distinct places numbers next fine ws fits = distinct-rename (placed places) ws (placed_apart places numbers next fine ws fits.there) fits.distinct

-- later places come behind
pub record Extends (before after : List Wire) : Type 0 where
  pub more : List Wire
  pub is : after ≡ before ++ more

with_item : (i : Item) (places : List Wire) (next : Numbers) → Extends places (places_with i places next)
with_item (item.Fresh class n) places next = record { more = wires_from class (number_of class next) n; is = refl }
with_item (item.Gate gate) places next = record { more = []; is = sym (append-nil places) }
with_item (item.Call callee wires) places next = record { more = []; is = sym (append-nil places) }
with_item (item.Gates gate turns) places next = record { more = []; is = sym (append-nil places) }
with_item (item.Calls callee wires turns) places next = record { more = []; is = sym (append-nil places) }

pub extends : (us : List Unfolding) (items : List Item) (places : List Wire) (next : Numbers) → Extends places (places_after us items places next)
extends us [] places next = record { more = []; is = sym (append-nil places) }
extends us (i ∷ items) places next =
    let a : Extends places (places_with i places next) = with_item i places next in
    let b : Extends (places_with i places next) (places_after us items (places_with i places next) (after_events next (unfold_item us i places next))) =
    extends us items (places_with i places next) (after_events next (unfold_item us i places next)) in
    record { more = a.more ++ b.more; is = b.is ∙ (ap (λ (ws : List Wire). ws ++ b.more) a.is ∙ append_assoc places a.more b.more) }

same_place : (us : List Unfolding) (items : List Item) (places : List Wire) (next numbers : Numbers) → Sized places numbers → (w : Wire) → IsThere numbers w → placed places w ≡ placed (places_after us items places next) w
same_place us items places next numbers sized w below =
    let a : Extends places (places_after us items places next) = extends us items places next in
    sym (ap (λ (ws : List Wire). placed ws w) a.is ∙ placed-before places a.more w (subst (λ (n : ℕ). w.number < n) (sym (sized.count w.class)) below))

-- a gate under two names that agree on its wires
pub gate_agrees : (f h : Wire → Wire) (g : Gate) → AllByRecursion (λ w. f w ≡ h w) (operands g) → rename_gate f g ≡ rename_gate h g
gate_agrees f h g all =
    let parts = both (option_to_list g.b) (option_to_list g.c) all.1 in
    let b = option_agrees g.b parts.0 in
    let c = option_agrees g.c parts.1 in
    λ i. record { kind = g.kind; a = all.0 i; b = b i; c = c i }
  where
    both : (xs ys : List Wire) → AllByRecursion (λ w. f w ≡ h w) (xs ++ ys) → AllByRecursion (λ w. f w ≡ h w) xs × AllByRecursion (λ w. f w ≡ h w) ys
    both [] ys r = (tt, r)
    both (x ∷ xs) ys r = let p = both xs ys r.1 in ((r.0, p.0), p.1)

    option_agrees : (o : Option Wire) → AllByRecursion (λ w. f w ≡ h w) (option_to_list o) → option_map f o ≡ option_map h o
    option_agrees None r = refl
    option_agrees (Some w) r = ap Some r.0

-- a gate that is there is placed as it is later
pub gate_later : (us : List Unfolding) (items : List Item) (places : List Wire) (next numbers : Numbers) → Sized places numbers → (g : Gate) → AreThere numbers (operands g) →
    rename_gate (placed places) g ≡ rename_gate (placed (places_after us items places next)) g
gate_later us items places next numbers sized g there = gate_agrees (placed places) (placed (places_after us items places next)) g (all (operands g) there)
  where
    all : (ws : List Wire) → AreThere numbers ws → AllByRecursion (λ w. placed places w ≡ placed (places_after us items places next) w) ws
    all [] there = tt
    all (w ∷ ws) there = (same_place us items places next numbers sized w there.0, all ws there.1)

-- what is there stays there
grows_item : (numbers : Numbers) (i : Item) (class : Class) → number_of class numbers ≤ number_of class (after_item numbers i)
grows_item numbers (item.Fresh other n) class = by other class
  where
    by : (other class : Class) → number_of class numbers ≤ number_of class (with_more other n numbers)
    by Q Q = omega arith
    by Q C = omega arith
    by C Q = omega arith
    by C C = omega arith
grows_item numbers (item.Gate gate) class = omega arith
grows_item numbers (item.Call callee wires) class = omega arith
grows_item numbers (item.Gates gate turns) class = omega arith
grows_item numbers (item.Calls callee wires turns) class = omega arith

pub there_after : (numbers : Numbers) (items : List Item) (ws : List Wire) → AreThere numbers ws → AreThere (after_items numbers items) ws
there_after numbers [] ws there = there
there_after numbers (i ∷ items) ws there = there_after (after_item numbers i) items ws (all ws there)
  where
    all : (ws : List Wire) → AreThere numbers ws → AreThere (after_item numbers i) ws
    all [] there = tt
    all (w ∷ ws) there = (let h = there.0 in let g = grows_item numbers i w.class in omega arith, all ws there.1)

-- the parameter wires of an expansion are distinct, and are there
grows_one : (c class : Class) (next : Numbers) → number_of class next ≤ number_of class (with_more c 1 next)
grows_one Q Q next = omega arith
grows_one Q C next = omega arith
grows_one C Q next = omega arith
grows_one C C next = omega arith

here_one : (c : Class) (next : Numbers) → number_of c next < number_of c (with_more c 1 next)
here_one Q next = omega arith
here_one C next = omega arith

new_numbered : (class : Class) (k : ℕ) (classes : List Class) (next : Numbers) → k < number_of class next → IsNew (wire class k) (numbered classes next)
new_numbered class k [] next lt = tt
new_numbered class k (c ∷ classes) next lt = (differ, new_numbered class k classes (with_more c 1 next) (let g = grows_one c class next in omega arith))
  where
    differ : wire class k ≢ wire c (number_of c next)
    differ e =
        let h : number_of c next < number_of c next = subst (λ (v : Wire). v.number < number_of v.class next) e lt in
        omega arith

pub numbered_distinct : (classes : List Class) (next : Numbers) → AreDistinct (numbered classes next)
numbered_distinct [] next = tt
numbered_distinct (c ∷ classes) next = (new_numbered c (number_of c next) classes (with_more c 1 next) (here_one c next), numbered_distinct classes (with_more c 1 next))

numbered_step : (class c : Class) (classes : List Class) (next : Numbers) →
    number_of class (with_more c 1 next) + length (of_class class (numbered classes (with_more c 1 next))) ≡ number_of class next + length (of_class class (numbered (c ∷ classes) next))
numbered_step Q Q classes next = omega arith
numbered_step Q C classes next = refl
numbered_step C Q classes next = refl
numbered_step C C classes next = omega arith

numbered_first : (c : Class) (classes : List Class) (next : Numbers) → 0 < length (of_class c (numbered (c ∷ classes) next))
numbered_first Q classes next = omega arith
numbered_first C classes next = omega arith

pub numbered_there : (all : Numbers) (classes : List Class) (next : Numbers) → ((class : Class) → number_of class next + length (of_class class (numbered classes next)) ≤ number_of class all) → AreThere all (numbered classes next)
numbered_there all [] next fit = tt
numbered_there all (c ∷ classes) next fit = (
  (let f = fit c in let h = numbered_first c classes next in omega arith),
  numbered_there all classes (with_more c 1 next) (λ class. (let e = numbered_step class c classes next in let f = fit class in omega (arith, e, f))),
)
