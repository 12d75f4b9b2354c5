-- An unfolding is its module's expansion with the wires put in their places.
use Rattle.std.proofs.Common.{◌≡◌, ℕ, zero, suc, ◌+◌, ◌-◌, ◌*◌, ◌<◌, ◌≤◌, Bool, true, false, cond, List, [], ◌∷◌, ◌++◌, map, filter, length, get_or, slice_get, Some, ◌⊎◌, inl, inr, refl, sym, ap, ◌∙◌, subst, append_assoc, arith}
use Rattle.std.specs.Option.{option_map_or}
use Rattle.std.specs.List.{AllByRecursion}
use Rattle.std.proofs.Math.Nat.{suc-mul}
use Rattle.std.proofs.Math.Seq.{get_or-append_seam}
use Rattle.std.proofs.lemmas.Bool.{cases_lt}
use Rattle.std.proofs.lemmas.List.{get_or_past}
use Rattle.std.proofs.lemmas.List.Elements.{filter-append, filter_passes}
use Rattle.sc_base.specs.declared.names.Class.{Class}
use Rattle.sc_base.specs.declared.names.Class.TheVariants.{Q, C}
use Rattle.sc_gate.specs.declared.gate.Wire.{Wire}
use Rattle.sc_gate.specs.declared.gate.Kind.{Kind}
use Rattle.sc_gate.specs.declared.gate.Gate.{Gate}
use Rattle.sc_gate.specs.Gates.{class_of}
use Rattle.sc_gate.specs.Numbers.{Numbers, number_of, with_more, no_wires}
use Rattle.sc_gate.specs.Renaming.{rename_gate}
use Rattle.sc_gate.specs.Wires.{same_class}
use Rattle.sc_gate.proofs.WireLemmas.{same_class-true, same_class-refl}
use Rattle.sc_deck.specs.Decks.{IsDeck}
use Rattle.sc_deck.specs.Events.{Event, gates_in, after_events, fresh_in, rename_event}
use Rattle.sc_deck.specs.Keys.{param_classes, params_of}
use Rattle.sc_deck.specs.Modules.{Module}
use Rattle.sc_deck.specs.Placing.{shifted, put, copies, Sized}
use Rattle.sc_deck.specs.Renaming.{wire, Renames}
use Rattle.sc_deck.specs.Unfolding.{of_class, repeated, unfold_on, numbered, expansion, gates_of}
use Rattle.sc_deck.proofs.PlaceLaws.{length_more, Sized-params}
use Rattle.sc_deck.proofs.RenameLaws.{gates_in-rename, after_events-rename, unfold_on-rename}
use Rattle.sc_deck.proofs.SequenceLaws.{after_events-append, after_events-adds}

-- a wire is put on one of its class
pub put-class : (wires : List Wire) (next : Numbers) (w : Wire) → class_of (put wires next w) ≡ class_of w
put-class wires next w = by (cases_lt w.number (length (of_class w.class wires)))
  where
    by : (w.number < length (of_class w.class wires)) ⊎ (length (of_class w.class wires) ≤ w.number) → class_of (put wires next w) ≡ w.class
    by (inl below) = sym (same_class-true w.class _ (filter_passes (λ (v : Wire). same_class w.class v.class) wires w.number _ below))
    by (inr past) = ap class_of (get_or_past (of_class w.class wires) w.number (shifted (length (of_class w.class wires)) (number_of w.class next) w) past)

-- a wire past the parameters is a fresh one
pub put-fresh : (wires : List Wire) (numbers next : Numbers) → Sized wires numbers → (class : Class) (k : ℕ) → put wires next (wire class (number_of class numbers + k)) ≡ wire class (number_of class next + k)
put-fresh wires numbers next sized class k =
    let size = sized.count class in
    let past : length (of_class class wires) ≤ number_of class numbers + k = omega arith in
    let e : number_of class next + (number_of class numbers + k - length (of_class class wires)) ≡ number_of class next + k = omega arith in
    get_or_past (of_class class wires) (number_of class numbers + k) (shifted (length (of_class class wires)) (number_of class next) (wire class (number_of class numbers + k))) past
    ∙ ap (wire class) e

pub put-Renames : (wires : List Wire) (numbers next : Numbers) → Sized wires numbers → Renames (put wires next) numbers next
put-Renames wires numbers next sized = record { classes = put-class wires next; fresh = put-fresh wires numbers next sized }

pub numbered-classes : (classes : List Class) (next : Numbers) → map class_of (numbered classes next) ≡ classes
numbered-classes [] next = refl
numbered-classes (class ∷ classes) next = ap (λ (cs : List Class). class ∷ cs) (numbered-classes classes (with_more class 1 next))

one_more : (class other : Class) (n : ℕ) (numbers : Numbers) → number_of class numbers + length (of_class class (wire other n ∷ [])) ≡ number_of class (with_more other 1 numbers)
one_more Q Q n numbers = refl
one_more C C n numbers = refl
one_more Q C n numbers = omega arith
one_more C Q n numbers = omega arith

Sized-wire : (places : List Wire) (numbers : Numbers) (w : Wire) → Sized places numbers → Sized (places ++ w ∷ []) (with_more w.class 1 numbers)
Sized-wire places numbers w sized = record {
  count = λ class. length_more class places (w ∷ []) ∙ ap (λ (k : ℕ). k + length (of_class class (w ∷ []))) (sized.count class) ∙ one_more class w.class w.number numbers;
}

-- the next wire of its class
wire_here : (before wires : List Wire) (w d : Wire) → get_or (of_class w.class (before ++ w ∷ wires)) (length (of_class w.class before)) d ≡ w
wire_here before wires w d =
    ap (λ (ws : List Wire). get_or ws (length (of_class w.class before)) d)
    (filter-append (λ (v : Wire). same_class w.class v.class) before (w ∷ wires)
    ∙ ap (λ (b : Bool). of_class w.class before ++ cond b (w ∷ of_class w.class wires) (of_class w.class wires)) (same_class-refl w.class))
    ∙ get_or-append_seam (of_class w.class before) w (of_class w.class wires) d

-- the parameters stand for the wires that are passed
passed : (next : Numbers) (before wires : List Wire) (numbers : Numbers) → Sized before numbers → map (put (before ++ wires) next) (numbered (map class_of wires) numbers) ≡ wires
passed next before [] numbers sized = refl
passed next before (w ∷ wires) numbers sized =
    let here : put (before ++ w ∷ wires) next (wire w.class (number_of w.class numbers)) ≡ w =
    ap (λ (n : ℕ). get_or (of_class w.class (before ++ w ∷ wires)) n (shifted (length (of_class w.class (before ++ w ∷ wires))) (number_of w.class next) (wire w.class (number_of w.class numbers)))) (sym (sized.count w.class))
    ∙ wire_here before wires w (shifted (length (of_class w.class (before ++ w ∷ wires))) (number_of w.class next) (wire w.class (number_of w.class numbers))) in
    let rest : map (put (before ++ w ∷ wires) next) (numbered (map class_of wires) (with_more w.class 1 numbers)) ≡ wires =
    ap (λ (ws : List Wire). map (put ws next) (numbered (map class_of wires) (with_more w.class 1 numbers))) (sym (append_assoc before (w ∷ []) wires))
    ∙ passed next (before ++ w ∷ []) wires (with_more w.class 1 numbers) (Sized-wire before numbers w sized) in
    λ i. here i ∷ rest i

Sized-none : Sized [] no_wires
Sized-none = record { count = λ class. by class }
  where
    by : (class : Class) → length (of_class class []) ≡ number_of class no_wires
    by Q = refl
    by C = refl

pub put-params : (wires : List Wire) (next : Numbers) → map (put wires next) (numbered (map class_of wires) no_wires) ≡ wires
put-params wires next = passed next [] wires no_wires Sized-none

pub expansion-is : (modules : List Module) (i : ℕ) (m : Module) → slice_get modules i ≡ Some m → expansion modules i ≡ unfold_on modules i (numbered (param_classes m.key) no_wires) (params_of m.key)
expansion-is modules i m at = ap (λ o. option_map_or (λ (m : Module). unfold_on modules i (numbered (param_classes m.key) no_wires) (params_of m.key)) o []) at

-- AN UNFOLDING is the expansion with the wires put in their places
pub unfold_on-put : (modules : List Module) → IsDeck modules → (i : ℕ) (m : Module) → slice_get modules i ≡ Some m → (wires : List Wire) (next : Numbers) → map class_of wires ≡ param_classes m.key →
    unfold_on modules i wires next ≡ map (rename_event (put wires next)) (expansion modules i)
unfold_on-put modules deck i m at wires next classes =
    let base : List Wire = numbered (param_classes m.key) no_wires in
    let renamed = unfold_on-rename modules deck i m at (put wires next) base (params_of m.key) next (numbered-classes (param_classes m.key) no_wires) (put-Renames wires (params_of m.key) next (Sized-params wires m.key classes)) in
    let same : map (put wires next) base ≡ wires = ap (λ (cs : List Class). map (put wires next) (numbered cs no_wires)) (sym classes) ∙ put-params wires next in
    ap (λ (ws : List Wire). unfold_on modules i ws next) (sym same) ∙ renamed ∙ ap (map (rename_event (put wires next))) (sym (expansion-is modules i m at))

-- the fresh sums are those of the expansion
pub fresh_in-put : (modules : List Module) → IsDeck modules → (i : ℕ) (m : Module) → slice_get modules i ≡ Some m → (wires : List Wire) (next : Numbers) → map class_of wires ≡ param_classes m.key →
    fresh_in (unfold_on modules i wires next) ≡ fresh_in (expansion modules i)
fresh_in-put modules deck i m at wires next classes = ap fresh_in (unfold_on-put modules deck i m at wires next classes) ∙ after_events-rename (put wires next) no_wires (expansion modules i)

-- the gates are those of the expansion with their wires put in their places
pub gates_in-put : (modules : List Module) → IsDeck modules → (i : ℕ) (m : Module) → slice_get modules i ≡ Some m → (wires : List Wire) (next : Numbers) → map class_of wires ≡ param_classes m.key →
    gates_in (unfold_on modules i wires next) ≡ map (rename_gate (put wires next)) (gates_of modules i)
gates_in-put modules deck i m at wires next classes = ap gates_in (unfold_on-put modules deck i m at wires next classes) ∙ gates_in-rename (put wires next) (expansion modules i)

-- THE SAME UNFOLDING AGAIN AND AGAIN: copies of its events, each with fresh wires of its own
pub repeated-copies : (once : Numbers → List Event) (wires : List Wire) (events : List Event) → ((next : Numbers) → once next ≡ map (rename_event (put wires next)) events) → (n : ℕ) (next : Numbers) → repeated n once next ≡ copies n wires events next
repeated-copies once wires events same zero next = refl
repeated-copies once wires events same (suc n) next =
    (λ k. same next k ++ repeated n once (after_events next (same next k)))
    ∙ ap (λ (at : Numbers). map (rename_event (put wires next)) events ++ repeated n once at) (after_events-rename (put wires next) next events)
    ∙ ap (λ (es : List Event). map (rename_event (put wires next)) events ++ es) (repeated-copies once wires events same n (after_events next events))

pub fresh_in-append : (class : Class) (xs ys : List Event) → number_of class (fresh_in (xs ++ ys)) ≡ number_of class (fresh_in xs) + number_of class (fresh_in ys)
fresh_in-append class xs ys = ap (number_of class) (after_events-append no_wires xs ys) ∙ after_events-adds (fresh_in xs) ys class

none_of : (class : Class) → number_of class no_wires ≡ 0
none_of Q = refl
none_of C = refl

-- n turns make n times the fresh wires
pub fresh_in-repeated : (once : Numbers → List Event) (class : Class) (each : ℕ) → ((next : Numbers) → number_of class (fresh_in (once next)) ≡ each) → (n : ℕ) (next : Numbers) → number_of class (fresh_in (repeated n once next)) ≡ n * each
fresh_in-repeated once class each same zero next = let h = none_of class in omega arith
fresh_in-repeated once class each same (suc n) next =
    let a = fresh_in-append class (once next) (repeated n once (after_events next (once next))) in
    let b = fresh_in-repeated once class each same n (after_events next (once next)) in
    let c = same next in
    let d = suc-mul n each in
    omega arith
