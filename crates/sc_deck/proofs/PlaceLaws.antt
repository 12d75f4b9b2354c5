-- Which wire a local wire stands for, and how many wires of each class there are.
use Rattle.std.proofs.Common.{◌≡◌, ℕ, zero, suc, ◌+◌, ◌<◌, Bool, true, false, cond, List, [], ◌∷◌, ◌++◌, map, filter, length, get_or, replicate, refl, sym, ap, ◌∙◌, subst, append-nil, length-append, arith, true≢false}
use Rattle.std.specs.Prelude.{flat_map, fold}
use Rattle.std.proofs.Math.ListN.{get_or-append}
use Rattle.std.proofs.lemmas.List.{get_or-map, get_or-append-add}
use Rattle.std.proofs.lemmas.List.Elements.{filter-append, filter_passes}
use Rattle.sc_base.specs.declared.names.Class.{Class}
use Rattle.sc_base.specs.declared.names.Class.TheVariants.{Q, C}
use Rattle.sc_gate.specs.declared.gate.Wire.{Wire}
use Rattle.sc_gate.specs.Gates.{class_of}
use Rattle.sc_gate.specs.Wires.{same_class}
use Rattle.sc_gate.proofs.WireLemmas.{same_class-true}
use Rattle.sc_deck.specs.declared.key.Arg.{Arg}
use Rattle.sc_deck.specs.declared.key.Arg.TheVariants.{Int, Double, One, Many}
use Rattle.sc_deck.specs.declared.key.Key.{Key}
use Rattle.sc_deck.specs.declared.item.Item.{Item}
use Rattle.sc_deck.specs.declared.item.Item.TheVariants as item
use Rattle.sc_deck.specs.Items.{after_item}
use Rattle.sc_deck.specs.Keys.{arg_classes, param_classes, with_arg, params_of}
use Rattle.sc_gate.specs.Numbers.{Numbers, number_of, with_more, no_wires, AreThere}
use Rattle.sc_deck.specs.Placing.{Sized}
use Rattle.sc_deck.specs.Renaming.{wire}
use Rattle.sc_deck.specs.Unfolding.{wires_from, of_class, placed, places_with}

-- a renaming that keeps classes renames the wires of each class
pub of_class-map : (f : Wire → Wire) → ((w : Wire) → class_of (f w) ≡ class_of w) → (class : Class) (wires : List Wire) → of_class class (map f wires) ≡ map f (of_class class wires)
of_class-map f keeps class [] = refl
of_class-map f keeps class (w ∷ wires) =
    (λ i. cond (same_class class (keeps w i)) (f w ∷ of_class class (map f wires)) (of_class class (map f wires)))
    ∙ ap (λ (ws : List Wire). cond (same_class class w.class) (f w ∷ ws) ws) (of_class-map f keeps class wires)
    ∙ inside (same_class class w.class)
  where
    inside : (b : Bool) → cond b (f w ∷ map f (of_class class wires)) (map f (of_class class wires)) ≡ map f (cond b (w ∷ of_class class wires) (of_class class wires))
    inside true = refl
    inside false = refl

-- the wire that a local wire stands for has its class
pub placed-class : (places : List Wire) (w : Wire) → w.number < length (of_class w.class places) → class_of (placed places w) ≡ w.class
placed-class places w below = sym (same_class-true w.class _ (filter_passes (λ (v : Wire). same_class w.class v.class) places w.number w below))

pub placed-map : (f : Wire → Wire) → ((w : Wire) → class_of (f w) ≡ class_of w) → (places : List Wire) (w : Wire) → w.number < length (of_class w.class places) → placed (map f places) w ≡ f (placed places w)
placed-map f keeps places w below =
    ap (λ (ws : List Wire). get_or ws w.number w) (of_class-map f keeps w.class places)
    ∙ get_or-map f (of_class w.class places) w.number w w below

length_same : (class : Class) (first n : ℕ) → length (of_class class (wires_from class first n)) ≡ n
length_same class first zero = refl
length_same Q first (suc n) = ap suc (length_same Q (suc first) n)
length_same C first (suc n) = ap suc (length_same C (suc first) n)

length_other : (class other : Class) (first n : ℕ) → same_class class other ≡ false → length (of_class class (wires_from other first n)) ≡ 0
length_other class other first zero apart = refl
length_other class other first (suc n) apart =
    ap (λ (b : Bool). length (cond b (record { class = other; number = first } ∷ of_class class (wires_from other (suc first) n)) (of_class class (wires_from other (suc first) n)))) apart
    ∙ length_other class other (suc first) n apart

pub length_more : (class : Class) (places more : List Wire) → length (of_class class (places ++ more)) ≡ length (of_class class places) + length (of_class class more)
length_more class places more =
    ap length (filter-append (λ (v : Wire). same_class class v.class) places more) ∙ length-append (of_class class places) (of_class class more)

grows : (class other : Class) (first n : ℕ) (numbers : Numbers) → number_of class numbers + length (of_class class (wires_from other first n)) ≡ number_of class (with_more other n numbers)
grows Q Q first n numbers = ap (λ (k : ℕ). numbers.qubits + k) (length_same Q first n)
grows C C first n numbers = ap (λ (k : ℕ). numbers.cbits + k) (length_same C first n)
grows Q C first n numbers = let h = length_other Q C first n refl in omega arith
grows C Q first n numbers = let h = length_other C Q first n refl in omega arith

pub Sized-item : (places : List Wire) (numbers : Numbers) (i : Item) (next : Numbers) → Sized places numbers → Sized (places_with i places next) (after_item numbers i)
Sized-item places numbers (item.Fresh other n) next sized = record {
  count = λ class. length_more class places (wires_from other (number_of other next) n)
      ∙ ap (λ (k : ℕ). k + length (of_class class (wires_from other (number_of other next) n))) (sized.count class)
      ∙ grows class other (number_of other next) n numbers;
}
Sized-item places numbers (item.Gate gate) next sized = sized
Sized-item places numbers (item.Call callee wires) next sized = sized
Sized-item places numbers (item.Gates gate turns) next sized = sized
Sized-item places numbers (item.Calls callee wires turns) next sized = sized

-- how many of some classes are one class
count : Class → List Class → ℕ
count class classes = length (filter (same_class class) classes)

count_more : (class : Class) (xs ys : List Class) → count class (xs ++ ys) ≡ count class xs + count class ys
unfolding count
count_more class xs ys = ap length (filter-append (same_class class) xs ys) ∙ length-append (filter (same_class class) xs) (filter (same_class class) ys)

count_same : (class : Class) (n : ℕ) → count class (replicate n class) ≡ n
unfolding count
count_same class zero = refl
count_same Q (suc n) = ap suc (count_same Q n)
count_same C (suc n) = ap suc (count_same C n)

count_other : (class other : Class) (n : ℕ) → same_class class other ≡ false → count class (replicate n other) ≡ 0
unfolding count
count_other class other zero apart = refl
count_other class other (suc n) apart =
    ap (λ (b : Bool). length (cond b (other ∷ filter (same_class class) (replicate n other)) (filter (same_class class) (replicate n other)))) apart
    ∙ count_other class other n apart

count_array : (class other : Class) (n : ℕ) (numbers : Numbers) → number_of class (with_more other n numbers) ≡ number_of class numbers + count class (replicate n other)
count_array Q Q n numbers = ap (λ (k : ℕ). numbers.qubits + k) (sym (count_same Q n))
count_array C C n numbers = ap (λ (k : ℕ). numbers.cbits + k) (sym (count_same C n))
count_array Q C n numbers = let h = count_other Q C n refl in omega arith
count_array C Q n numbers = let h = count_other C Q n refl in omega arith

count_arg : (class : Class) (arg : Arg) (numbers : Numbers) → number_of class (with_arg numbers arg) ≡ number_of class numbers + count class (arg_classes arg)
unfolding count
count_arg class (Int n) numbers = omega arith
count_arg class (Double x) numbers = omega arith
count_arg class (One other) numbers = count_array class other 1 numbers
count_arg class (Many other n) numbers = count_array class other n numbers

count_args : (class : Class) (args : List Arg) (numbers : Numbers) → number_of class (fold with_arg numbers args) ≡ number_of class numbers + count class (flat_map arg_classes args)
unfolding count
count_args class [] numbers = omega arith
count_args class (arg ∷ args) numbers =
    let h = count_args class args (with_arg numbers arg) in
    let e = count_arg class arg numbers in
    let f = count_more class (arg_classes arg) (flat_map arg_classes args) in
    omega arith

of_class_count : (class : Class) (wires : List Wire) → length (of_class class wires) ≡ length (filter (same_class class) (map class_of wires))
of_class_count class [] = refl
of_class_count class (w ∷ wires) = by (same_class class w.class) (of_class_count class wires)
  where
    by : (b : Bool) → length (of_class class wires) ≡ length (filter (same_class class) (map class_of wires)) →
        length (cond b (w ∷ of_class class wires) (of_class class wires)) ≡ length (cond b (w.class ∷ filter (same_class class) (map class_of wires)) (filter (same_class class) (map class_of wires)))
    by true h = ap suc h
    by false h = h

-- A KEY'S PARAMETER WIRES: their classes in order have the numbers that the key states
pub Sized-params : (wires : List Wire) (key : Key) → map class_of wires ≡ param_classes key → Sized wires (params_of key)
unfolding count
Sized-params wires key e = record {
  count = λ class. let h = count_args class key.args no_wires in let z = zero_of class in
      of_class_count class wires ∙ ap (λ (cs : List Class). length (filter (same_class class) cs)) e ∙ (let f : length (filter (same_class class) (param_classes key)) ≡ number_of class (params_of key) = omega arith in f);
}
  where
    zero_of : (class : Class) → number_of class no_wires ≡ 0
    zero_of Q = refl
    zero_of C = refl

pub placed-classes : (places : List Wire) (numbers : Numbers) → Sized places numbers → (ws : List Wire) → AreThere numbers ws → map class_of (map (placed places) ws) ≡ map class_of ws
placed-classes places numbers sized [] there = refl
placed-classes places numbers sized (w ∷ ws) there =
    let here = placed-class places w (subst (λ (n : ℕ). w.number < n) (sym (sized.count w.class)) there.0) in
    let rest = placed-classes places numbers sized ws there.1 in
    λ i. here i ∷ rest i

-- wires that come behind leave the earlier places
pub placed-before : (places more : List Wire) (w : Wire) → w.number < length (of_class w.class places) → placed (places ++ more) w ≡ placed places w
placed-before places more w below =
    ap (λ (ws : List Wire). get_or ws w.number w) (filter-append (λ (v : Wire). same_class w.class v.class) places more)
    ∙ get_or-append (of_class w.class places) (of_class w.class more) w w.number below

-- wires of a class from a number on are of that class
pub of_class-same : (class : Class) (first n : ℕ) → of_class class (wires_from class first n) ≡ wires_from class first n
of_class-same class first zero = refl
of_class-same Q first (suc n) = ap (λ (ws : List Wire). wire Q first ∷ ws) (of_class-same Q (suc first) n)
of_class-same C first (suc n) = ap (λ (ws : List Wire). wire C first ∷ ws) (of_class-same C (suc first) n)

-- and of no other
pub of_class-other : (class other : Class) (first n : ℕ) → same_class class other ≡ false → of_class class (wires_from other first n) ≡ []
of_class-other class other first zero apart = refl
of_class-other class other first (suc n) apart =
    ap (λ (b : Bool). cond b (wire other first ∷ of_class class (wires_from other (suc first) n)) (of_class class (wires_from other (suc first) n))) apart
    ∙ of_class-other class other (suc first) n apart

pub wires_from-at : (class : Class) (first n k : ℕ) (d : Wire) → k < n → get_or (wires_from class first n) k d ≡ wire class (first + k)
wires_from-at class first zero k d below = absurd (omega arith)
wires_from-at class first (suc n) zero d below = let e : first ≡ first + 0 = omega arith in ap (wire class) e
wires_from-at class first (suc n) (suc k) d below =
    let lt : k < n = omega arith in
    let e : suc first + k ≡ first + suc k = omega arith in
    wires_from-at class (suc first) n k d lt ∙ ap (wire class) e

-- the fresh wires have the local numbers from the count of their class on
pub placed-fresh : (places : List Wire) (class : Class) (first n k : ℕ) → k < n → placed (places ++ wires_from class first n) (wire class (length (of_class class places) + k)) ≡ wire class (first + k)
placed-fresh places class first n k below =
    let d : Wire = wire class (length (of_class class places) + k) in
    ap (λ (ws : List Wire). get_or ws (length (of_class class places) + k) d)
    (filter-append (λ (v : Wire). same_class class v.class) places (wires_from class first n) ∙ ap (λ (ws : List Wire). of_class class places ++ ws) (of_class-same class first n))
    ∙ get_or-append-add (of_class class places) (wires_from class first n) k d
    ∙ wires_from-at class first n k d below
