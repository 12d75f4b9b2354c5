-- The rows of wires, as they are listed.
use Rattle.std.proofs.Common.{◌≡◌, ℕ, zero, suc, ◌+◌, ◌<◌, List, [], ◌∷◌, ◌++◌, map, length, get_or, take, Bool, true, false, cond, Option, Some, sym, ap, ◌∙◌, arith, append_assoc, All}
use Rattle.std.specs.Prelude.{option_to_list}
use Rattle.std.specs.List.{range_with_len}
use Rattle.std.proofs.lemmas.List.{take_more, map-append}
use Rattle.std.proofs.lemmas.List.Elements.{filter-append}
use Rattle.sc_base.specs.declared.names.Class.{Class}
use Rattle.sc_gate.specs.declared.gate.Wire.{Wire}
use Rattle.sc_gate.specs.Wires.{same_class}
use Rattle.sc_deck.specs.Unfolding.{of_class}

-- one more wire of a class
pub class_more : (f : Wire → ℕ) (class : Class) (wires : List Wire) (k : ℕ) (d : Wire) (old now next : List ℕ) → k < length wires → now ≡ old ++ map f (of_class class (take k wires)) →
    next ≡ now ++ map f (of_class class (get_or wires k d ∷ [])) → next ≡ old ++ map f (of_class class (take (k + 1) wires))
class_more f class wires k d old now next h i n =
    n ∙ ap (λ (x : List ℕ). x ++ map f (of_class class (get_or wires k d ∷ []))) i
    ∙ append_assoc old (map f (of_class class (take k wires))) (map f (of_class class (get_or wires k d ∷ [])))
    ∙ ap (λ (x : List ℕ). old ++ x) (sym (map-append f (of_class class (take k wires)) (of_class class (get_or wires k d ∷ []))))
    ∙ ap (λ (x : List Wire). old ++ map f x) (sym (filter-append (λ (v : Wire). same_class class v.class) (take k wires) (get_or wires k d ∷ [])))
    ∙ ap (λ (x : List Wire). old ++ map f (of_class class x)) (sym (take_more wires k d h))

-- a wire of the class, and another one
pub of_one : (class : Class) (w : Wire) → same_class class w.class ≡ true → of_class class (w ∷ []) ≡ w ∷ []
of_one class w e = ap (λ (b : Bool). cond b (w ∷ []) []) e

pub of_none : (class : Class) (w : Wire) → same_class class w.class ≡ false → of_class class (w ∷ []) ≡ []
of_none class w e = ap (λ (b : Bool). cond b (w ∷ []) []) e

range_suc : (a n : ℕ) → range_with_len a (suc n) ≡ range_with_len a n ++ (a + n) ∷ []
range_suc a zero = let e : a ≡ a + 0 = omega arith in ap (λ (x : ℕ). x ∷ []) e
range_suc a (suc n) = let e : (a + 1) + n ≡ a + suc n = omega arith in ap (λ (x : List ℕ). a ∷ x) (range_suc (a + 1) n ∙ ap (λ (x : ℕ). range_with_len (a + 1) n ++ x ∷ []) e)

pub range_more : (a n : ℕ) → range_with_len a (n + 1) ≡ range_with_len a n ++ (a + n) ∷ []
range_more a n = let e : n + 1 ≡ suc n = omega arith in ap (range_with_len a) e ∙ range_suc a n

pub numbers_more : (first k : ℕ) (old now next : List ℕ) → now ≡ old ++ range_with_len first k → next ≡ now ++ (first + k) ∷ [] → next ≡ old ++ range_with_len first (k + 1)
numbers_more first k old now next i n =
    n ∙ ap (λ (x : List ℕ). x ++ (first + k) ∷ []) i ∙ append_assoc old (range_with_len first k) ((first + k) ∷ []) ∙ ap (λ (x : List ℕ). old ++ x) (sym (range_more first k))

-- what holds of all wires of a gate holds of its parts
pub all_first : {X : Type 0} (P : X → Type 0) (x : X) (xs : List X) → All P (x ∷ xs) → All P (x ∷ [])
all_first P x xs a zero d h = a zero d (omega arith)
all_first P x xs a (suc i) d h = absurd (omega arith)

pub all_front : {X : Type 0} (P : X → Type 0) (xs ys : List X) → All P (xs ++ ys) → All P xs
all_front P [] ys a i d h = absurd (omega arith)
all_front P (x ∷ xs) ys a zero d h = a zero d (omega arith)
all_front P (x ∷ xs) ys a (suc i) d h = all_front P xs ys (λ j e k. a (suc j) e (omega arith)) i d (omega arith)

pub all_back : {X : Type 0} (P : X → Type 0) (xs ys : List X) → All P (xs ++ ys) → All P ys
all_back P [] ys a = a
all_back P (x ∷ xs) ys a = all_back P xs ys (λ j e k. a (suc j) e (omega arith))

pub all_rest : {X : Type 0} (P : X → Type 0) (x : X) (xs : List X) → All P (x ∷ xs) → All P xs
all_rest P x xs a = λ j e k. a (suc j) e (omega arith)

-- rows of the operands, one after another
pub three_rows : (f : Wire → ℕ) (a : Wire) (b c : Option Wire) (xs ys zs : List ℕ) → xs ≡ [] ++ map f (option_to_list (Some a)) → ys ≡ xs ++ map f (option_to_list b) → zs ≡ ys ++ map f (option_to_list c) →
    zs ≡ map f (a ∷ (option_to_list b ++ option_to_list c))
three_rows f a b c xs ys zs e g h =
    h ∙ ap (λ (x : List ℕ). x ++ map f (option_to_list c)) (g ∙ ap (λ (x : List ℕ). x ++ map f (option_to_list b)) e)
    ∙ ap (λ (x : List ℕ). f a ∷ x) (sym (map-append f (option_to_list b) (option_to_list c)))
