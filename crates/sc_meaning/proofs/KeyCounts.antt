-- How many wires a key has, and how many distinct wires there are.
use Rattle.std.proofs.Common.{◌≡◌, ℕ, zero, suc, ◌+◌, ◌<◌, ◌≤◌, true, List, [], ◌∷◌, length, get_or, map, refl, sym, ap, ◌∙◌, arith, length-append}
use Rattle.std.specs.Prelude.{flat_map, fold, nat_le}
use Rattle.std.proofs.lemmas.Bool.Decides.{nat_tests}
use Rattle.std.proofs.lemmas.List.{length-map, length-replicate}
use Rattle.indexmap.proofs.IndexTableLemmas.Probe.{pigeonhole}
use Rattle.sc_base.specs.declared.Class.{Class}
use Rattle.sc_base.specs.declared.Class.TheVariants.{Q, C}
use Rattle.sc_gate.specs.declared.gate.Wire.{Wire}
use Rattle.sc_gate.specs.Gates.{class_of, AreDistinct}
use Rattle.sc_gate.specs.Numbers.{Numbers, number_of, both, no_wires, with_more, IsThere, AreThere}
use Rattle.sc_deck.specs.declared.key.Arg.{Arg}
use Rattle.sc_deck.specs.declared.key.Arg.TheVariants as arg
use Rattle.sc_deck.specs.Keys.{arg_classes, with_arg}
use Rattle.sc_deck.specs.Unfolding.{numbered}
use Rattle.sc_deck.proofs.FormedLaws.{place_of_wire}
use Rattle.sc_meaning.proofs.Spanned.{wire}

-- ---- tests of numbers

pub le_is : (a b : ℕ) → nat_le a b ≡ true → a ≤ b
le_is a b h = grind (arith, nat_tests)

pub le_true : (a b : ℕ) → a ≤ b → nat_le a b ≡ true
le_true a b h = grind (arith, nat_tests)

-- ---- parameters

pub both_more : (c : Class) (n : ℕ) (numbers : Numbers) → both (with_more c n numbers) ≡ both numbers + n
both_more Q n numbers = omega arith
both_more C n numbers = omega arith

count_arg : (before : Numbers) (a : Arg) → both (with_arg before a) ≡ both before + length (arg_classes a)
count_arg before (arg.Int z) = omega arith
count_arg before (arg.Double d) = omega arith
count_arg before (arg.One c) = both_more c 1 before
count_arg before (arg.Many c k) = both_more c k before ∙ ap (λ (m : ℕ). both before + m) (sym (length-replicate k c))

pub count_args : (before : Numbers) (args : List Arg) → both (fold with_arg before args) ≡ both before + length (flat_map arg_classes args)
count_args before [] = omega arith
count_args before (a ∷ args) =
    let one = count_arg before a in
    let more = count_args (with_arg before a) args in
    let all = length-append (arg_classes a) (flat_map arg_classes args) in
    omega arith

pub length_numbered : (cs : List Class) (next : Numbers) → length (numbered cs next) ≡ length cs
length_numbered [] next = refl
length_numbered (c ∷ cs) next = ap suc (length_numbered cs (with_more c 1 next))

-- ---- at most as many distinct wires as there are

abbrev place_in : Numbers → Class → ℕ → ℕ
place_in n Q k = k
place_in n C k = n.qubits + k

abbrev place : Numbers → Wire → ℕ
place n w = place_in n w.class w.number

place_below : (n : Numbers) (w : Wire) → IsThere n w → place n w < both n
place_below n w h = by w.class w.number h
  where
    by : (c : Class) (k : ℕ) → k < number_of c n → place_in n c k < both n
    by Q k below = omega arith
    by C k below = omega arith

same_place : (n : Numbers) (v w : Wire) → IsThere n v → IsThere n w → place n v ≡ place n w → v ≡ w
same_place n v w h k e = by v.class w.class v.number w.number h k e
  where
    by : (c d : Class) (i j : ℕ) → i < number_of c n → j < number_of d n → place_in n c i ≡ place_in n d j → wire c i ≡ wire d j
    by Q Q i j p q e = ap (wire Q) e
    by C C i j p q e = let s : i ≡ j = omega arith in ap (wire C) s
    by Q C i j p q e = absurd (omega arith)
    by C Q i j p q e = absurd (omega arith)

there_at : (n : Numbers) (ws : List Wire) (i : ℕ) (d : Wire) → i < length ws → AreThere n ws → IsThere n (get_or ws i d)
there_at n [] i d below h = absurd (omega arith)
there_at n (w ∷ ws) zero d below h = h.0
there_at n (w ∷ ws) (suc i) d below h = there_at n ws i d (omega arith) h.1

pub few_wires : (n : Numbers) (ws : List Wire) → AreDistinct ws → AreThere n ws → length ws ≤ both n
few_wires n ws apart there =
    pigeonhole (length ws) (both n) (λ i. place n (get_or ws i (wire Q 0)))
    (λ i below. place_below n (get_or ws i (wire Q 0)) (there_at n ws i (wire Q 0) below there))
    (λ i j p q e. place_of_wire ws apart i j (wire Q 0) (wire Q 0) p q
    (same_place n (get_or ws i (wire Q 0)) (get_or ws j (wire Q 0)) (there_at n ws i (wire Q 0) p there) (there_at n ws j (wire Q 0) q there) e))

-- ---- how many wires a key has

-- a key has as many wires as are passed, and so at most as many as there are
pub few_params : (n : Numbers) (args : List Arg) (ws : List Wire) → map class_of ws ≡ flat_map arg_classes args → AreDistinct ws → AreThere n ws → both (fold with_arg no_wires args) ≤ both n
few_params n args ws classes apart there =
    let few = few_wires n ws apart there in
    let same = ap length classes in
    let mapped = length-map ws class_of in
    let counted = count_args no_wires args in
    let none : both no_wires ≡ 0 = refl in
    omega arith
