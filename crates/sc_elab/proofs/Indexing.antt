-- Elements of spans.
use Rattle.std.proofs.Common.{◌≡◌, ℕ, ◌+◌, ◌<◌, ◌≤◌, [], ◌∷◌, Ok, Err, refl, sym, ap, ◌∙◌, arith}
use Rattle.std.specs.Prelude.{ℤ, pos, negsuc, ◌≤ℤ◌, ◌<ℤ◌}
use Rattle.std.proofs.lemmas.Int.{ints}
use Rattle.sc_base.specs.declared.Place.{Place}
use Rattle.sc_base.specs.declared.Class.{Class}
use Rattle.sc_deck.specs.Unfolding.{wires_from}
use Rattle.sc_meaning.specs.declared.fault.ElabFault.TheVariants.{OutOfRange}
use Rattle.sc_meaning.specs.Values.{there, element}
use Rattle.sc_meaning.proofs.Spanned.{wire, get_made, get_past}

pub element_in : (at : Place) (c : Class) (first len i : ℕ) (z : ℤ) → pos i ≡ z → i < len → element at (wires_from c first len) z ≡ Ok (wire c (first + i) ∷ [])
element_in at c first len i z e h =
    ap (element at (wires_from c first len)) (sym e) ∙ ap (there at) (get_made c first len i h)

pub element_past : (at : Place) (c : Class) (first len : ℕ) (z : ℤ) → pos len ≤ℤ z → element at (wires_from c first len) z ≡ Err (OutOfRange at)
element_past at c first len (pos i) h = let l : len ≤ i = omega (arith, ints) in ap (there at) (get_past c first len i l)
element_past at c first len (negsuc i) h = refl

pub element_below : (at : Place) (c : Class) (first len : ℕ) (z : ℤ) → z <ℤ pos 0 → element at (wires_from c first len) z ≡ Err (OutOfRange at)
element_below at c first len (pos i) h = absurd (omega (arith, ints))
element_below at c first len (negsuc i) h = refl
