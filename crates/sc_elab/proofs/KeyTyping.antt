-- The keys of a checked source: their arguments are wanted, their arrays have wires, and they have at most 65,536 wires.
use Rattle.std.proofs.Common.{◌≡◌, ℕ, List, [], ◌∷◌, ◌++◌, length, map, refl, sym, ap, ◌∙◌, subst}
use Rattle.std.specs.Prelude.{replicate, flat_map, All}
use Rattle.std.specs.List.{AllByRecursion}
use Rattle.std.proofs.lemmas.List.{map-append}
use Rattle.std.proofs.lemmas.List.Elements.{All-from_recursion}
use Rattle.sc_base.specs.declared.Class.{Class}
use Rattle.sc_gate.specs.declared.gate.Wire.{Wire}
use Rattle.sc_gate.specs.Gates.{class_of}
use Rattle.sc_gate.specs.Numbers.{Numbers, AreThere}
use Rattle.sc_deck.specs.declared.key.Arg.{Arg}
use Rattle.sc_deck.specs.declared.key.Arg.TheVariants as arg
use Rattle.sc_deck.specs.Keys.{arg_classes, HasLength}
use Rattle.sc_meaning.specs.declared.want.Want.{Want}
use Rattle.sc_meaning.specs.declared.want.Want.TheVariants as want
use Rattle.sc_meaning.specs.Arguments.{Passed, args_of, wires_of}
use Rattle.sc_elab.specs.Typings.{IsOf, IsNumber, PassedFits, AllPassedFit, ArgFits, ArgsFit}

-- ---- what a passed argument is in a key

classes_all : (c : Class) (n : Numbers) (ws : List Wire) → AllByRecursion (IsOf c n) ws → map class_of ws ≡ replicate (length ws) c
classes_all c n [] h = refl
classes_all c n (w ∷ ws) h = λ i. h.0.0 i ∷ classes_all c n ws h.1 i

there_all : (c : Class) (n : Numbers) (ws : List Wire) → AllByRecursion (IsOf c n) ws → AreThere n ws
there_all c n [] h = tt
there_all c n (w ∷ ws) h = (h.0.1, there_all c n ws h.1)

-- an argument, and the wires that are passed for it
pub record IsPassed (n : Numbers) (t : Want) (a : Arg) (ws : List Wire) : Type 0 where
  pub fits : ArgFits t a
  pub length : HasLength a
  pub classes : map class_of ws ≡ arg_classes a
  pub there : AreThere n ws

number_passed : (n : Numbers) (t : Want) (a : Arg) → ArgFits t a → IsNumber a → IsPassed n t a []
number_passed n t (arg.Int z) fits h = record { fits = fits; length = tt; classes = refl; there = tt }
number_passed n t (arg.Double d) fits h = record { fits = fits; length = tt; classes = refl; there = tt }
number_passed n t (arg.One c) fits h = absurd h
number_passed n t (arg.Many c k) fits h = absurd h

passed_is : (n : Numbers) (t : Want) (p : Passed) → PassedFits n t p → IsPassed n t p.arg p.wires
passed_is n (want.One c) p h =
    let one = h.1.one in
    subst (λ (a : Arg). IsPassed n (want.One c) a p.wires) (sym h.0)
    (record {
      fits = refl;
      length = tt;
      classes = classes_all c n p.wires h.1.each ∙ ap (λ (k : ℕ). replicate k c) one;
      there = there_all c n p.wires h.1.each;
    })
passed_is n (want.Many c) p h =
    subst (λ (a : Arg). IsPassed n (want.Many c) a p.wires) (sym h.0)
    (record { fits = (length p.wires, h.1.some, refl); length = h.1.some; classes = classes_all c n p.wires h.1.each; there = there_all c n p.wires h.1.each })
passed_is n (want.Number x) p h = subst (IsPassed n (want.Number x) p.arg) (sym h.1) (number_passed n (want.Number x) p.arg h.0 h.0)

-- the arguments of a key, and the wires that are passed for them
pub record ArePassed (n : Numbers) (ts : List Want) (args : List Arg) (ws : List Wire) : Type 0 where
  pub fit : ArgsFit ts args
  pub lengths : AllByRecursion HasLength args
  pub classes : map class_of ws ≡ flat_map arg_classes args
  pub there : AreThere n ws

there_append : (n : Numbers) (ws vs : List Wire) → AreThere n ws → AreThere n vs → AreThere n (ws ++ vs)
there_append n [] vs h k = k
there_append n (w ∷ ws) vs h k = (h.0, there_append n ws vs h.1 k)

pub passed_are : (n : Numbers) (ts : List Want) (ps : List Passed) → AllPassedFit n ts ps → ArePassed n ts (args_of ps) (wires_of ps)
passed_are n [] [] h = record { fit = tt; lengths = tt; classes = refl; there = tt }
passed_are n [] (p ∷ ps) h = absurd h
passed_are n (t ∷ ts) [] h = absurd h
passed_are n (t ∷ ts) (p ∷ ps) h =
    let one = passed_is n t p h.0 in
    let more = passed_are n ts ps h.1 in
    record {
      fit = (one.fits, more.fit);
      lengths = (one.length, more.lengths);
      classes = map-append class_of p.wires (wires_of ps) ∙ (λ i. one.classes i ++ more.classes i);
      there = there_append n p.wires (wires_of ps) one.there more.there;
    }

pub lengths_all : (args : List Arg) → AllByRecursion HasLength args → All HasLength args
lengths_all args h = All-from_recursion HasLength args h
