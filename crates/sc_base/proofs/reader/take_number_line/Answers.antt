use Rattle.std.proofs.Common.{◌≡◌, ◌++◌, ◌∷◌, arith, refl}
use Rattle.std.specs.Prelude.{decimal}
use Rattle.sc_base.proofs.NumeralLemmas.{after_word_is, after_space_is, number_there}
use Rattle.sc_base.proofs.reader.take_number_line.Goals as goal
use Rattle.sc_base.proofs.reader.take_number_line.Goals.{then-number-low-via-then-number-low, then-number-low-via-else-number-low+then-number-high}

pub returns-in_default-take_text-clause-none : goal.returns-in_default-take_text-clause-none
returns-in_default-take_text-clause-none c = λ n more a b h.
    c.in_default-take_text.ensures.none (decimal n ++ 10 ∷ more) (after_word_is c.args.bytes.now c.args.word.now c.in-Some.after_word.now n more c.in-Some.ensures.some h)

pub returns-in_default-take_number-clause-none : goal.returns-in_default-take_number-clause-none
returns-in_default-take_number-clause-none c = λ n more a b h.
    c.in_default-take_number.ensures.none n (10 ∷ more) (omega (arith, b)) refl
    (after_space_is c.args.bytes.now c.args.word.now c.in-Some.after_word.now c.in-Some-take_text.after_space.now n more c.in-Some.ensures.some c.in-Some-take_text.ensures.some h)

pub returns-then-number-low-clause-none : goal.returns-then-number-low-clause-none
returns-then-number-low-clause-none c = λ n more a b h.
    let same : c.in-Some-take_number.number ≡ n = (number_there c.args.bytes.now c.args.word.now c.in-Some.after_word.now c.in-Some-take_text.after_space.now c.in-Some-take_number.number n
    c.in-Some-take_number.after_number.now more (omega (arith, c.in-Some-take_number.ensures.small)) (omega (arith, b)) c.in-Some.ensures.some c.in-Some-take_text.ensures.some c.in-Some-take_number.ensures.some c.in-Some-take_number.ensures.ends h).0 in
    elim c.then-number-low.branch [
      | then-number-low-via-then-number-low w ↦ absurd (omega (arith, same, a, w.if-number-low.true))
      | then-number-low-via-else-number-low+then-number-high w ↦ absurd (omega (arith, same, b, w.if-number-high.true))
    ]

pub returns-in-None-clause-none : goal.returns-in-None-clause-none
returns-in-None-clause-none c = λ n more a b h.
    c.in-None.ensures.none more (number_there c.args.bytes.now c.args.word.now c.in-Some.after_word.now c.in-Some-take_text.after_space.now c.in-Some-take_number.number n
    c.in-Some-take_number.after_number.now more (omega arith) (omega (arith, b)) c.in-Some.ensures.some c.in-Some-take_text.ensures.some c.in-Some-take_number.ensures.some c.in-Some-take_number.ensures.ends h).1
