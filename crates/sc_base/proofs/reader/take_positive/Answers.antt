use Rattle.std.proofs.Common.{◌≡◌, ◌≤◌, ◌^◌, ◌∙◌, sym, FitsSigned, w64, rules, arith}
use Rattle.std.proofs.lemmas.Int.{to_z-of_z}
use Rattle.sc_base.proofs.NumeralLemmas.{int_positive, positive_front, number_unique}
use Rattle.sc_base.proofs.reader.take_positive.Goals as goal

pub returns-in_default-clause-none : goal.returns-in_default-clause-none
returns-in_default-clause-none c = λ z rest front.
    let (n, small, value, same) = int_positive c.args.bytes.now z rest c.requires front in
    c.in_default.ensures.none n rest (omega (arith, small)) front.ends same

pub returns-in-Some-positive-clause-some : goal.returns-in-Some-positive-clause-some
returns-in-Some-positive-clause-some c =
    let fits : FitsSigned w64 c.in-Some-positive.value = search rules in
    rw (to_z-of_z w64 c.in-Some-positive.value fits)
    (positive_front c.args.bytes.now c.in-Some.number c.in-Some-positive.value c.in-Some.rest.now c.in-Some-positive.ensures.some.0 c.in-Some-positive.ensures.some.1
    c.in-Some.ensures.some c.in-Some.ensures.ends)

pub returns-in-None-clause-none : goal.returns-in-None-clause-none
returns-in-None-clause-none c = λ z rest front.
    let (n, small, value, same) = int_positive c.args.bytes.now z rest c.requires front in
    let number : c.in-Some.number ≡ n =
    (number_unique c.in-Some.number n c.in-Some.rest.now rest c.in-Some.ensures.small (omega (arith, small)) c.in-Some.ensures.ends front.ends (sym c.in-Some.ensures.some ∙ same)).0 in
    let large : 2 ^ 63 ≤ c.in-Some.number = c.in-None.ensures.none in
    omega (arith, large, number, small)
