use Rattle.std.proofs.Common.{◌≡◌, ◌≤◌, ◌^◌, pos, ◌∙◌, sym, ap, FitsSigned, w64, rules, arith}
use Rattle.std.proofs.lemmas.Int.{to_z-of_z}
use Rattle.sc_base.proofs.FixedLemmas.{fixed_positive}
use Rattle.sc_base.proofs.reader.only_positive.Goals as goal

pub returns-in_default-clause-none : goal.returns-in_default-clause-none
returns-in_default-clause-none c = λ z rest front.
    let (n, small, value, same) = fixed_positive c.args.bytes.now z rest c.requires front in
    c.in_default.ensures.none n rest (omega (arith, small)) same

pub returns-in-Some-positive-clause-some : goal.returns-in-Some-positive-clause-some
returns-in-Some-positive-clause-some c = λ z rest front.
    let (n, small, value, same) = fixed_positive c.args.bytes.now z rest c.requires front in
    let units : c.in-Some.units ≡ n = c.in-Some.ensures.some n rest (omega (arith, small)) same in
    let fits : FitsSigned w64 c.in-Some-positive.value = search rules in
    to_z-of_z w64 c.in-Some-positive.value fits ∙ (c.in-Some-positive.ensures.some.1 ∙ (ap pos units ∙ sym value))

pub returns-in-None-clause-none : goal.returns-in-None-clause-none
returns-in-None-clause-none c = λ z rest front.
    let (n, small, value, same) = fixed_positive c.args.bytes.now z rest c.requires front in
    let units : c.in-Some.units ≡ n = c.in-Some.ensures.some n rest (omega (arith, small)) same in
    let large : 2 ^ 63 ≤ c.in-Some.units = c.in-None.ensures.none in
    omega (arith, large, units, small)
