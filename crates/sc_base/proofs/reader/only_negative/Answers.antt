use Rattle.std.proofs.Common.{◌≡◌, ◌+◌, ◌-◌, ◌<◌, ◌^◌, negsuc, ◌∙◌, sym, ap, FitsSigned, w64, rules, arith}
use Rattle.std.proofs.lemmas.Int.{to_z-of_z}
use Rattle.sc_base.proofs.FixedLemmas.{fixed_negative}
use Rattle.sc_base.proofs.reader.only_negative.Goals as goal

pub returns-in_default-clause-none : goal.returns-in_default-clause-none
returns-in_default-clause-none c = λ z rest front.
    let (n, small, value, same) = fixed_negative c.args.bytes.now z rest front in
    c.in_default.ensures.none (n + 1) rest (omega (arith, small)) same

pub returns-in-Some-negative-clause-some : goal.returns-in-Some-negative-clause-some
returns-in-Some-negative-clause-some c = λ z rest front.
    let (n, small, value, same) = fixed_negative c.args.bytes.now z rest front in
    let units : c.in-Some.units ≡ n + 1 = c.in-Some.ensures.some (n + 1) rest (omega (arith, small)) same in
    let less : c.in-Some.units - 1 ≡ n = omega (arith, units) in
    let fits : FitsSigned w64 c.in-Some-negative.value = search rules in
    to_z-of_z w64 c.in-Some-negative.value fits ∙ (c.in-Some-negative.ensures.some.2 ∙ (ap negsuc less ∙ sym value))

pub returns-in-None-clause-none : goal.returns-in-None-clause-none
returns-in-None-clause-none c = λ z rest front.
    let (n, small, value, same) = fixed_negative c.args.bytes.now z rest front in
    let units : c.in-Some.units ≡ n + 1 = c.in-Some.ensures.some (n + 1) rest (omega (arith, small)) same in
    let large : 2 ^ 63 < c.in-Some.units = c.in-None.ensures.none (omega (arith, units)) in
    omega (arith, large, units, small)
