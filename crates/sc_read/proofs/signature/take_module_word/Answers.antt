use Rattle.std.proofs.Common.{◌≡◌, arith}
use Rattle.std.proofs.lemmas.Bool.Decides.{nat_tests}
use Rattle.sc_read.proofs.GateParts.{none_from}
use Rattle.sc_read.proofs.HierHeading.{module_number}
use Rattle.sc_read.proofs.signature.take_module_word.Goals as goal

pub returns-then-found-number-clause-none : goal.returns-then-found-number-clause-none
returns-then-found-number-clause-none c = λ rest is.
    let r = module_number c.args.line.now c.in-Some.after_word.now c.in-Some-take_number.after_number.now c.in-Some-take_number.found c.args.number c.in-Some.ensures.some
    c.in-Some-take_number.ensures.some c.in-Some-take_number.ensures.small c.in-Some-take_number.ensures.ends (omega arith) rest is in
    let same : c.in-Some-take_number.found ≡ c.args.number = r.0 in
    first_of (omega (arith, same), grind (arith, nat_tests, same))

pub returns-clause-none : goal.returns-clause-none
returns-clause-none c =
    none_from c.take_text-2.result _ _ (λ none rest is. none rest (module_number c.args.line.now c.in-Some.after_word.now c.in-Some-take_number.after_number.now
    c.in-Some-take_number.found c.args.number c.in-Some.ensures.some c.in-Some-take_number.ensures.some c.in-Some-take_number.ensures.small c.in-Some-take_number.ensures.ends (omega arith) rest is).1)
    c.take_text-2.ensures.none
