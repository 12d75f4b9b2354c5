use Rattle.std.proofs.Common.{◌≡◌, arith}
use Rattle.std.proofs.lemmas.Bool.Decides.{nat_tests}
use Rattle.sc_read.proofs.HierItems.{turns_there}
use Rattle.sc_read.proofs.item_line.take_turns.Goals as goal

pub returns-then-count-lt2-clause-none : goal.returns-then-count-lt2-clause-none
returns-then-count-lt2-clause-none c = λ turns rest two small is.
    let same : c.in-Some-take_number.count ≡ turns = (turns_there c.args.line.now c.in-Some.after_word.now c.in-Some-take_number.after_count.now c.in-Some-take_number.count c.in-Some.ensures.some
    c.in-Some-take_number.ensures.some c.in-Some-take_number.ensures.small c.in-Some-take_number.ensures.ends turns rest small is).0 in
    first_of (omega (arith, same, two), grind (arith, nat_tests, same, two))

pub returns-in-None-clause-none : goal.returns-in-None-clause-none
returns-in-None-clause-none c = λ turns rest two small is.
    c.in-None.ensures.none rest (turns_there c.args.line.now c.in-Some.after_word.now c.in-Some-take_number.after_count.now c.in-Some-take_number.count c.in-Some.ensures.some
    c.in-Some-take_number.ensures.some c.in-Some-take_number.ensures.small c.in-Some-take_number.ensures.ends turns rest small is).1
