use Rattle.std.proofs.Common.{◌<◌, List, length, sym, subst, arith, rules}
use Rattle.std.proofs.lemmas.Bool.Decides.{nat_tests}
use Rattle.sc_deck.specs.declared.key.Arg.{Arg}
use Rattle.sc_read.proofs.HierHeading.{PartsRead, parts_begin, parts_more, parts_bad, parts_end, parts_bad_end}
use Rattle.sc_read.proofs.signature.args_of.Goals as goal

pub loop-part-init : goal.loop-part-init
loop-part-init c =
    let some : 0 < length c.args.inside.now = first_of (grind (arith, nat_tests), search rules) in
    subst (λ (z : List Arg). PartsRead c.args.inside.now c.args.inside.now z) (sym c.new-args.ensures) (parts_begin c.args.inside.now some)

pub returns-in_default-arg_of-clause-none : goal.returns-in_default-arg_of-clause-none
returns-in_default-arg_of-clause-none c =
    parts_bad c.args.inside.now c.loop-part.rest.now c.in-Some.part.now c.in-Some.more.now c.loop-part.args c.loop-part.invariant c.in-Some.ensures.some c.in-Some.ensures.first c.in_default-arg_of.ensures.none

pub loop-part-preserved : goal.loop-part-preserved
loop-part-preserved c = rw c.in_ok-push.ensures.ok
    (parts_more c.args.inside.now c.loop-part.rest.now c.in-Some.part.now c.in-Some.more.now c.loop-part.args c.in-Some-arg_of.arg c.loop-part.invariant c.in-Some.ensures.some c.in-Some.ensures.first
    c.in-Some-arg_of.ensures.some)

pub returns-in_default-arg_of-2-clause-none : goal.returns-in_default-arg_of-2-clause-none
returns-in_default-arg_of-2-clause-none c =
    parts_bad_end c.args.inside.now c.loop-part.rest.now c.loop-part.args c.loop-part.invariant c.in_default.ensures.none c.in_default-arg_of-2.ensures.none

pub returns-clause-some : goal.returns-clause-some
returns-clause-some c = rw c.in_ok-push-2.ensures.ok
    (parts_end c.args.inside.now c.loop-part.rest.now c.loop-part.args c.in-Some-arg_of-2.arg c.loop-part.invariant c.in_default.ensures.none c.in-Some-arg_of-2.ensures.some)
