use Rattle.std.proofs.Common.{◌≡◌, rules}
use Rattle.std.specs.Prelude.{codes}
use Rattle.sc_read.proofs.HierItems.{no_fresh-end}
use Rattle.sc_read.proofs.item_line.fresh_of.Goals as goal

pub returns-else-eq-clause-none : goal.returns-else-eq-clause-none
returns-else-eq-clause-none c =
    let other : c.in-Some-take_length.rest.now ≡ codes "\n" → ⊥ = λ e. search rules in
    no_fresh-end c.args.line.now c.in-Some.digits.now c.in-Some.class c.in-Some-take_length.count c.in-Some-take_length.rest.now c.in-Some.ensures.some c.in-Some-take_length.ensures.some other
