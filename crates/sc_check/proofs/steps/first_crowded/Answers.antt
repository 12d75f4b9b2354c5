use Rattle.std.proofs.Common.{sym, ap, ◌∙◌, arith, length}
use Rattle.std.proofs.lemmas.Bool.{lt-ltb}
use Rattle.sc_check.specs.Finding.{has_many_regions}
use Rattle.sc_check.proofs.Lowest.{step_found, step_none_at, item_is}
use Rattle.sc_check.proofs.steps.first_crowded.Goals as goal

pub returns-then-len-k : goal.returns-then-len-k
returns-then-len-k c =
    sym (step_found _ c.args.steps.now c.loop-i.i _ c.loop-i-test.true c.loop-i.invariant
    (ap (has_many_regions c.args.k) (item_is c.args.steps.now c.loop-i.i c.index-steps-i.result _ c.loop-i-test.true c.index-steps-i.is)
    ∙ lt-ltb c.args.k (length c.index-steps-i.result) (omega arith)))

pub returns : goal.returns
returns c = sym (step_none_at _ c.args.steps.now _ c.loop-i.i (omega arith) c.loop-i.invariant)
