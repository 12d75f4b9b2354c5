use Rattle.sc_types.proofs.ParameterLemmas.{next_int}
use Rattle.sc_types.proofs.params.last_ints.Goals as goal

pub loop-i-preserved : goal.loop-i-preserved
loop-i-preserved c =
    next_int c.args.params.now c.loop-i.i c.index-params-i.result c.loop-i.last c.note.new.last c.loop-i-test.true c.index-params-i.is c.loop-i.invariant c.in_ok-note.ensures.ok
