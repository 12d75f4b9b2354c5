use Rattle.sc_rev.proofs.Emitting.{put_done}
use Rattle.sc_rev.proofs.draft.Draft.put_rows.Goals as goal

pub returns-clause-gates : goal.returns-clause-gates
returns-clause-gates c = put_done c.args.e.now c.args.f.now c.loop-i.i _ _ _ _ _ _ _ c.loop-i-test.false c.shorter-count.ensures.one c.loop-i.invariant.gates
