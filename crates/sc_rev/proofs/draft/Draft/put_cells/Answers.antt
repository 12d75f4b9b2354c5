use Rattle.sc_rev.specs.Emitting.{cell_gates}
use Rattle.sc_rev.proofs.Emitting.{cells_done}
use Rattle.sc_rev.proofs.draft.Draft.put_cells.Goals as goal

pub returns-clause-gates : goal.returns-clause-gates
returns-clause-gates c = cells_done (cell_gates c.args.kind) c.args.e.now c.args.f.now c.loop-i.i _ _ _ _ c.loop-i-test.false c.shorter-count.ensures.one c.loop-i.invariant.gates
