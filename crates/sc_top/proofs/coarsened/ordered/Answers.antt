use Rattle.sc_top.proofs.coarsened.ordered.Goals as goal

pub returns-then-lpfs-clause-coarse : goal.returns-then-lpfs-clause-coarse
returns-then-lpfs-clause-coarse c = rw c.if-lpfs.true c.coarse_by.ensures.coarse

pub returns-else-lpfs-clause-coarse : goal.returns-else-lpfs-clause-coarse
returns-else-lpfs-clause-coarse c = rw c.if-lpfs.false c.coarse_by-else-lpfs.ensures.coarse
