use Rattle.sc_top.proofs.scheduled.planned.Goals as goal

pub returns-then-lpfs : goal.returns-then-lpfs
returns-then-lpfs c = rw c.if-lpfs.true c.planned_by.ensures

pub returns-else-lpfs : goal.returns-else-lpfs
returns-else-lpfs c = rw c.if-lpfs.false c.planned_by-else-lpfs.ensures
