use Rattle.std.proofs.Common.{refl}
use Rattle.sc_hier.proofs.GatherLemmas.{gathers_flush, prefix_flush, prefix_all}
use Rattle.sc_hier.proofs.gathered.Gathered.flush.Goals as goal

pub returns-in_err-write_all-clause-prefix : goal.returns-in_err-write_all-clause-prefix
returns-in_err-write_all-clause-prefix g c = rw (← c.self.view_is) (prefix_flush c.write_all.ensures.prefix)

pub returns-clause-gathered : goal.returns-clause-gathered
returns-clause-gathered g c = rw (← c.self.view_is) (gathers_flush _ refl c.in_ok-write_all.ensures.appended)

pub returns-clause-prefix : goal.returns-clause-prefix
returns-clause-prefix g c = prefix_all (returns-clause-gathered g c)
