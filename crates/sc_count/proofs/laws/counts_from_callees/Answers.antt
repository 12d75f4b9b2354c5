use Rattle.sc_count.proofs.CalleeCounts.{counts-at}
use Rattle.sc_count.proofs.laws.counts_from_callees.Goals as goal

pub returns : goal.returns
returns c = counts-at
