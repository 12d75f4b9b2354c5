use Rattle.sc_count.proofs.CallerCounts.{calls-at_most, last-at_most}
use Rattle.sc_count.proofs.laws.callers_count_more.Goals as goal

pub returns : goal.returns
returns c = record { calls = calls-at_most; last = last-at_most }
