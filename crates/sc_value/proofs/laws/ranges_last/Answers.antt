use Rattle.sc_value.proofs.RangeLaws.{stay_in_range, formed_written}
use Rattle.sc_value.proofs.laws.ranges_last.Goals as goal

pub returns-clause-written : goal.returns-clause-written
returns-clause-written c = formed_written

pub returns-clause-ranges : goal.returns-clause-ranges
returns-clause-ranges c = stay_in_range
