use Rattle.std.proofs.Common.{map}
use Rattle.sc_gate.specs.Chains.{timed}
use Rattle.sc_gate.proofs.ChainLaws.{critical_by}
use Rattle.sc_gate.proofs.slow.slow_critical.Goals as goal

pub returns : goal.returns
returns c = critical_by (map (timed c.args.times.now) c.args.gates.now) c.heaviest.result c.unwrap_or.result c.unwrap_or.ensures c.heaviest.ensures.weight
