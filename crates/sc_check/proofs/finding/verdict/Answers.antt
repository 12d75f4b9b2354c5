use Rattle.sc_check.proofs.Breaches.{ok_legal}
use Rattle.sc_check.proofs.finding.verdict.Goals as goal

pub returns-clause-legal : goal.returns-clause-legal
returns-clause-legal c = ok_legal c.first_breach.result c.args.gates.now c.args.s.now c.requires.in_range c.first_breach.ensures
