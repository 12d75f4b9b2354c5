use Rattle.sc_elab.proofs.PushedGates.{adds_none}
use Rattle.sc_elab.proofs.advance.next_round.Goals as goal

pub returns-in_ok-tested_round-in-Some-clause-adds : goal.returns-in_ok-tested_round-in-Some-clause-adds
returns-in_ok-tested_round-in-Some-clause-adds c = adds_none c.args.frame.now.body c.tested_round.new.frame.body c.in_ok-tested_round-in-Some.ensures.body
