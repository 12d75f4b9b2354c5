use Rattle.sc_base.proofs.names.GateName.from_text.Goals as goal
use Rattle.sc_base.proofs.GateNameLemmas.{first_named-match}

pub returns-clause-exact : goal.returns-clause-exact
returns-clause-exact c = first_named-match c.args.text.now c.first_named.result c.first_named.ensures
