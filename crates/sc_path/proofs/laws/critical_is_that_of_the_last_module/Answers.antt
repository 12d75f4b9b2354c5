use Rattle.sc_path.proofs.LawLemmas.{last_critical}
use Rattle.sc_path.proofs.laws.critical_is_that_of_the_last_module.Goals as goal

pub returns : goal.returns
returns c = last_critical
