use Rattle.sc_meaning.proofs.Entered.{each_is_instance}
use Rattle.sc_meaning.proofs.laws.enterings_are_instances.Goals as goal

pub returns : goal.returns
returns c = each_is_instance
