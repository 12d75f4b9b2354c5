use Rattle.sc_meaning.proofs.Expansion.{all_expand}
use Rattle.sc_meaning.proofs.laws.instances_expand.Goals as goal

pub returns : goal.returns
returns c = all_expand
