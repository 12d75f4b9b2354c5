use Rattle.sc_value.proofs.ScopeLaws.{kinds_of_set}
use Rattle.sc_value.proofs.laws.sets_keep_kinds.Goals as goal

pub returns : goal.returns
returns c = kinds_of_set
