use Rattle.sc_meaning.proofs.Wholes.{all_whole, all_shallow}
use Rattle.sc_meaning.proofs.laws.instances_are_whole.Goals as goal

pub returns : goal.returns
returns c = record { whole = all_whole; shallow = all_shallow }
