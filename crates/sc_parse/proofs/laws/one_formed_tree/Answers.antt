use Rattle.sc_parse.proofs.Texts.{one_formed_tree}
use Rattle.sc_parse.proofs.laws.one_formed_tree.Goals as goal

pub returns : goal.returns
returns c = one_formed_tree
