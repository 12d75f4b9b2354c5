use Rattle.sc_read.proofs.HierOneWay.{one_hier_text, no_hier_fault, one_hier_fault}
use Rattle.sc_read.proofs.laws.hier_texts_are_read_one_way.Goals as goal

pub returns : goal.returns
returns c = record { one = one_hier_text; no_fault = no_hier_fault; one_fault = one_hier_fault }
