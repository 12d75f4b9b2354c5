use Rattle.sc_meaning.proofs.Cut.{depth_cuts}
use Rattle.sc_meaning.proofs.laws.depth_cuts_short.Goals as goal

pub returns : goal.returns
returns c = depth_cuts
