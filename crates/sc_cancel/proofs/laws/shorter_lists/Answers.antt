use Rattle.sc_cancel.proofs.MoveLaws.{shorter_moves, shorter_counts}
use Rattle.sc_cancel.proofs.Reducing.{shorter_reduced}
use Rattle.sc_cancel.proofs.laws.shorter_lists.Goals as goal

pub returns : goal.returns
returns c = record { moves = shorter_moves; reduced = shorter_reduced; counts = shorter_counts }
