use Rattle.sc_elab.proofs.function.fold_chosen.Goals as goal

pub push_chosen-requires-clause-fits : goal.push_chosen-requires-clause-fits
push_chosen-requires-clause-fits c = (rw c.in-Gate.is at c.requires.fits).0
