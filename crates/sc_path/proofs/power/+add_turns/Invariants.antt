use Rattle.sc_path.proofs.power.+add_turns.Given as goal

abbrev pub decreases-add_turns : goal.decreases-add_turns
decreases-add_turns l = l.n
