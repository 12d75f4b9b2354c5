use Rattle.sc_gate.proofs.laws.renaming_keeps_paths.Goals as goal
use Rattle.sc_gate.proofs.PathRename.{best_renamed, star_renamed, timed_renamed}

pub returns : goal.returns
returns c = record { best = λ f gates from to one. best_renamed f one gates to from; star = λ f gates from w one. star_renamed f one gates from w; gates = timed_renamed }
