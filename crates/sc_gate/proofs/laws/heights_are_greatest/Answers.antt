use Rattle.sc_gate.proofs.laws.heights_are_greatest.Goals as goal
use Rattle.sc_gate.proofs.HeightLemmas.{greatest_height, greatest_through, tail_of-cons}

pub returns : goal.returns
returns c = record { heights = greatest_height; throughs = greatest_through; tails = tail_of-cons }
