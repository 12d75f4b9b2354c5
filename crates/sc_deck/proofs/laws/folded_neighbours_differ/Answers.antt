use Rattle.sc_deck.proofs.NeighbourLaws.{folded-differ, folded-in_range}
use Rattle.sc_deck.proofs.laws.folded_neighbours_differ.Goals as goal

pub returns : goal.returns
returns c = record { differ = folded-differ; range = folded-in_range }
