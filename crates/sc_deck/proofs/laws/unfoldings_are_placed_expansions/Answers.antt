use Rattle.sc_deck.proofs.PutLaws.{unfold_on-put, fresh_in-put, gates_in-put}
use Rattle.sc_deck.proofs.laws.unfoldings_are_placed_expansions.Goals as goal

pub returns : goal.returns
returns c = record { events = unfold_on-put; sums = fresh_in-put; gates = gates_in-put }
