use Rattle.sc_deck.proofs.FormedLaws.{unfold_on-formed, gates_of-formed}
use Rattle.sc_deck.proofs.laws.gates_are_well_formed.Goals as goal

pub returns : goal.returns
returns c = record { passed = unfold_on-formed; whole = gates_of-formed }
