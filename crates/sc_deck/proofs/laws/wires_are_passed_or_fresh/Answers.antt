use Rattle.sc_deck.proofs.WireLaws.{unfold_on-passed_or_fresh, gates_of-below}
use Rattle.sc_deck.proofs.laws.wires_are_passed_or_fresh.Goals as goal

pub returns : goal.returns
returns c = record { passed = unfold_on-passed_or_fresh; whole = gates_of-below }
