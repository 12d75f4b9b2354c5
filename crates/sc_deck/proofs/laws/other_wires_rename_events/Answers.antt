use Rattle.sc_deck.proofs.RenameLaws.{unfold_on-rename}
use Rattle.sc_deck.proofs.laws.other_wires_rename_events.Goals as goal

pub returns : goal.returns
returns c = unfold_on-rename
