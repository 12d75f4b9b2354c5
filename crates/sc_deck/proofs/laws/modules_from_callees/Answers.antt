use Rattle.sc_deck.proofs.EarlierLaws.{unfold_on-at, height-at, reach-at}
use Rattle.sc_deck.proofs.laws.modules_from_callees.Goals as goal

pub returns : goal.returns
returns c = record { events = unfold_on-at; height = height-at; reach = reach-at }
