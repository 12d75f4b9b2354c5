use Rattle.sc_deck.proofs.PutLaws.{put-class, put-params, put-fresh}
use Rattle.sc_deck.proofs.FormedLaws.{put-one_to_one}
use Rattle.sc_deck.proofs.laws.placings_are_one_to_one.Goals as goal

pub returns : goal.returns
returns c = record { classes = put-class; params = put-params; fresh = put-fresh; apart = put-one_to_one }
