use Rattle.sc_path.proofs.Loads.{all_fit}
use Rattle.sc_path.proofs.laws.weights_fit_in_whole_decks.Goals as goal

pub returns : goal.returns
returns c = all_fit
