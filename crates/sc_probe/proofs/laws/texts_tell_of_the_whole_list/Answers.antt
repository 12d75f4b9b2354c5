use Rattle.sc_probe.proofs.TextLaw.{text_law}
use Rattle.sc_probe.proofs.laws.texts_tell_of_the_whole_list.Goals as goal

pub returns : goal.returns
returns c = text_law
