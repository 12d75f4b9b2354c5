use Rattle.sc_meaning.proofs.Kept.{kept_stands, kept_too_deep}
use Rattle.sc_meaning.proofs.laws.kept_bodies_stand.Goals as goal

pub returns : goal.returns
returns c = record { stands = kept_stands; deep = kept_too_deep }
