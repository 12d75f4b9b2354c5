use Rattle.sc_gate.proofs.laws.kinds_have_names.Goals as goal
use Rattle.sc_gate.proofs.KindLemmas.{plain_kind-name, rotation_kind-name, preparation_kind-name, kind_named}

pub returns : goal.returns
returns c = record { plain = plain_kind-name; rotation = rotation_kind-name; preparation = preparation_kind-name; all = kind_named }
