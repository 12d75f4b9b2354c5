use Rattle.sc_gate.proofs.laws.weights_add_up.Goals as goal
use Rattle.sc_gate.proofs.ChainLaws.{chain_within, total_weight-append}
use Rattle.sc_gate.proofs.PathRename.{total_weight-rename, total_weight-repeated}

pub returns : goal.returns
returns c = record { parts = total_weight-append; chains = chain_within; renamed = total_weight-rename; repeated = total_weight-repeated }
