use Rattle.sc_base.proofs.laws.gate_names_are_told_apart.Goals as goal
use Rattle.sc_base.proofs.GateNameLemmas.{gate_text-apart, place_of-apart, gate_named-is}

pub returns : goal.returns
returns c = record { texts = gate_text-apart; places = place_of-apart; named = gate_named-is }
