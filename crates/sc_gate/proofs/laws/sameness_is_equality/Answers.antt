use Rattle.sc_gate.proofs.laws.sameness_is_equality.Goals as goal
use Rattle.sc_gate.proofs.SameGates.{same_kind-decides, same_option-decides, same_gate-decides}

pub returns : goal.returns
returns c = record { kinds = same_kind-decides; options = same_option-decides; gates = same_gate-decides }
