use Rattle.sc_gate.proofs.laws.suited_operands_make_gates.Goals as goal
use Rattle.sc_gate.proofs.MadeGates.{well_formed-one, well_formed-two, well_formed-three, suits_qubits, suits_measured, makes_gate, gate_on-operands, gate_on-made}

pub returns : goal.returns
returns c = record { one = well_formed-one; two = well_formed-two; three = well_formed-three; qubits = suits_qubits; measured = suits_measured; made = makes_gate; parts = gate_on-operands; all = gate_on-made }
