use Rattle.sc_gate.proofs.laws.texts_are_read_one_way.Goals as goal
use Rattle.sc_gate.proofs.TextLemmas.{wire_one_way, line_one_way, gate_line-IsLine, lines_one_way, header_one_way, flat_one_way}

pub returns : goal.returns
returns c = record { wires = wire_one_way; lines = line_one_way; whole = gate_line-IsLine; lists = lines_one_way; headers = header_one_way; texts = flat_one_way }
