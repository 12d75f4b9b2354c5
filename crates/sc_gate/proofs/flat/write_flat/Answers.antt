use Rattle.sc_base.proofs.OutputLemmas.{wrote_then, prefix_whole, prefix_more, prefix_then}
use Rattle.sc_gate.specs.Lines.{gate_lines}
use Rattle.sc_gate.proofs.flat.write_flat.Goals as goal

pub returns-in_err-write_header-clause-prefix : goal.returns-in_err-write_header-clause-prefix
returns-in_err-write_header-clause-prefix g c = prefix_more (gate_lines c.args.gates.now) c.write_header.ensures.prefix

pub returns-in_err-write_gates-clause-prefix : goal.returns-in_err-write_gates-clause-prefix
returns-in_err-write_gates-clause-prefix g c = prefix_then c.in_ok-write_header.ensures.appended c.write_gates.ensures.prefix

pub returns-clause-appended : goal.returns-clause-appended
returns-clause-appended g c = wrote_then c.in_ok-write_header.ensures.appended c.in_ok-write_gates.ensures.appended

pub returns-clause-prefix : goal.returns-clause-prefix
returns-clause-prefix g c = prefix_whole (wrote_then c.in_ok-write_header.ensures.appended c.in_ok-write_gates.ensures.appended)
