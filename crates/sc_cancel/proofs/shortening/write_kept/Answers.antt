use Rattle.sc_base.proofs.LoopLemmas.{prefix_as}
use Rattle.sc_base.proofs.OutputLemmas.{wrote_as, wrote_then, prefix_whole, prefix_more, prefix_then}
use Rattle.sc_gate.specs.Lines.{gate_lines, flat_text}
use Rattle.sc_cancel.specs.Cancelling.{gates_at}
use Rattle.sc_cancel.proofs.Stepping.{kept_text}
use Rattle.sc_cancel.proofs.shortening.write_kept.Goals as goal

pub returns-in_err-write_header-clause-prefix : goal.returns-in_err-write_header-clause-prefix
returns-in_err-write_header-clause-prefix g c =
    prefix_as (flat_text c.args.qubits c.args.cbits (gates_at c.args.gates.now c.args.kept.now)) (kept_text c.args.qubits c.args.cbits c.from.result c.from-2.result c.args.gates.now c.args.kept.now c.from.ensures c.from-2.ensures c.requires.below)
    (prefix_more (gate_lines (gates_at c.args.gates.now c.args.kept.now)) c.write_header.ensures.prefix)

pub returns-in_err-write_gates-clause-prefix : goal.returns-in_err-write_gates-clause-prefix
returns-in_err-write_gates-clause-prefix g c =
    prefix_as (flat_text c.args.qubits c.args.cbits (gates_at c.args.gates.now c.args.kept.now)) (kept_text c.args.qubits c.args.cbits c.from.result c.from-2.result c.args.gates.now c.args.kept.now c.from.ensures c.from-2.ensures c.requires.below)
    (prefix_then c.in_ok-write_header.ensures.appended c.write_gates.ensures.prefix)

pub returns-clause-appended : goal.returns-clause-appended
returns-clause-appended g c =
    wrote_as (flat_text c.args.qubits c.args.cbits (gates_at c.args.gates.now c.args.kept.now)) (kept_text c.args.qubits c.args.cbits c.from.result c.from-2.result c.args.gates.now c.args.kept.now c.from.ensures c.from-2.ensures c.requires.below)
    (wrote_then c.in_ok-write_header.ensures.appended c.in_ok-write_gates.ensures.appended)

pub returns-clause-prefix : goal.returns-clause-prefix
returns-clause-prefix g c = prefix_whole (returns-clause-appended g c)
