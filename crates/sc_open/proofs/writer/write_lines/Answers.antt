use Rattle.std.proofs.Common.{map}
use Rattle.sc_base.proofs.LoopLemmas.{prefix_as}
use Rattle.sc_base.proofs.OutputLemmas.{wrote_as, wrote_then, prefix_whole, prefix_more, prefix_then}
use Rattle.sc_gate.specs.Lines.{gate_lines, flat_text}
use Rattle.sc_open.specs.Lowering.{back_line}
use Rattle.sc_open.proofs.WriteLemmas.{back_header}
use Rattle.sc_open.proofs.writer.write_lines.Goals as goal

pub returns-in_err-write_header-clause-prefix : goal.returns-in_err-write_header-clause-prefix
returns-in_err-write_header-clause-prefix g c =
    let header = rw c.len.ensures at c.write_header.ensures.prefix in
    prefix_as (flat_text c.args.text.now.qubits c.args.text.now.cbits (map back_line c.args.text.now.lines)) (back_header c.args.text.now.qubits c.args.text.now.cbits c.args.text.now.lines)
    (prefix_more (gate_lines (map back_line c.args.text.now.lines)) header)

pub returns-in_err-write_back-clause-prefix : goal.returns-in_err-write_back-clause-prefix
returns-in_err-write_back-clause-prefix g c =
    let header = rw c.len.ensures at c.in_ok-write_header.ensures.appended in
    let lines = rw c.as_slice.ensures at c.write_back.ensures.prefix in
    prefix_as (flat_text c.args.text.now.qubits c.args.text.now.cbits (map back_line c.args.text.now.lines)) (back_header c.args.text.now.qubits c.args.text.now.cbits c.args.text.now.lines)
    (prefix_then header lines)

pub returns-clause-appended : goal.returns-clause-appended
returns-clause-appended g c =
    let header = rw c.len.ensures at c.in_ok-write_header.ensures.appended in
    let lines = rw c.as_slice.ensures at c.in_ok-write_back.ensures.appended in
    wrote_as (flat_text c.args.text.now.qubits c.args.text.now.cbits (map back_line c.args.text.now.lines)) (back_header c.args.text.now.qubits c.args.text.now.cbits c.args.text.now.lines)
    (wrote_then header lines)

pub returns-clause-prefix : goal.returns-clause-prefix
returns-clause-prefix g c = prefix_whole (returns-clause-appended g c)
