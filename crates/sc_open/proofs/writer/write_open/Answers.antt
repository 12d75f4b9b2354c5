use Rattle.sc_base.proofs.OutputLemmas.{wrote_then, prefix_whole, prefix_more, prefix_then}
use Rattle.sc_open.specs.Lowering.{lower, needs_spare}
use Rattle.sc_open.specs.OpenTexts.{registers_text, lines_text}
use Rattle.sc_open.proofs.writer.write_open.Goals as goal

pub returns-in_err-write_all-clause-prefix : goal.returns-in_err-write_all-clause-prefix
returns-in_err-write_all-clause-prefix g c =
    prefix_more (lines_text (lower c.args.gates.now))
    (prefix_more (registers_text c.args.qubits c.args.cbits (needs_spare c.args.gates.now)) c.write_all.ensures.prefix)

pub returns-in_err-write_all-2-clause-prefix : goal.returns-in_err-write_all-2-clause-prefix
returns-in_err-write_all-2-clause-prefix g c =
    let registers = rw (c.as_bytes.ensures, c.registers-registers.ensures, c.needs_spare.ensures) at c.write_all-2.ensures.prefix in
    prefix_more (lines_text (lower c.args.gates.now)) (prefix_then c.in_ok-write_all.ensures.appended registers)

pub returns-in_err-write_gates-clause-prefix : goal.returns-in_err-write_gates-clause-prefix
returns-in_err-write_gates-clause-prefix g c =
    let registers = rw (c.as_bytes.ensures, c.registers-registers.ensures, c.needs_spare.ensures) at c.in_ok-write_all-2.ensures.appended in
    prefix_then (wrote_then c.in_ok-write_all.ensures.appended registers) c.write_gates.ensures.prefix

pub returns-clause-appended : goal.returns-clause-appended
returns-clause-appended g c =
    let registers = rw (c.as_bytes.ensures, c.registers-registers.ensures, c.needs_spare.ensures) at c.in_ok-write_all-2.ensures.appended in
    wrote_then (wrote_then c.in_ok-write_all.ensures.appended registers) c.in_ok-write_gates.ensures.appended

pub returns-clause-prefix : goal.returns-clause-prefix
returns-clause-prefix g c = prefix_whole (returns-clause-appended g c)
