use Rattle.std.proofs.Common.{◌<◌, length, refl, arith}
use Rattle.sc_base.proofs.LoopLemmas.{loop_fault}
use Rattle.sc_gate.specs.Lines.{gate_line}
use Rattle.sc_gate.proofs.flat.write_gates.Goals as goal

pub returns-in_err-write_gate-clause-prefix : goal.returns-in_err-write_gate-clause-prefix
returns-in_err-write_gate-clause-prefix g c =
    let within : c.loop-gate.gate-index < length c.args.gates.now = omega arith in
    loop_fault gate_line c.args.gates.now c.loop-gate.gate-index _ _ within refl c.loop-gate.invariant.written c.write_gate.ensures.prefix
