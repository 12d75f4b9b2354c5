use Rattle.std.proofs.Common.{refl, arith}
use Rattle.sc_base.proofs.LoopLemmas.{prefix_as, loop_step, loop_fault, loop_done}
use Rattle.sc_base.proofs.OutputLemmas.{wrote_as, prefix_whole}
use Rattle.sc_open.specs.Lowering.{lower}
use Rattle.sc_open.specs.OpenTexts.{lines_text}
use Rattle.sc_open.proofs.WriteLemmas.{lowered_text, lower_pieces}
use Rattle.sc_open.proofs.writer.write_gates.Goals as goal

pub returns-in_err-write_lowered-clause-prefix : goal.returns-in_err-write_lowered-clause-prefix
returns-in_err-write_lowered-clause-prefix g c =
    prefix_as (lines_text (lower c.args.gates.now)) (lower_pieces c.args.gates.now)
    (loop_fault lowered_text c.args.gates.now c.loop-gate.gate-index _ _ c.loop-gate-test.true refl
    c.loop-gate.invariant.written c.write_lowered.ensures.prefix)

pub loop-gate-preserved : goal.loop-gate-preserved
loop-gate-preserved g c = record {
  open_still = c.in_ok-write_lowered.ensures.«open»;
  later = omega (arith, c.loop-gate.invariant.later, c.in_ok-write_lowered.ensures.cause.later);
  written = loop_step lowered_text c.args.gates.now c.loop-gate.gate-index _ _ c.loop-gate-test.true refl
      c.loop-gate.invariant.written c.in_ok-write_lowered.ensures.appended;
}

pub returns-clause-appended : goal.returns-clause-appended
returns-clause-appended g c =
    wrote_as (lines_text (lower c.args.gates.now)) (lower_pieces c.args.gates.now)
    (loop_done lowered_text c.args.gates.now c.loop-gate.gate-index c.loop-gate-test.false c.loop-gate.invariant.written)

pub returns-clause-prefix : goal.returns-clause-prefix
returns-clause-prefix g c = prefix_whole (returns-clause-appended g c)
