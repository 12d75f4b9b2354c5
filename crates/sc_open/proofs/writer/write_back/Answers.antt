use Rattle.std.proofs.Common.{map, sym, ap, arith}
use Rattle.sc_base.proofs.LoopLemmas.{prefix_as, loop_step, loop_fault, loop_done}
use Rattle.sc_base.proofs.OutputLemmas.{wrote_as, prefix_whole}
use Rattle.sc_gate.specs.Lines.{gate_line, gate_lines}
use Rattle.sc_open.specs.Lowering.{back_line}
use Rattle.sc_open.proofs.WriteLemmas.{back_text, back_pieces}
use Rattle.sc_open.proofs.writer.write_back.Goals as goal

pub returns-in_err-write_gate-clause-prefix : goal.returns-in_err-write_gate-clause-prefix
returns-in_err-write_gate-clause-prefix g c =
    prefix_as (gate_lines (map back_line c.args.lines.now)) (back_pieces c.args.lines.now)
    (loop_fault back_text c.args.lines.now c.loop-line.line-index _ _ c.loop-line-test.true (ap gate_line (sym c.gate.ensures))
    c.loop-line.invariant.written c.write_gate.ensures.prefix)

pub loop-line-preserved : goal.loop-line-preserved
loop-line-preserved g c = record {
  open_still = c.in_ok-write_gate.ensures.«open»;
  later = omega (arith, c.loop-line.invariant.later, c.in_ok-write_gate.ensures.cause.later);
  written = loop_step back_text c.args.lines.now c.loop-line.line-index _ _ c.loop-line-test.true (ap gate_line (sym c.gate.ensures))
      c.loop-line.invariant.written c.in_ok-write_gate.ensures.appended;
}

pub returns-clause-appended : goal.returns-clause-appended
returns-clause-appended g c =
    wrote_as (gate_lines (map back_line c.args.lines.now)) (back_pieces c.args.lines.now)
    (loop_done back_text c.args.lines.now c.loop-line.line-index c.loop-line-test.false c.loop-line.invariant.written)

pub returns-clause-prefix : goal.returns-clause-prefix
returns-clause-prefix g c = prefix_whole (returns-clause-appended g c)
