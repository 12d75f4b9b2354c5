use Rattle.std.proofs.Common.{length, get_or, sym, arith}
use Rattle.sc_base.proofs.LoopLemmas.{prefix_as, loop_step, loop_fault, loop_done}
use Rattle.sc_base.proofs.OutputLemmas.{wrote_as, prefix_whole}
use Rattle.sc_gate.specs.Lines.{gate_lines}
use Rattle.sc_cancel.specs.Cancelling.{gates_at}
use Rattle.sc_cancel.proofs.Stepping.{line_at, lines_at, line_there, below_at}
use Rattle.sc_cancel.proofs.shortening.write_gates.Goals as goal

pub returns-in_err-write_gate-clause-prefix : goal.returns-in_err-write_gate-clause-prefix
returns-in_err-write_gate-clause-prefix g c =
    prefix_as (gate_lines (gates_at c.args.gates.now c.args.kept.now)) (sym (lines_at c.args.gates.now c.args.kept.now))
    (loop_fault (line_at c.args.gates.now) c.args.kept.now c.loop-position.position-index 0 _ c.loop-position-test.true
    (line_there c.args.gates.now (get_or c.args.kept.now c.loop-position.position-index 0) _ (below_at (length c.args.gates.now) c.args.kept.now c.loop-position.position-index 0 c.requires.below c.loop-position-test.true))
    c.loop-position.invariant.written c.write_gate.ensures.prefix)

pub loop-position-preserved : goal.loop-position-preserved
loop-position-preserved g c = record {
  open_still = c.in_ok-write_gate.ensures.open;
  later = (let l = c.in_ok-write_gate.ensures.cause.later in omega (arith, l, c.loop-position.invariant.later));
  written =
      loop_step (line_at c.args.gates.now) c.args.kept.now c.loop-position.position-index 0 _ c.loop-position-test.true
      (line_there c.args.gates.now (get_or c.args.kept.now c.loop-position.position-index 0) _ (below_at (length c.args.gates.now) c.args.kept.now c.loop-position.position-index 0 c.requires.below c.loop-position-test.true))
      c.loop-position.invariant.written c.in_ok-write_gate.ensures.appended;
}

pub returns-clause-appended : goal.returns-clause-appended
returns-clause-appended g c =
    wrote_as (gate_lines (gates_at c.args.gates.now c.args.kept.now)) (sym (lines_at c.args.gates.now c.args.kept.now))
    (loop_done (line_at c.args.gates.now) c.args.kept.now c.loop-position.position-index c.loop-position-test.false c.loop-position.invariant.written)

pub returns-clause-prefix : goal.returns-clause-prefix
returns-clause-prefix g c = prefix_whole (returns-clause-appended g c)
