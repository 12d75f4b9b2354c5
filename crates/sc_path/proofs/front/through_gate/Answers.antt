use Rattle.std.proofs.Common.{◌<◌, List, length, arith, ap, ◌∙◌}
use Rattle.sc_gate.specs.Chains.{more}
use Rattle.sc_path.specs.declared.row.Entry.{Entry}
use Rattle.sc_path.specs.Rows.{look, shifted}
use Rattle.sc_path.proofs.FrontRows.{through_more, why_through}
use Rattle.sc_path.proofs.front.through_gate.Goals as goal

pub returns-in-Err-clause-err : goal.returns-in-Err-clause-err
returns-in-Err-clause-err c =
    let h : c.loop-wire.wire-index < length c.args.wires.now = omega arith in
    why_through c.args.rows.now c.args.wires.now c.args.weight c.loop-wire.wire-index c.entries_of.result.now c.in-Err.fault h c.entries_of.ensures.row c.in-Err.ensures.err

pub loop-wire-preserved : goal.loop-wire-preserved
loop-wire-preserved c = λ s.
    let h : c.loop-wire.wire-index < length c.args.wires.now = omega arith in
    through_more c.args.rows.now c.args.weight c.args.wires.now c.loop-wire.wire-index c.entries_of.result.now c.in-Ok.more s (look c.loop-wire.out s) h c.entries_of.ensures.row
    (c.loop-wire.invariant s)
    (c.in-Ok.ensures.sums s ∙ ap (λ (es : List Entry). more (look es s) (shifted c.entries_of.result.now c.args.weight s)) c.as_slice.ensures.entries)
