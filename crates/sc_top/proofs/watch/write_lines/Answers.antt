use Rattle.std.proofs.Common.{◌<◌, length, sym, ap, arith}
use Rattle.sc_base.proofs.LoopLemmas.{loop_fault}
use Rattle.sc_top.specs.Watching.{comment_line}
use Rattle.sc_top.proofs.watch.write_lines.Goals as goal

pub returns-in_err-write_line-clause-prefix : goal.returns-in_err-write_line-clause-prefix
returns-in_err-write_line-clause-prefix g c =
    let within : c.loop-text.text-index < length c.args.texts.now = omega arith in
    loop_fault comment_line c.args.texts.now c.loop-text.text-index c.text-item.result _ within (ap comment_line (sym c.text-item.is)) c.loop-text.invariant.written (rw c.as_bytes.ensures at c.write_line.ensures.prefix)
