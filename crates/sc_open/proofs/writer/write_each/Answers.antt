use Rattle.std.proofs.Common.{◌<◌, length, refl, arith}
use Rattle.sc_base.proofs.LoopLemmas.{loop_fault}
use Rattle.sc_open.specs.OpenTexts.{line_text}
use Rattle.sc_open.proofs.writer.write_each.Goals as goal

pub returns-in_err-write_line-clause-prefix : goal.returns-in_err-write_line-clause-prefix
returns-in_err-write_line-clause-prefix g c =
    let within : c.loop-line.line-index < length c.args.lines.now = omega arith in
    loop_fault line_text c.args.lines.now c.loop-line.line-index _ _ within refl c.loop-line.invariant.written c.write_line.ensures.prefix
