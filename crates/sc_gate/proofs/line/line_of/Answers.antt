-- The line is its parts, as they were pushed.
use Rattle.std.proofs.Common.{sym}
use Rattle.sc_gate.proofs.LineLemmas.{line_in_parts}
use Rattle.sc_gate.proofs.line.line_of.Goals as goal

pub returns : goal.returns
returns c =
    rw (c.push-3.ensures, c.push_value.ensures.text, c.push_next-2.ensures.text, c.push_next.ensures.text, c.push_wire.ensures.text, c.push-2.ensures, c.push.ensures, c.as_bytes.ensures.value, c.text.ensures.text, c.name.ensures, c.new-line.ensures)
    (sym (line_in_parts c.args.gate.now))
