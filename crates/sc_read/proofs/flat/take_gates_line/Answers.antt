use Rattle.sc_read.proofs.FlatLines.{gates_front, no_gates_feed}
use Rattle.sc_read.proofs.flat.take_gates_line.Goals as goal

pub returns-in-Some-take_text-clause-some : goal.returns-in-Some-take_text-clause-some
returns-in-Some-take_text-clause-some c =
    let found = c.in-Some-take_whole.ensures.some in
    gates_front c.args.bytes.now c.in-Some.after_word.now found.0 c.in-Some-take_whole.after_number.now c.in-Some-take_text.rest.now c.in-Some-take_whole.number c.count_within.result
    c.in-Some.ensures.some found.1 found.2 c.in-Some-take_text.ensures.some c.count_within.ensures

pub returns-in-None-clause-none : goal.returns-in-None-clause-none
returns-in-None-clause-none c =
    let found = c.in-Some-take_whole.ensures.some in
    no_gates_feed c.args.bytes.now c.in-Some.after_word.now found.0 c.in-Some-take_whole.after_number.now c.in-Some.ensures.some found.1 c.in-None.ensures.none
