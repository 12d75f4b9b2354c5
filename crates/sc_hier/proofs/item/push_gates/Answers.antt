use Rattle.sc_gate.specs.Lines.{gate_line}
use Rattle.sc_hier.proofs.GatherLemmas.{gathers_then, prefix_before, prefix_after, prefix_all}
use Rattle.sc_hier.proofs.item.push_gates.Goals as goal

pub returns-in_err-push-clause-prefix : goal.returns-in_err-push-clause-prefix
returns-in_err-push-clause-prefix g c =
    let word = rw (c.as_bytes.ensures, c.turns_word.ensures) at c.push.ensures.prefix in
    prefix_before (gate_line c.args.gate.now) word

pub returns-in_err-push-2-clause-prefix : goal.returns-in_err-push-2-clause-prefix
returns-in_err-push-2-clause-prefix g c =
    let word = rw (c.as_bytes.ensures, c.turns_word.ensures) at c.in_ok-push.ensures.gathered in
    let line = rw (c.as_bytes-2.ensures, c.line_of.ensures) at c.push-2.ensures.prefix in
    prefix_after word line

pub returns-clause-gathered : goal.returns-clause-gathered
returns-clause-gathered g c =
    let word = rw (c.as_bytes.ensures, c.turns_word.ensures) at c.in_ok-push.ensures.gathered in
    let line = rw (c.as_bytes-2.ensures, c.line_of.ensures) at c.in_ok-push-2.ensures.gathered in
    gathers_then word line

pub returns-clause-prefix : goal.returns-clause-prefix
returns-clause-prefix g c = prefix_all (returns-clause-gathered g c)
