use Rattle.sc_deck.specs.Hierarchical.{call_line}
use Rattle.sc_hier.proofs.GatherLemmas.{gathers_then, prefix_before, prefix_after, prefix_all}
use Rattle.sc_hier.proofs.item.push_calls.Goals as goal

pub returns-in_err-push-clause-prefix : goal.returns-in_err-push-clause-prefix
returns-in_err-push-clause-prefix g c =
    let word = rw (c.as_bytes.ensures, c.turns_word.ensures) at c.push.ensures.prefix in
    prefix_before (call_line c.args.callee c.args.wires.now) word

pub returns-in_err-push_call-clause-prefix : goal.returns-in_err-push_call-clause-prefix
returns-in_err-push_call-clause-prefix g c =
    let word = rw (c.as_bytes.ensures, c.turns_word.ensures) at c.in_ok-push.ensures.gathered in
    prefix_after word c.push_call.ensures.prefix

pub returns-clause-gathered : goal.returns-clause-gathered
returns-clause-gathered g c =
    let word = rw (c.as_bytes.ensures, c.turns_word.ensures) at c.in_ok-push.ensures.gathered in
    gathers_then word c.in_ok-push_call.ensures.gathered

pub returns-clause-prefix : goal.returns-clause-prefix
returns-clause-prefix g c = prefix_all (returns-clause-gathered g c)
