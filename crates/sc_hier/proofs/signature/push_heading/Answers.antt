use Rattle.std.specs.Prelude.{codes}
use Rattle.sc_deck.specs.Hierarchical.{signature}
use Rattle.sc_hier.proofs.GatherLemmas.{gathers_then, prefix_before, prefix_after, prefix_all}
use Rattle.sc_hier.proofs.signature.push_heading.Goals as goal

pub returns-in_err-push-clause-prefix : goal.returns-in_err-push-clause-prefix
returns-in_err-push-clause-prefix g c =
    let word = rw (c.as_bytes.ensures, c.module_word.ensures) at c.push.ensures.prefix in
    prefix_before (codes "\n") (prefix_before (signature c.args.key.now) word)

pub returns-in_err-push_signature-clause-prefix : goal.returns-in_err-push_signature-clause-prefix
returns-in_err-push_signature-clause-prefix g c =
    let word = rw (c.as_bytes.ensures, c.module_word.ensures) at c.in_ok-push.ensures.gathered in
    prefix_before (codes "\n") (prefix_after word c.push_signature.ensures.prefix)

pub returns-in_err-push-2-clause-prefix : goal.returns-in_err-push-2-clause-prefix
returns-in_err-push-2-clause-prefix g c =
    let word = rw (c.as_bytes.ensures, c.module_word.ensures) at c.in_ok-push.ensures.gathered in
    prefix_after (gathers_then word c.in_ok-push_signature.ensures.gathered) c.push-2.ensures.prefix

pub returns-clause-gathered : goal.returns-clause-gathered
returns-clause-gathered g c =
    let word = rw (c.as_bytes.ensures, c.module_word.ensures) at c.in_ok-push.ensures.gathered in
    gathers_then (gathers_then word c.in_ok-push_signature.ensures.gathered) c.in_ok-push-2.ensures.gathered

pub returns-clause-prefix : goal.returns-clause-prefix
returns-clause-prefix g c = prefix_all (returns-clause-gathered g c)
