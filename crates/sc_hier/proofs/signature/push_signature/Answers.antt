use Rattle.std.specs.Prelude.{codes}
use Rattle.sc_hier.proofs.GatherLemmas.{gathers_then, prefix_before, prefix_after, prefix_all}
use Rattle.sc_hier.proofs.TextLemmas.{joined_args}
use Rattle.sc_hier.proofs.signature.push_signature.Goals as goal

pub returns-in_err-push-clause-prefix : goal.returns-in_err-push-clause-prefix
returns-in_err-push-clause-prefix g c =
    let name = rw c.as_bytes.ensures at c.push.ensures.prefix in
    prefix_before (codes ")") (prefix_before (joined_args c.args.key.now.args) (prefix_before (codes "(") name))

pub returns-in_err-push-2-clause-prefix : goal.returns-in_err-push-2-clause-prefix
returns-in_err-push-2-clause-prefix g c =
    let name = rw c.as_bytes.ensures at c.in_ok-push.ensures.gathered in
    prefix_before (codes ")") (prefix_before (joined_args c.args.key.now.args) (prefix_after name c.push-2.ensures.prefix))

pub returns-in_err-push_args-clause-prefix : goal.returns-in_err-push_args-clause-prefix
returns-in_err-push_args-clause-prefix g c =
    let name = rw c.as_bytes.ensures at c.in_ok-push.ensures.gathered in
    let args = rw c.as_slice.ensures at c.push_args.ensures.prefix in
    prefix_before (codes ")") (prefix_after (gathers_then name c.in_ok-push-2.ensures.gathered) args)

pub returns-in_err-push-3-clause-prefix : goal.returns-in_err-push-3-clause-prefix
returns-in_err-push-3-clause-prefix g c =
    let name = rw c.as_bytes.ensures at c.in_ok-push.ensures.gathered in
    let args = rw c.as_slice.ensures at c.in_ok-push_args.ensures.gathered in
    prefix_after (gathers_then (gathers_then name c.in_ok-push-2.ensures.gathered) args) c.push-3.ensures.prefix

pub returns-clause-gathered : goal.returns-clause-gathered
returns-clause-gathered g c =
    let name = rw c.as_bytes.ensures at c.in_ok-push.ensures.gathered in
    let args = rw c.as_slice.ensures at c.in_ok-push_args.ensures.gathered in
    gathers_then (gathers_then (gathers_then name c.in_ok-push-2.ensures.gathered) args) c.in_ok-push-3.ensures.gathered

pub returns-clause-prefix : goal.returns-clause-prefix
returns-clause-prefix g c = prefix_all (returns-clause-gathered g c)
