use Rattle.std.specs.Prelude.{codes}
use Rattle.sc_gate.specs.Lines.{number_line}
use Rattle.sc_hier.proofs.GatherLemmas.{gathers_then, prefix_before, prefix_after, prefix_all}
use Rattle.sc_coarse.proofs.text.push_head.Goals as goal

pub returns-in_err-push-clause-prefix : goal.returns-in_err-push-clause-prefix
returns-in_err-push-clause-prefix g c =
    prefix_before (number_line (codes "width") c.args.d) (prefix_before (number_line (codes "regions") c.args.k) c.push.ensures.prefix)

pub returns-in_err-push-2-clause-prefix : goal.returns-in_err-push-2-clause-prefix
returns-in_err-push-2-clause-prefix g c =
    let regions = rw (c.as_bytes.ensures, c.line_of.ensures) at c.push-2.ensures.prefix in
    prefix_before (number_line (codes "width") c.args.d) (prefix_after c.in_ok-push.ensures.gathered regions)

pub returns-in_err-push-3-clause-prefix : goal.returns-in_err-push-3-clause-prefix
returns-in_err-push-3-clause-prefix g c =
    let regions = rw (c.as_bytes.ensures, c.line_of.ensures) at c.in_ok-push-2.ensures.gathered in
    let width = rw (c.as_bytes-2.ensures, c.line_of-2.ensures) at c.push-3.ensures.prefix in
    prefix_after (gathers_then c.in_ok-push.ensures.gathered regions) width

pub returns-clause-gathered : goal.returns-clause-gathered
returns-clause-gathered g c =
    let regions = rw (c.as_bytes.ensures, c.line_of.ensures) at c.in_ok-push-2.ensures.gathered in
    let width = rw (c.as_bytes-2.ensures, c.line_of-2.ensures) at c.in_ok-push-3.ensures.gathered in
    gathers_then (gathers_then c.in_ok-push.ensures.gathered regions) width

pub returns-clause-prefix : goal.returns-clause-prefix
returns-clause-prefix g c = prefix_all (returns-clause-gathered g c)
