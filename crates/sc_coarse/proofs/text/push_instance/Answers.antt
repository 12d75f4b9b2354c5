use Rattle.std.specs.Prelude.{codes, flat_map}
use Rattle.sc_gate.specs.Lines.{number_line}
use Rattle.sc_hier.proofs.GatherLemmas.{gathers_then, prefix_before, prefix_after, prefix_all}
use Rattle.sc_coarse.specs.CoarseText.{block_text}
use Rattle.sc_coarse.proofs.text.push_instance.Goals as goal

pub returns-in_err-push_heading-clause-prefix : goal.returns-in_err-push_heading-clause-prefix
returns-in_err-push_heading-clause-prefix g c =
    prefix_before (codes "end\n") (prefix_before (flat_map block_text c.args.instance.now.blocks)
    (prefix_before (number_line (codes "length") c.args.instance.now.length) c.push_heading.ensures.prefix))

pub returns-in_err-push-clause-prefix : goal.returns-in_err-push-clause-prefix
returns-in_err-push-clause-prefix g c =
    let line = rw (c.as_bytes.ensures, c.line_of.ensures) at c.push.ensures.prefix in
    prefix_before (codes "end\n") (prefix_before (flat_map block_text c.args.instance.now.blocks) (prefix_after c.in_ok-push_heading.ensures.gathered line))

pub returns-in_err-push_blocks-clause-prefix : goal.returns-in_err-push_blocks-clause-prefix
returns-in_err-push_blocks-clause-prefix g c =
    let line = rw (c.as_bytes.ensures, c.line_of.ensures) at c.in_ok-push.ensures.gathered in
    let blocks = rw c.as_slice.ensures at c.push_blocks.ensures.prefix in
    prefix_before (codes "end\n") (prefix_after (gathers_then c.in_ok-push_heading.ensures.gathered line) blocks)

pub returns-in_err-push-2-clause-prefix : goal.returns-in_err-push-2-clause-prefix
returns-in_err-push-2-clause-prefix g c =
    let line = rw (c.as_bytes.ensures, c.line_of.ensures) at c.in_ok-push.ensures.gathered in
    let blocks = rw c.as_slice.ensures at c.in_ok-push_blocks.ensures.gathered in
    prefix_after (gathers_then (gathers_then c.in_ok-push_heading.ensures.gathered line) blocks) c.push-2.ensures.prefix

pub returns-clause-gathered : goal.returns-clause-gathered
returns-clause-gathered g c =
    let line = rw (c.as_bytes.ensures, c.line_of.ensures) at c.in_ok-push.ensures.gathered in
    let blocks = rw c.as_slice.ensures at c.in_ok-push_blocks.ensures.gathered in
    gathers_then (gathers_then (gathers_then c.in_ok-push_heading.ensures.gathered line) blocks) c.in_ok-push-2.ensures.gathered

pub returns-clause-prefix : goal.returns-clause-prefix
returns-clause-prefix g c = prefix_all (returns-clause-gathered g c)
