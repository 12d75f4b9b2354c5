use Rattle.std.specs.Prelude.{codes, flat_map}
use Rattle.sc_deck.specs.Hierarchical.{item_line}
use Rattle.sc_hier.proofs.GatherLemmas.{gathers_then, prefix_before, prefix_after, prefix_all}
use Rattle.sc_hier.proofs.write.push_module.Goals as goal

pub returns-in_err-push_heading-clause-prefix : goal.returns-in_err-push_heading-clause-prefix
returns-in_err-push_heading-clause-prefix g c =
    prefix_before (codes "end\n") (prefix_before (flat_map item_line c.args.body.now.items) c.push_heading.ensures.prefix)

pub returns-in_err-push_items-clause-prefix : goal.returns-in_err-push_items-clause-prefix
returns-in_err-push_items-clause-prefix g c =
    let items = rw c.items.ensures at c.push_items.ensures.prefix in
    prefix_before (codes "end\n") (prefix_after c.in_ok-push_heading.ensures.gathered items)

pub returns-in_err-push-clause-prefix : goal.returns-in_err-push-clause-prefix
returns-in_err-push-clause-prefix g c =
    let items = rw c.items.ensures at c.in_ok-push_items.ensures.gathered in
    prefix_after (gathers_then c.in_ok-push_heading.ensures.gathered items) c.push.ensures.prefix

pub returns-clause-gathered : goal.returns-clause-gathered
returns-clause-gathered g c =
    let items = rw c.items.ensures at c.in_ok-push_items.ensures.gathered in
    gathers_then (gathers_then c.in_ok-push_heading.ensures.gathered items) c.in_ok-push.ensures.gathered

pub returns-clause-prefix : goal.returns-clause-prefix
returns-clause-prefix g c = prefix_all (returns-clause-gathered g c)
