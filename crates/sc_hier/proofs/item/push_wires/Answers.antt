use Rattle.std.proofs.Common.{◌∷◌, ◌∙◌, ap}
use Rattle.std.proofs.lemmas.List.{nil_from_length}
use Rattle.std.specs.Prelude.{flat_map}
use Rattle.sc_gate.specs.Lines.{wire_text}
use Rattle.sc_deck.specs.Hierarchical.{wires_text}
use Rattle.sc_hier.proofs.GatherLemmas.{gathers_then, gathers_nothing, gathers_as, gathers_prefix_as, prefix_before, prefix_after, prefix_all}
use Rattle.sc_hier.proofs.TextLemmas.{wires_in_parts}
use Rattle.sc_hier.proofs.item.push_wires.Goals as goal

pub returns-in_default-clause-gathered : goal.returns-in_default-clause-gathered
returns-in_default-clause-gathered g c = gathers_as _ (ap wires_text (nil_from_length c.args.wires.now c.in_default.ensures.cases)) (gathers_nothing _ _ _ _)

pub returns-in_err-push-clause-prefix : goal.returns-in_err-push-clause-prefix
returns-in_err-push-clause-prefix g c =
    let same = ap wires_text c.in-Some.ensures.cases.0 ∙ wires_in_parts c.in-Some.first.now c.in-Some.rest.now in
    let first = rw (c.as_bytes.ensures, c.wire_after.ensures) at c.push.ensures.prefix in
    gathers_prefix_as _ same (prefix_before (flat_map (λ wire. 44 ∷ wire_text wire) c.in-Some.rest.now) first)

pub returns-in_err-push_more_wires-clause-prefix : goal.returns-in_err-push_more_wires-clause-prefix
returns-in_err-push_more_wires-clause-prefix g c =
    let same = ap wires_text c.in-Some.ensures.cases.0 ∙ wires_in_parts c.in-Some.first.now c.in-Some.rest.now in
    let first = rw (c.as_bytes.ensures, c.wire_after.ensures) at c.in_ok-push.ensures.gathered in
    gathers_prefix_as _ same (prefix_after first c.push_more_wires.ensures.prefix)

pub returns-clause-gathered : goal.returns-clause-gathered
returns-clause-gathered g c =
    let same = ap wires_text c.in-Some.ensures.cases.0 ∙ wires_in_parts c.in-Some.first.now c.in-Some.rest.now in
    let first = rw (c.as_bytes.ensures, c.wire_after.ensures) at c.in_ok-push.ensures.gathered in
    gathers_as _ same (gathers_then first c.in_ok-push_more_wires.ensures.gathered)

pub returns-in_default-clause-prefix : goal.returns-in_default-clause-prefix
returns-in_default-clause-prefix g c = prefix_all (returns-in_default-clause-gathered g c)

pub returns-clause-prefix : goal.returns-clause-prefix
returns-clause-prefix g c = prefix_all (returns-clause-gathered g c)
