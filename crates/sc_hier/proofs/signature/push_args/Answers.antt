use Rattle.std.proofs.Common.{◌∷◌, ◌∙◌, ap}
use Rattle.std.proofs.lemmas.List.{nil_from_length}
use Rattle.std.specs.Prelude.{flat_map}
use Rattle.sc_deck.specs.Hierarchical.{arg_text}
use Rattle.sc_hier.proofs.GatherLemmas.{gathers_then, gathers_nothing, gathers_as, gathers_prefix_as, prefix_before, prefix_after, prefix_all}
use Rattle.sc_hier.proofs.TextLemmas.{joined_args, joined_after}
use Rattle.sc_hier.proofs.signature.push_args.Goals as goal

pub returns-in_default-clause-gathered : goal.returns-in_default-clause-gathered
returns-in_default-clause-gathered g c = gathers_as _ (ap joined_args (nil_from_length c.args.args.now c.in_default.ensures.cases)) (gathers_nothing _ _ _ _)

pub returns-in_err-push-clause-prefix : goal.returns-in_err-push-clause-prefix
returns-in_err-push-clause-prefix g c =
    let same = ap joined_args c.in-Some.ensures.cases.0 ∙ joined_after arg_text c.in-Some.first.now c.in-Some.rest.now in
    let first = rw (c.as_bytes.ensures, c.arg_after.ensures) at c.push.ensures.prefix in
    gathers_prefix_as _ same (prefix_before (flat_map (λ arg. 44 ∷ arg_text arg) c.in-Some.rest.now) first)

pub returns-in_err-push_more_args-clause-prefix : goal.returns-in_err-push_more_args-clause-prefix
returns-in_err-push_more_args-clause-prefix g c =
    let same = ap joined_args c.in-Some.ensures.cases.0 ∙ joined_after arg_text c.in-Some.first.now c.in-Some.rest.now in
    let first = rw (c.as_bytes.ensures, c.arg_after.ensures) at c.in_ok-push.ensures.gathered in
    gathers_prefix_as _ same (prefix_after first c.push_more_args.ensures.prefix)

pub returns-clause-gathered : goal.returns-clause-gathered
returns-clause-gathered g c =
    let same = ap joined_args c.in-Some.ensures.cases.0 ∙ joined_after arg_text c.in-Some.first.now c.in-Some.rest.now in
    let first = rw (c.as_bytes.ensures, c.arg_after.ensures) at c.in_ok-push.ensures.gathered in
    gathers_as _ same (gathers_then first c.in_ok-push_more_args.ensures.gathered)

pub returns-in_default-clause-prefix : goal.returns-in_default-clause-prefix
returns-in_default-clause-prefix g c = prefix_all (returns-in_default-clause-gathered g c)

pub returns-clause-prefix : goal.returns-clause-prefix
returns-clause-prefix g c = prefix_all (returns-clause-gathered g c)
