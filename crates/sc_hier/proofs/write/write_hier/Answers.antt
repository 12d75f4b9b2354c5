use Rattle.std.proofs.Common.{sym}
use Rattle.std.proofs.lemmas.List.{append-nil}
use Rattle.sc_base.proofs.OutputLemmas.{prefix_whole}
use Rattle.sc_deck.specs.Hierarchical.{modules_text}
use Rattle.sc_hier.proofs.GatherLemmas.{gathers_then, gathers_as, gathers_prefix_as, prefix_before, prefix_after, wrote_gathered, prefix_gathered}
use Rattle.sc_hier.proofs.write.write_hier.Goals as goal

pub returns-in_err-push-clause-prefix : goal.returns-in_err-push-clause-prefix
returns-in_err-push-clause-prefix g c =
    let first = rw (c.version_line.ensures, c.deck_has_turns.ensures) at c.push.ensures.prefix in
    prefix_gathered c.new-held.ensures (prefix_before (modules_text 0 c.args.deck.now) first)

pub returns-in_err-push_modules-clause-prefix : goal.returns-in_err-push_modules-clause-prefix
returns-in_err-push_modules-clause-prefix g c =
    let first = rw (c.version_line.ensures, c.deck_has_turns.ensures) at c.in_ok-push.ensures.gathered in
    prefix_gathered c.new-held.ensures (prefix_after first c.push_modules.ensures.prefix)

pub returns-in_err-flush-clause-prefix : goal.returns-in_err-flush-clause-prefix
returns-in_err-flush-clause-prefix g c =
    let first = rw (c.version_line.ensures, c.deck_has_turns.ensures) at c.in_ok-push.ensures.gathered in
    prefix_gathered c.new-held.ensures
    (gathers_prefix_as _ (sym (append-nil _)) (prefix_after (gathers_then first c.in_ok-push_modules.ensures.gathered) c.flush.ensures.prefix))

pub returns-clause-appended : goal.returns-clause-appended
returns-clause-appended g c =
    let first = rw (c.version_line.ensures, c.deck_has_turns.ensures) at c.in_ok-push.ensures.gathered in
    wrote_gathered c.new-held.ensures c.in_ok-flush.ensures.emptied
    (gathers_as _ (sym (append-nil _)) (gathers_then (gathers_then first c.in_ok-push_modules.ensures.gathered) c.in_ok-flush.ensures.gathered))

pub returns-clause-prefix : goal.returns-clause-prefix
returns-clause-prefix g c = prefix_whole (returns-clause-appended g c)
