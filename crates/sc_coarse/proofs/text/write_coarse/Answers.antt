use Rattle.std.proofs.Common.{map, sym}
use Rattle.std.proofs.lemmas.List.{append-nil}
use Rattle.sc_base.proofs.OutputLemmas.{prefix_whole}
use Rattle.sc_deck.specs.Modules.{key_of}
use Rattle.sc_hier.proofs.GatherLemmas.{gathers_then, gathers_as, gathers_prefix_as, prefix_before, prefix_after, wrote_gathered, prefix_gathered}
use Rattle.sc_coarse.specs.CoarseText.{instances_text}
use Rattle.sc_coarse.proofs.text.write_coarse.Goals as goal

pub returns-in_err-push_head-clause-prefix : goal.returns-in_err-push_head-clause-prefix
returns-in_err-push_head-clause-prefix g c =
    prefix_gathered c.new-held.ensures (prefix_before (instances_text 0 (map key_of c.args.deck.now) c.args.c.now) c.push_head.ensures.prefix)

pub returns-in_err-push_instances-clause-prefix : goal.returns-in_err-push_instances-clause-prefix
returns-in_err-push_instances-clause-prefix g c =
    prefix_gathered c.new-held.ensures (prefix_after c.in_ok-push_head.ensures.gathered c.push_instances.ensures.prefix)

pub returns-in_err-flush-clause-prefix : goal.returns-in_err-flush-clause-prefix
returns-in_err-flush-clause-prefix g c =
    prefix_gathered c.new-held.ensures
    (gathers_prefix_as _ (sym (append-nil _)) (prefix_after (gathers_then c.in_ok-push_head.ensures.gathered c.in_ok-push_instances.ensures.gathered) c.flush.ensures.prefix))

pub returns-clause-appended : goal.returns-clause-appended
returns-clause-appended g c =
    wrote_gathered c.new-held.ensures c.in_ok-flush.ensures.emptied
    (gathers_as _ (sym (append-nil _)) (gathers_then (gathers_then c.in_ok-push_head.ensures.gathered c.in_ok-push_instances.ensures.gathered) c.in_ok-flush.ensures.gathered))

pub returns-clause-prefix : goal.returns-clause-prefix
returns-clause-prefix g c = prefix_whole (returns-clause-appended g c)
