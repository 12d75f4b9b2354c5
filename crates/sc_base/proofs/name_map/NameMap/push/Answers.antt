use Rattle.std.proofs.Common.{ap, ◌∙◌}
use Rattle.sc_base.specs.NameMaps.{place_under}
use Rattle.sc_base.proofs.name_map.NameMap.push.Goals as goal
use Rattle.sc_base.proofs.NameMapLemmas.{ArePlaces-push, ArePlaces-kept}

pub invariant_of-self-in-Ok : goal.invariant_of-self-in-Ok
invariant_of-self-in-Ok g c =
    ArePlaces-push c.self.inside.entries.items c.push.new.self.items c.args.name.now c.in_ok-key.key c.in_ok-entry.entry c.args.value c.len-at.result c.self.inside.places c.insert.new.self
    c.self.invariant c.in_ok-key.ensures c.in_ok-entry.ensures (c.len-at.ensures ∙ c.self.inside.entries.ok.0) c.in_ok-push.ensures.items
    (ap (λ l. place_under l c.args.name.now) c.self.view_is ∙ c.requires) c.in-Ok.ensures.updates.0

pub invariant_of-self-in-Err : goal.invariant_of-self-in-Err
invariant_of-self-in-Err g c =
    ArePlaces-kept c.self.inside.entries.items c.push.new.self.items c.truncate.new.self.items (c.in_ok-entry.entry, c.args.value) c.len-at.result c.self.inside.places c.insert.new.self
    c.self.invariant (c.len-at.ensures ∙ c.self.inside.entries.ok.0) c.in_ok-push.ensures.items c.truncate.ensures.items c.in-Err.ensures.err
