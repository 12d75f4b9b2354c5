use Rattle.std.proofs.Common.{sym, ap, ◌∙◌, get_or, set}
use Rattle.sc_base.proofs.name_map.NameMap.insert.Goals as goal
use Rattle.sc_base.proofs.NameMapLemmas.{place_under-has, place_under-within, place_under-lacks, place_under-write}

pub index_mut-requires : goal.index_mut-requires
index_mut-requires g c = rw (c.self.inside.entries.ok.0, c.self.view_is) (place_under-within c.args.self.now c.args.name.now c.in-Some.at (sym c.place.ensures ∙ c.in-Some.is))

pub invariant_of-self : goal.invariant_of-self
invariant_of-self g c = λ q.
    c.self.invariant q ∙ sym (place_under-write c.self.inside.entries.items c.in-Some.at c.index_mut.result.now c.args.value q c.index_mut.ensures.value)

pub returns-in-None-clause-ok : goal.returns-in-None-clause-ok
returns-in-None-clause-ok g c =
    rw ((place_under-lacks c.args.self.now c.args.name.now (sym c.place.ensures ∙ c.in-None.is)).pushed c.args.value) c.push.ensures.ok

pub returns-in-Some-clause-ok : goal.returns-in-Some-clause-ok
returns-in-Some-clause-ok g c =
    let d = c.index_mut.result.now in
    let at = c.in-Some.at in
    let there = place_under-has c.args.self.now c.args.name.now at d (sym c.place.ensures ∙ c.in-Some.is) in
    ap (λ l. set l at (d.0, c.args.value)) c.self.view_is
    ∙ ap (λ e. set c.args.self.now at (e.0, c.args.value)) (c.index_mut.ensures.value ∙ ap (λ l. get_or l at d) c.self.view_is)
    ∙ sym (there.replaced c.args.value)
