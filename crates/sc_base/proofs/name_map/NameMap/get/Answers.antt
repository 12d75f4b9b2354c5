use Rattle.std.proofs.Common.{rules, Some, sym, ap, ◌∙◌, get_or}
use Rattle.sc_base.proofs.name_map.NameMap.get.Goals as goal
use Rattle.sc_base.proofs.NameMapLemmas.{place_under-has, place_under-within, place_under-lacks}

pub returns-in_err-at : goal.returns-in_err-at
returns-in_err-at g c = let gone = (place_under-lacks c.args.self.now c.args.name.now (sym c.place.ensures ∙ c.in_err-at.was)).value in rw gone (search rules)

pub index-requires : goal.index-requires
index-requires g c = rw (c.self.inside.entries.ok.0, c.self.view_is) (place_under-within c.args.self.now c.args.name.now c.in_ok-at.at (sym c.place.ensures ∙ c.in_ok-at.was))

pub returns : goal.returns
returns g c =
    let d = c.index.result.now in
    let at = c.in_ok-at.at in
    let there = place_under-has c.args.self.now c.args.name.now at d (sym c.place.ensures ∙ c.in_ok-at.was) in
    ap (λ e. Some e.1) (c.index.ensures ∙ ap (λ l. get_or l at d) c.self.view_is) ∙ sym there.value
