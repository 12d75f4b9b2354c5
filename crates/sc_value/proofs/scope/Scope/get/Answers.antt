use Rattle.std.proofs.Common.{sym, ap, ◌∙◌}
use Rattle.std.specs.FinMap as map
use Rattle.sc_value.proofs.EntryLemmas.{get_entries}
use Rattle.sc_value.proofs.scope.Scope.get.Goals as goal

pub returns : goal.returns
returns c =
    c.copied.ensures
    ∙ c.get.ensures.value
    ∙ sym (get_entries c.args.name.now c.self.inside.values.entries)
    ∙ ap (λ m. map.get m c.args.name.now) c.self.view_is
