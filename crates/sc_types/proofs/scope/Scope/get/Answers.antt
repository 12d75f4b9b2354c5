use Rattle.std.proofs.Common.{ap, ◌∙◌}
use Rattle.sc_types.specs.Scopes.{kind_here}
use Rattle.sc_types.proofs.ScopeLemmas.{kind_entries}
use Rattle.sc_types.proofs.scope.Scope.get.Goals as goal

pub returns : goal.returns
returns c =
    c.copied.ensures
    ∙ c.get.ensures
    ∙ kind_entries c.args.name.now c.self.inside.kinds
    ∙ ap (λ s. kind_here s c.args.name.now) c.self.view_is
