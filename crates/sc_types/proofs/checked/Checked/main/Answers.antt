use Rattle.std.proofs.Common.{sym, ap, ◌∙◌}
use Rattle.sc_types.specs.Typing.{TypedSource, main_at}
use Rattle.sc_types.proofs.NamedParts.{has_main}
use Rattle.sc_types.proofs.checked.Checked.main.Goals as goal

pub returns-clause-module : goal.returns-clause-module
returns-clause-module c =
    has_main c.args.self.now.source c.self.inside.main (ap (λ (t : TypedSource). main_at t.source) (sym c.self.view_is) ∙ c.self.invariant.0.main_is)
