use Rattle.std.proofs.Common.{sym, ap, subst, ◌∙◌}
use Rattle.sc_types.specs.Accepted.{IsAccepted}
use Rattle.sc_types.specs.Sources.{fault_of}
use Rattle.sc_types.specs.Typing.{TypedSource, typed_source}
use Rattle.sc_types.proofs.AcceptedSources.{checked_accepted}
use Rattle.sc_types.proofs.NamedParts.{distinct_names}
use Rattle.sc_types.proofs.checked.Checked.source.Goals as goal

pub returns-clause-distinct : goal.returns-clause-distinct
returns-clause-distinct c =
    distinct_names c.args.self.now.source (ap (λ (t : TypedSource). fault_of t.source) (sym c.self.view_is) ∙ c.self.invariant.0.well_typed)

pub returns-clause-accepted : goal.returns-clause-accepted
returns-clause-accepted c =
    subst (λ (t : TypedSource). IsAccepted t) c.self.view_is (checked_accepted (typed_source c.self.inside.source c.self.inside.words) c.self.inside.main c.self.invariant.0)
