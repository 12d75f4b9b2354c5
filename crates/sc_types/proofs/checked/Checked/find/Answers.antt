use Rattle.std.proofs.Common.{ap, ◌∙◌}
use Rattle.sc_types.specs.Typing.{TypedSource, part_at}
use Rattle.sc_types.proofs.checked.Checked.find.Goals as goal

pub returns : goal.returns
returns c =
    c.copied.ensures
    ∙ c.get.ensures
    ∙ c.self.invariant.1.each c.args.name.now
    ∙ ap (λ (t : TypedSource). part_at t.source c.args.name.now) c.self.view_is
