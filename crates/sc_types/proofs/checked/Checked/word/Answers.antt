use Rattle.std.proofs.Common.{None, ap, ◌∙◌}
use Rattle.sc_types.specs.Typing.{typed_source, flat}
use Rattle.sc_types.proofs.TypingLemmas.{typed_by_position}
use Rattle.sc_types.proofs.checked.Checked.word.Goals as goal

pub returns-in-Some-clause-typed : goal.returns-in-Some-clause-typed
returns-in-Some-clause-typed c =
    typed_by_position (typed_source c.self.inside.source c.self.inside.words) c.args.self.now c.args.part _ c.self.view_is c.self.invariant.0.words
    (c.as_ref.ensures.value ∙ ap flat (c.in-Some.ensures))

pub returns-in-None-clause-typed : goal.returns-in-None-clause-typed
returns-in-None-clause-typed c =
    typed_by_position (typed_source c.self.inside.source c.self.inside.words) c.args.self.now c.args.part None c.self.view_is c.self.invariant.0.words
    (ap flat c.in-None.ensures)
