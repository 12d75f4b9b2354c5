use Rattle.std.proofs.Common.{List, map, ap, ◌∙◌}
use Rattle.std.specs.Prelude.{slice_get}
use Rattle.std.specs.Option.{option_and_then}
use Rattle.sc_syntax.specs.declared.Part.{Part}
use Rattle.sc_syntax.specs.Alike.{pure_part}
use Rattle.sc_types.specs.Statements.{named_wants}
use Rattle.sc_types.proofs.FirstPartsLemmas.{wants_found}
use Rattle.sc_types.proofs.first_parts.FirstPartsDefinitions.wants.Goals as goal

pub returns-in-Some : goal.returns-in-Some
returns-in-Some c =
    c.wants_at.ensures
    ∙ ap (option_and_then (slice_get c.self.inside.wants)) c.in-Some.ensures
    ∙ wants_found c.self.inside.parts.now c.self.inside.first.now c.self.inside.wants c.args.name.now c.self.invariant
    ∙ ap (λ (ps : List Part). named_wants (map pure_part ps) c.args.name.now) c.self.view_is

pub returns-in-None : goal.returns-in-None
returns-in-None c =
    ap (option_and_then (slice_get c.self.inside.wants)) c.in-None.ensures
    ∙ wants_found c.self.inside.parts.now c.self.inside.first.now c.self.inside.wants c.args.name.now c.self.invariant
    ∙ ap (λ (ps : List Part). named_wants (map pure_part ps) c.args.name.now) c.self.view_is
