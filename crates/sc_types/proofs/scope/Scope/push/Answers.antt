use Rattle.std.proofs.Common.{◌∷◌, [], ◌++◌, List, map, ap, ◌∙◌}
use Rattle.std.proofs.lemmas.List.{map-append}
use Rattle.sc_types.specs.Scopes.{Known, known, known_entry, kind_here}
use Rattle.sc_types.proofs.ScopeLemmas.{kind_entries}
use Rattle.sc_types.proofs.TableLemmas.{no_place}
use Rattle.sc_types.proofs.scope.Scope.push.Goals as goal

pub push-requires : goal.push-requires
push-requires c =
    no_place c.self.inside.kinds c.args.name.now
    (kind_entries c.args.name.now c.self.inside.kinds ∙ ap (λ (s : List Known). kind_here s c.args.name.now) c.self.view_is ∙ c.requires)

pub returns-clause-ok : goal.returns-clause-ok
returns-clause-ok c =
    ap (map known_entry) c.in_ok-push.ensures.ok
    ∙ map-append known_entry c.self.inside.kinds ((c.args.name.now, c.args.kind) ∷ [])
    ∙ ap (λ (s : List Known). s ++ known c.args.name.now c.args.kind ∷ []) c.self.view_is
