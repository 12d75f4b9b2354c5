use Rattle.std.proofs.Common.{[], ◌∷◌, ◌++◌, map, ap, ◌∙◌}
use Rattle.std.proofs.lemmas.List.{map-append}
use Rattle.sc_word.specs.Words.{Words, named, named_entry, number_of}
use Rattle.sc_word.proofs.Naming.{place_of_name}
use Rattle.sc_word.proofs.words.Words.push.Goals as goal

pub push-requires : goal.push-requires
push-requires c =
    place_of_name c.args.name.now c.self.inside.widths ∙ ap (λ (ws : Words). number_of ws c.args.name.now) c.self.view_is ∙ c.requires

pub returns-clause-ok : goal.returns-clause-ok
returns-clause-ok c =
    ap (map named_entry) c.in_ok-push.ensures.ok
    ∙ map-append named_entry c.self.inside.widths ((c.args.name.now, c.args.width) ∷ [])
    ∙ ap (λ (ws : Words). ws ++ named c.args.name.now c.args.width ∷ []) c.self.view_is
