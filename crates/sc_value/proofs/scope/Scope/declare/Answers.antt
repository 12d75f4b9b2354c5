use Rattle.std.proofs.Common.{ap, ◌∙◌}
use Rattle.std.specs.FinMap as map
use Rattle.sc_value.proofs.EntryLemmas.{inserted_entries}
use Rattle.sc_value.proofs.scope.Scope.declare.Goals as goal
use Rattle.sc_value.proofs.scope.Scope.declare.Goals.{in-Ok-insert, in-Err}

pub returns-clause-ok : goal.returns-clause-ok
returns-clause-ok c =
    elim c.match-insert.branch [
      | in-Ok-insert w ↦ rw w.result-is (
          inserted_entries c.in-Ok.name c.args.value c.self.inside.values.entries c.insert.new.self.entries w.in-Ok-insert.ensures.entries
          ∙ ap (λ m. map.insert m c.in-Ok.name.items c.args.value) c.self.view_is
          ∙ ap (λ n. map.insert c.args.self.now n c.args.value) c.in-Ok.ensures.items)
      | in-Err w ↦ rw w.result-is tt
    ]
