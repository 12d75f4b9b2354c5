use Rattle.std.proofs.Common.{◌≡◌, List, [], ◌∷◌, ◌++◌, length, sym, subst, rules}
use Rattle.std.specs.Prelude.{unwrap_or}
use Rattle.sc_gate.specs.Numbers.{both}
use Rattle.sc_deck.specs.Keys.{params_of}
use Rattle.sc_path.specs.declared.table.Table.{Table}
use Rattle.sc_path.specs.Tables.{StandsFor, timed_gates}
use Rattle.sc_path.proofs.BodyTable.{stands_more_tables, critical_fits}
use Rattle.sc_path.proofs.paths.Paths.add.Goals as goal

pub returns-in-Ok-push-clause-ok : goal.returns-in-Ok-push-clause-ok
returns-in-Ok-push-clause-ok c = record { table = c.in-Ok.table; appended = c.in-Ok-push.ensures.ok; size = c.in-Ok.ensures.size; weights = c.in-Ok.ensures.weights }

pub returns-in-Ok-push-clause-stands : goal.returns-in-Ok-push-clause-stands
returns-in-Ok-push-clause-stands c = λ modules key ext sf.
    subst (λ (ts : List Table). StandsFor ts c.args.self.now.times (modules ++ record { key = key; items = c.args.body.now.items } ∷ [])) (sym c.in-Ok-push.ensures.ok)
    (stands_more_tables c.args.self.now.times modules (record { key = key; items = c.args.body.now.items }) c.args.self.now.tables c.in-Ok.table sf
    (c.in-Ok.ensures.table modules key ext (subst (λ (ts : List Table). StandsFor ts c.args.self.now.times modules) (sym c.as_slice.ensures) sf)))

pub returns-in-Ok-push-clause-fits : goal.returns-in-Ok-push-clause-fits
returns-in-Ok-push-clause-fits c = λ modules key ext sf.
    let e : c.unwrap_or-greatest.result ≡ unwrap_or c.get.result 0 = search rules in
    critical_fits (timed_gates c.args.self.now.times (modules ++ record { key = key; items = c.args.body.now.items } ∷ []) (length modules)) (params_of key).qubits (both (params_of key)) c.in-Ok.table.rows c.get.result c.unwrap_or-greatest.result
    (c.in-Ok.ensures.table modules key ext (subst (λ (ts : List Table). StandsFor ts c.args.self.now.times modules) (sym c.as_slice.ensures) sf)) c.get.ensures e c.unwrap_or-greatest.type_inv
