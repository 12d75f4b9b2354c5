use Rattle.std.proofs.Common.{drop}
use Rattle.std.proofs.lemmas.Map.Text.{btree_map_updates_str}
use mathlib.Core.Path.{fun_ext}
use Rattle.sc_syntax.proofs.NameTables.{inserted}
use Rattle.sc_syntax.proofs.define.Defined.insert.Goals as goal

pub returns-in-Ok : goal.returns-in-Ok
returns-in-Ok c = fun_ext (λ text. inserted (λ value. drop 1 value) _ _ _ _ (btree_map_updates_str c.args.name.now c.args.self.now.values c.insert.new.self _ c.in-Ok.ensures.updates text))
