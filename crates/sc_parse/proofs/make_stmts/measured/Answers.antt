use Rattle.std.proofs.Common.{ap, List, ◌∷◌}
use Rattle.sc_parse.specs.Derives.{measured_is}
use Rattle.sc_parse.specs.Trees.{Tree, name}
use Rattle.sc_parse.proofs.make_stmts.measured.Goals as goal

pub returns : goal.returns
returns c = λ vs k. measured_is (ap (λ (l : List Tree). name c.args.name ∷ l) k)
