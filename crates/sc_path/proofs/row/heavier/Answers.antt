use Rattle.std.proofs.Common.{arith}
use Rattle.sc_path.proofs.Rows.{heavy_one}
use Rattle.sc_path.proofs.row.heavier.Goals as goal

pub returns-in-None-clause-err : goal.returns-in-None-clause-err
returns-in-None-clause-err c = heavy_one c.args.entry c.args.by (omega (arith, c.in-None.ensures))
