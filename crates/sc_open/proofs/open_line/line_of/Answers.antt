use Rattle.std.proofs.Common.{refl}
use Rattle.sc_open.proofs.LineParts.{gate_is_open}
use Rattle.sc_open.proofs.open_line.line_of.Goals as goal

pub returns-in-PrepZ-clause-formed : goal.returns-in-PrepZ-clause-formed
returns-in-PrepZ-clause-formed c = λ spare. tt

pub returns-in_default : goal.returns-in_default
returns-in_default c = record {
  gate = refl;
  formed = λ spare. gate_is_open c.args.gate.kind c.requires.kind c.in_default.not-PrepZ;
  text = refl;
}
