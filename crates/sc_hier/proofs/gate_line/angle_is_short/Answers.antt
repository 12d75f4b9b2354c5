use Rattle.std.proofs.Common.{FitsSigned, w64, rules}
use Rattle.sc_hier.proofs.LengthLemmas.{short_fixed}
use Rattle.sc_hier.proofs.gate_line.angle_is_short.Goals as goal

pub returns : goal.returns
returns c =
    let fits : FitsSigned w64 c.args.angle.0 = search rules in
    short_fixed c.args.angle.0 fits
