use Rattle.std.proofs.Common.{◌<◌, ◌^◌, arith, rules}
use Rattle.sc_hier.proofs.LengthLemmas.{short_number}
use Rattle.sc_hier.proofs.gate_line.wire_is_short.Goals as goal

pub returns : goal.returns
returns c =
    let small : c.args.wire.number < 2 ^ 32 = search rules in
    omega (arith, short_number c.args.wire.number small)
