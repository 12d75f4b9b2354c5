-- Places and marks of names.
use Rattle.std.proofs.Common.{◌≤◌, arith}
use Rattle.sc_base.specs.declared.names.GateName.{GateName}
use Rattle.sc_base.specs.declared.names.GateName.TheVariants as name
use Rattle.sc_gate.specs.Gates.{place_of}
use Rattle.sc_probe.specs.Rules.{mark_of}

pub place_of-le : (n : GateName) → place_of n ≤ 17
place_of-le name.X = omega arith
place_of-le name.Y = omega arith
place_of-le name.Z = omega arith
place_of-le name.H = omega arith
place_of-le name.S = omega arith
place_of-le name.T = omega arith
place_of-le name.Sdag = omega arith
place_of-le name.Tdag = omega arith
place_of-le name.Cnot = omega arith
place_of-le name.Toffoli = omega arith
place_of-le name.Fredkin = omega arith
place_of-le name.Rx = omega arith
place_of-le name.Ry = omega arith
place_of-le name.Rz = omega arith
place_of-le name.PrepX = omega arith
place_of-le name.PrepZ = omega arith
place_of-le name.MeasX = omega arith
place_of-le name.MeasZ = omega arith

pub mark_of-le : (n : GateName) → mark_of n ≤ 1
mark_of-le name.X = omega arith
mark_of-le name.Y = omega arith
mark_of-le name.Z = omega arith
mark_of-le name.H = omega arith
mark_of-le name.S = omega arith
mark_of-le name.T = omega arith
mark_of-le name.Sdag = omega arith
mark_of-le name.Tdag = omega arith
mark_of-le name.Cnot = omega arith
mark_of-le name.Toffoli = omega arith
mark_of-le name.Fredkin = omega arith
mark_of-le name.Rx = omega arith
mark_of-le name.Ry = omega arith
mark_of-le name.Rz = omega arith
mark_of-le name.PrepX = omega arith
mark_of-le name.PrepZ = omega arith
mark_of-le name.MeasX = omega arith
mark_of-le name.MeasZ = omega arith
