use Rattle.std.proofs.Common.{◌≡◌, ℕ, take, Option}
use Rattle.sc_path.specs.Rows.{look}
use Rattle.sc_path.specs.Fronts.{through}
use Rattle.sc_path.proofs.front.through_gate.Given as goal

abbrev pub invariant-loop-wire : goal.invariant-loop-wire
invariant-loop-wire l = (s : Option ℕ) → look l.out s ≡ through l.rows l.weight (take l.wire-index l.wires) s
