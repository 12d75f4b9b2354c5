use Rattle.std.proofs.Common.{◌≡◌, ℕ, ◌<◌, false}
use Rattle.sc_gate.specs.declared.gate.Wire.{Wire}
use Rattle.sc_gate.specs.LastGates.{last_on}
use Rattle.sc_gate.specs.WireTables.{number_at}
use Rattle.sc_check.specs.Early.{step_at, early_by}
use Rattle.sc_check.proofs.early.first_early.Given as goal

abbrev pub invariant-loop-x : goal.invariant-loop-x
invariant-loop-x l = record {
  last : (w : Wire) → number_at l.last w ≡ last_on l.gates w l.x;
  in_order : (y : ℕ) → y < l.x → early_by l.gates (step_at l.places) y ≡ false;
}
