use Rattle.std.proofs.Common.{◌≡◌, drop}
use Rattle.sc_gate.specs.Runs.{bit_run}
use Rattle.sc_rev.specs.BitBodies.{gates_in}
use Rattle.sc_rev.proofs.bit_body.run_bits.Given as goal

abbrev pub invariant-loop-item : goal.invariant-loop-item
invariant-loop-item l = bit_run (gates_in (drop l.item-index l.item-items)) l.bits ≡ bit_run (gates_in l.item-items) l.initial.bits
