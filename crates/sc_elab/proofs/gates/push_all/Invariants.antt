use Rattle.std.proofs.Common.{◌≡◌, take}
use Rattle.sc_elab.proofs.PushedGates.{pushed}
use Rattle.sc_elab.proofs.gates.push_all.Given as goal

abbrev pub invariant-loop-gate : goal.invariant-loop-gate
invariant-loop-gate l = l.body ≡ record l.fn.body { items = pushed l.fn.body.items (take l.gate-index l.gates) }
