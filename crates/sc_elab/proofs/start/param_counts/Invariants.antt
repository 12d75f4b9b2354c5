use Rattle.std.proofs.Common.{◌≡◌, take}
use Rattle.sc_gate.specs.Numbers.{no_wires}
use Rattle.sc_elab.specs.Starting.{numbers_of, with_args}
use Rattle.sc_elab.proofs.start.param_counts.Given as goal

abbrev pub invariant-loop-arg : goal.invariant-loop-arg
invariant-loop-arg l = numbers_of l.counts ≡ with_args no_wires (take l.arg-index l.args)
