use Rattle.std.proofs.Common.{◌≡◌, take}
use Rattle.sc_meaning.specs.Arguments.{wires_of}
use Rattle.sc_elab.specs.Evaluated.{all_passed}
use Rattle.sc_elab.proofs.arguments.wires_of.Given as goal

abbrev pub invariant-loop-one : goal.invariant-loop-one
invariant-loop-one l = l.wires.items ≡ wires_of (all_passed (take l.one-index l.evaluated))
