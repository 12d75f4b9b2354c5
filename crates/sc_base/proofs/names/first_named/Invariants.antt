use Rattle.std.proofs.Common.{◌≡◌, length}
use Rattle.sc_base.specs.GateNames.{first_named}
use Rattle.sc_base.proofs.names.first_named.Given as goal

abbrev pub invariant-loop-names : goal.invariant-loop-names
invariant-loop-names l = first_named l.names l.text ≡ first_named l.initial.names l.text

abbrev pub decreases-loop-names : goal.decreases-loop-names
decreases-loop-names l = length l.names
