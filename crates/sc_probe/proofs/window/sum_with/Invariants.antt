use Rattle.std.proofs.Common.{◌≡◌, take}
use Rattle.std.specs.Prelude.{sum}
use Rattle.sc_probe.specs.States.{raised}
use Rattle.sc_probe.proofs.window.sum_with.Given as goal

abbrev pub invariant-loop-earlier : goal.invariant-loop-earlier
invariant-loop-earlier l = l.sum ≡ raised (sum (take l.earlier-index l.marks)) l.mark
