use Rattle.std.proofs.Common.{◌≡◌, map, drop}
use Rattle.sc_word.specs.Checks.{first_fault, shift_fits}
use Rattle.sc_word.proofs.rules.shifts_fit.Given as goal

abbrev pub invariant-loop-link : goal.invariant-loop-link
invariant-loop-link l = first_fault (map shift_fits (drop l.link-index l.links)) ≡ first_fault (map shift_fits l.links)
