use Rattle.std.proofs.Common.{◌≡◌, take}
use Rattle.sc_meaning.specs.Arguments.{args_of}
use Rattle.sc_elab.specs.Evaluated.{all_passed}
use Rattle.sc_elab.proofs.callee.args_of.Given as goal

abbrev pub invariant-loop-one : goal.invariant-loop-one
invariant-loop-one l = l.args.items ≡ args_of (all_passed (take l.one-index l.evaluated))
