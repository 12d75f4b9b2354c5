use Rattle.std.proofs.Common.{◌≡◌, drop}
use Rattle.sc_elab.specs.Evaluated.{all_passed, holder}
use Rattle.sc_elab.proofs.arguments.holder.Given as goal

abbrev pub invariant-loop-one : goal.invariant-loop-one
invariant-loop-one l = holder (all_passed l.evaluated) l.position ≡ holder (all_passed (drop l.one-index l.evaluated)) l.left
