use Rattle.std.proofs.Common.{◌≡◌, ℕ, take}
use Rattle.std.specs.Prelude.{map}
use Rattle.sc_base.specs.declared.Class.TheVariants.{Q}
use Rattle.sc_meaning.specs.declared.want.Want.TheVariants as want
use Rattle.sc_elab.proofs.callee.word_wants.Given as goal

abbrev pub invariant-loop-width : goal.invariant-loop-width
invariant-loop-width l = l.wants.items ≡ map (λ (w : ℕ). want.Many Q) (take l._width-index l.widths)
