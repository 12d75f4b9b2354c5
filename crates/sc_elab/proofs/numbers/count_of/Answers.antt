use Rattle.std.proofs.Common.{◌≡◌, refl, ap, ◌∙◌, arith}
use Rattle.std.specs.Prelude.{ℤ, pos, negsuc, ◌≤ℤ◌}
use Rattle.std.specs.Int.{w64}
use Rattle.std.proofs.Math.IntN.{nat_abs}
use Rattle.std.proofs.lemmas.Int.{ints, to_z-of_z}
use Rattle.sc_elab.proofs.numbers.count_of.Goals as goal

nat_is : (z : ℤ) → pos 0 ≤ℤ z → pos (nat_abs z) ≡ z
nat_is (pos n) h = refl
nat_is (negsuc n) h = absurd (omega (arith, ints))

pub returns : goal.returns
returns c = ap (λ (z : ℤ). pos (nat_abs z)) (to_z-of_z w64 c.args.n c.ranges.n) ∙ nat_is c.args.n c.requires.low
