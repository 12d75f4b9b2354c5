use Rattle.std.proofs.Common.{ℕ, sym, ap, ◌∙◌, w64}
use Rattle.std.specs.Prelude.{◌==◌}
use Rattle.std.proofs.lemmas.Nat.Bits.{bit_at_set_same, bit_at_set_other, bit_at_clear_same, bit_at_clear_other}
use Rattle.sc_sched.proofs.sets.with_bit.Goals as goal

pub returns-then-is_in-clause-bit : goal.returns-then-is_in-clause-bit
returns-then-is_in-clause-bit c = ap (λ (n : ℕ). n == 1) (bit_at_set_same w64 c.args.word c.args.bit c.requires) ∙ sym c.if-is_in.true

pub returns-then-is_in-clause-others : goal.returns-then-is_in-clause-others
returns-then-is_in-clause-others c = λ k l d. bit_at_set_other w64 c.args.word c.args.bit c.requires k d

pub returns-else-is_in-clause-bit : goal.returns-else-is_in-clause-bit
returns-else-is_in-clause-bit c = ap (λ (n : ℕ). n == 1) (bit_at_clear_same w64 c.args.word c.args.bit c.requires) ∙ sym c.if-is_in.false

pub returns-else-is_in-clause-others : goal.returns-else-is_in-clause-others
returns-else-is_in-clause-others c = λ k l d. bit_at_clear_other w64 c.args.word c.args.bit c.requires k l d
