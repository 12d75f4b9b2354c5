use Rattle.std.proofs.Common.{◌≡◌, ℕ, zero, suc, ◌≤◌, Bool, false, nat_lt, List, [], ◌∷◌, length, refl, sym, ◌∙◌, arith}
use Rattle.std.proofs.lemmas.Bool.Decides.{nat_tests}
use Rattle.sc_gate.specs.Runs.{bit_at}
use Rattle.sc_gate.proofs.BitNumbers.{bit_at-get_or}
use Rattle.sc_rev.proofs.bit_body.bit_at.Goals as goal

not_below : (a b : ℕ) → b ≤ a → nat_lt a b ≡ false
not_below a b h = grind (arith, nat_tests)

bit_past : (bits : List Bool) (w : ℕ) → length bits ≤ w → bit_at bits w ≡ false
bit_past [] w h = refl
bit_past (x ∷ bits) zero h = absurd (omega arith)
bit_past (x ∷ bits) (suc w) h = bit_past bits w (omega arith)

pub returns-then-place-bits : goal.returns-then-place-bits
returns-then-place-bits c = sym (bit_at-get_or c.args.bits.now c.args.place false c.if-place-bits.true)

pub returns-else-place-bits : goal.returns-else-place-bits
returns-else-place-bits c = not_below c.args.place (length c.args.bits.now) c.if-place-bits.false ∙ sym (bit_past c.args.bits.now c.args.place c.if-place-bits.false)
