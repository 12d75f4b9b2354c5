use Rattle.std.proofs.Common.{◌≡◌, ℕ, zero, suc, ◌≤◌, Bool, true, false, not, List, [], ◌∷◌, length, get_or, set, refl, sym, ap, ◌∙◌, arith}
use mathlib.Core.Bool.{beq}
use Rattle.sc_gate.specs.Runs.{xor, xor_at}
use Rattle.sc_gate.proofs.BitNumbers.{bit_at-get_or, xor_at-set}
use Rattle.sc_rev.proofs.bit_body.xor_at.Goals as goal

differ_is : (a v : Bool) → not (beq a v) ≡ xor a v
differ_is true true = refl
differ_is true false = refl
differ_is false true = refl
differ_is false false = refl

xor_past : (w : ℕ) (v : Bool) (bits : List Bool) → length bits ≤ w → bits ≡ xor_at w v bits
xor_past w v [] h = refl
xor_past zero v (x ∷ bits) h = absurd (omega arith)
xor_past (suc w) v (x ∷ bits) h = ap (λ (l : List Bool). x ∷ l) (xor_past w v bits (omega arith))

pub returns-then-place-bits : goal.returns-then-place-bits
returns-then-place-bits c =
    let bits : List Bool = c.args.bits.now in
    ap (λ (x : Bool). set bits c.args.place x)
    (differ_is (get_or bits c.args.place false) c.args.value ∙ ap (λ (x : Bool). xor x c.args.value) (sym (bit_at-get_or bits c.args.place false c.if-place-bits.true)))
    ∙ sym (xor_at-set c.args.place c.args.value bits)

pub returns-else-place-bits : goal.returns-else-place-bits
returns-else-place-bits c = xor_past c.args.place c.args.value c.args.bits.now c.if-place-bits.false
