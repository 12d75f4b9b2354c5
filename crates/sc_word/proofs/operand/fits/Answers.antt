use Rattle.std.proofs.Common.{◌<◌, ◌/◌, ◌*◌, ◌^◌, sym, ◌∙◌, eq-eqb, arith}
use Rattle.std.proofs.Math.Nat.{div-lt_iff_lt-mul}
use Rattle.std.proofs.Math.Pow.{pow_mono}
use Rattle.std.proofs.lemmas.Nat.{pow_pos}
use Rattle.std.proofs.lemmas.Bool.{lt-ltb, le-leb, eqb-true, ltb_from_iff}
use Rattle.sc_word.proofs.operand.fits.Goals as goal

pub returns-then-width-ge64 : goal.returns-then-width-ge64
returns-then-width-ge64 c =
    le-leb 64 c.args.width c.if-width-ge64.true
    ∙ sym (lt-ltb c.args.value (2 ^ c.args.width) (omega (arith, pow_mono c.if-width-ge64.true)))

pub returns-else-width-ge64 : goal.returns-else-width-ge64
returns-else-width-ge64 c =
    let v = c.args.value in
    let q = 2 ^ c.args.width in
    let both = div-lt_iff_lt-mul {k = q} {x = v} {y = 1} (pow_pos c.args.width) in
    ltb_from_iff (
      λ e. (let below : v / q < 1 = omega (arith, eqb-true (v / q) 0 e) in let h : v < 1 * q = both.0 below in omega arith),
      λ h. (let wide : v < 1 * q = omega arith in let small : v / q < 1 = both.1 wide in eq-eqb (v / q) 0 (omega arith)),
    )
