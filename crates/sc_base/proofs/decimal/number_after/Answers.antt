use Rattle.std.proofs.Common.{◌≤◌, ◌+◌, ◌*◌, ◌^◌, get_or, arith}
use Rattle.std.specs.Char.{digit_value}
use Rattle.std.proofs.lemmas.List.{drop_all}
use Rattle.std.proofs.lemmas.Str.{digit_value_digit}
use Rattle.sc_base.proofs.DecimalLemmas.{overflows, number_at_end}
use Rattle.sc_base.proofs.decimal.number_after.Goals as goal

pub returns-in_err-checked_mul : goal.returns-in_err-checked_mul
returns-in_err-checked_mul c =
    let i = c.loop-digit.digit-index in
    let ds = c.args.digits.now in
    let too_large : 2 ^ 64 ≤ c.loop-digit.number * 10 + digit_value (get_or ds i 0) = omega (arith, c.in_err-checked_mul.ensures) in
    let large = overflows (2 ^ 64) c.loop-digit.number c.args.start ds i 0 c.loop-digit-test.true c.loop-digit.invariant.value too_large in
    rw c.from_residual.ensures (λ p. omega (arith, p.1, large))

pub returns-in_err-number : goal.returns-in_err-number
returns-in_err-number c =
    let i = c.loop-digit.digit-index in
    let ds = c.args.digits.now in
    let digit = digit_value_digit (get_or ds i 0) c.if-not-is_ascii_digit.ensures.cases in
    let too_large : 2 ^ 64 ≤ c.loop-digit.number * 10 + digit_value (get_or ds i 0) = omega (arith, c.in_err-number.ensures, c.in_ok-checked_mul.ensures.1) in
    let large = overflows (2 ^ 64) c.loop-digit.number c.args.start ds i 0 c.loop-digit-test.true c.loop-digit.invariant.value too_large in
    rw c.from_residual-in_err-number.ensures (λ p. omega (arith, p.1, large))

pub returns : goal.returns
returns c =
    let none = drop_all c.loop-digit.digit-index c.args.digits.now (omega arith) in
    number_at_end (2 ^ 64) c.loop-digit.number c.args.start c.args.digits.now _ none c.loop-digit.invariant.value c.loop-digit.invariant.from_rest c.loop-digit.invariant.fits
