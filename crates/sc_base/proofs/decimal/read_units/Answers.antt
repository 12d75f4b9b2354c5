use Rattle.std.proofs.Common.{◌+◌, ◌^◌, drop, sym, arith}
use Rattle.std.proofs.lemmas.List.{take_rest}
use Rattle.sc_base.proofs.DecimalLemmas.{no_point, first_point, IsDecimal-at_first, whole_too_large, read_some, read_none, test-from_AllDigits, AllDigits-from_test}
use Rattle.sc_base.proofs.decimal.read_units.Goals as goal
use Rattle.sc_base.proofs.decimal.read_units.Goals.{then-bytes-eq1-via-then-bytes-eq1, then-bytes-eq1-via-else-bytes-eq1+then-not-is_digits}

pub returns-in_err-point-clause-none : goal.returns-in_err-point-clause-none
returns-in_err-point-clause-none c =
    rw c.from_residual.ensures (λ units d. absurd (no_point c.args.bytes.now units (sym c.in_err-point.ensures) d))

pub returns-then-bytes-eq1-clause-none : goal.returns-then-bytes-eq1-clause-none
returns-then-bytes-eq1-clause-none c = λ units d.
    let parts = IsDecimal-at_first c.args.bytes.now units c.in_ok-point.point (sym c.in_ok-point.ensures) d in
    elim c.then-bytes-eq1.branch [
      | then-bytes-eq1-via-then-bytes-eq1 w ↦ omega arith
      | then-bytes-eq1-via-else-bytes-eq1+then-not-is_digits w ↦
          let passes = test-from_AllDigits (drop (c.in_ok-point.point + 1) c.args.bytes.now) parts.decimals in
          let fails = rw (take_rest c.args.bytes.now (c.in_ok-point.point + 1)) at w.if-not-is_digits.ensures in
          cc
    ]

pub returns-in_err-number_after-clause-none : goal.returns-in_err-number_after-clause-none
returns-in_err-number_after-clause-none c =
    rw c.from_residual-in_err-number_after.ensures
    (λ units d. whole_too_large (2 ^ 64) c.args.bytes.now units c.in_ok-point.point
    (IsDecimal-at_first c.args.bytes.now units c.in_ok-point.point (sym c.in_ok-point.ensures) d) c.in_err-number_after.ensures)

pub returns-clause-some : goal.returns-clause-some
returns-clause-some c =
    let rest = take_rest c.args.bytes.now (c.in_ok-point.point + 1) in
    let place = first_point c.args.bytes.now c.in_ok-point.point (sym c.in_ok-point.ensures) in
    let test = rw rest at c.if-not-is_digits.ensures in
    let twelve_is = rw rest at c.cut_to_twelve.ensures in
    read_some (2 ^ 64) c.args.bytes.now c.in_ok-point.point c.in_ok-number_after.field-0 c.number_after-2.result place.1 place.2
    (omega arith) c.in_ok-number_after.ensures.0.0 (AllDigits-from_test _ (sym test)) c.in_ok-number_after.ensures.1 (rw (← twelve_is) c.number_after-2.ensures)

pub returns-clause-none : goal.returns-clause-none
returns-clause-none c =
    let rest = take_rest c.args.bytes.now (c.in_ok-point.point + 1) in
    let test = rw rest at c.if-not-is_digits.ensures in
    let twelve_is = rw rest at c.cut_to_twelve.ensures in
    read_none (2 ^ 64) c.args.bytes.now c.in_ok-point.point c.in_ok-number_after.field-0 c.number_after-2.result (sym c.in_ok-point.ensures)
    (AllDigits-from_test _ (sym test)) c.in_ok-number_after.ensures.1 (rw (← twelve_is) c.number_after-2.ensures)
