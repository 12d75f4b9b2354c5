use Rattle.std.proofs.Common.{◌≡◌, ℕ, ◌+◌, ◌<◌, ◌≤◌, ◌^◌, List, ◌++◌, length, take, arith}
use Rattle.sc_base.specs.Decimals.{units_text}
use Rattle.sc_base.proofs.FixedLemmas.{units_there, units_read, units_not_read}
use Rattle.sc_base.proofs.reader.only_units.Goals as goal

there : (c : goal.After-read_units) (n : ℕ) (rest : List ℕ) → n < 2 ^ 64 → c.args.bytes.now ≡ units_text n ++ rest →
    take (c.digits_end-end.result + 13) c.args.bytes.now ≡ units_text n
there c n rest small same =
    (units_there c.args.bytes.now c.digits_end-end.result n rest c.digits_end-end.ensures.bound c.digits_end-end.ensures.digits c.digits_end-end.ensures.ends small same).0

pub returns-then-bytes-end-lt13-clause-none : goal.returns-then-bytes-end-lt13-clause-none
returns-then-bytes-end-lt13-clause-none c = λ n rest small same.
    let long : c.digits_end-end.result + 13 ≤ length c.args.bytes.now =
    (units_there c.args.bytes.now c.digits_end-end.result n rest c.digits_end-end.ensures.bound c.digits_end-end.ensures.digits c.digits_end-end.ensures.ends small same).1 in
    omega (arith, long, c.if-bytes-end-lt13.true)

pub returns-clause-some : goal.returns-clause-some
returns-clause-some c = units_read _ c.args.bytes.now c.read_units.result (there c) c.read_units.ensures.some

pub returns-clause-none : goal.returns-clause-none
returns-clause-none c = units_not_read _ c.args.bytes.now c.read_units.result (there c) c.read_units.ensures.none
