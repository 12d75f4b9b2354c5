use Rattle.std.proofs.Common.{◌≡◌, ◌≤◌, ◌^◌, ◌∙◌, ap, subst, arith}
use Rattle.std.specs.Prelude.{decimal}
use Rattle.std.specs.Str.Parse.{digits_value}
use Rattle.sc_base.specs.Numerals.{IsValueOf}
use Rattle.sc_base.proofs.NumeralLemmas.{whole_one_way, decimal_front, decimal_value}
use Rattle.sc_base.proofs.reader.take_number.Goals as goal

pub returns-in_default-clause-none : goal.returns-in_default-clause-none
returns-in_default-clause-none c = λ number more small ends same.
    c.in_default.ensures.none (decimal number) more (decimal_front c.args.bytes.now number more small ends same)

pub returns-in-Past-clause-none : goal.returns-in-Past-clause-none
returns-in-Past-clause-none c = λ number more small ends same.
    let found = c.in-Some.ensures.some in
    let large : 2 ^ 64 ≤ digits_value 10 found.0 = subst (IsValueOf found.0) c.in-Past.is found.2 in
    let one = whole_one_way c.args.bytes.now found.0 (decimal number) _ more found.1 (decimal_front c.args.bytes.now number more small ends same) in
    let value : digits_value 10 found.0 ≡ number = ap (digits_value 10) one.0 ∙ decimal_value number small in
    omega (arith, large, value, small)
