use Rattle.std.proofs.Common.{◌≡◌, ◌<◌, ◌^◌, drop}
use Rattle.std.specs.Str.Parse.{AllDigits, digits_value_after}
use Rattle.sc_base.proofs.decimal.number_after.Given as goal

abbrev pub invariant-loop-digit : goal.invariant-loop-digit
invariant-loop-digit l = record {
  fits : l.number < 2 ^ 64;
  value : digits_value_after 10 l.number (drop l.digit-index l.digits) ≡ digits_value_after 10 l.start l.digits;
  to_rest : AllDigits 10 l.digits → AllDigits 10 (drop l.digit-index l.digits);
  from_rest : AllDigits 10 (drop l.digit-index l.digits) → AllDigits 10 l.digits;
}
