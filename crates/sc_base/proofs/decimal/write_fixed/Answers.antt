use Rattle.std.proofs.Common.{◌≡◌, ℕ, ◌≤◌, ◌/◌, ◌%◌, ◌^◌, ◌∷◌, [], length, decimal, ◌∙◌, FitsSigned, w64, arith, rules}
use Rattle.std.proofs.lemmas.Fmt.{length-decimal-le}
use Rattle.std.proofs.lemmas.Int.{to_z-of_z}
use Rattle.sc_base.specs.Decimals.{twelve_digits, fixed_text}
use Rattle.sc_base.proofs.DecimalLemmas.{Placed, placed_then, fixed_text-parts, fixed_text-IsDecimal, length-twelve_digits}
use Rattle.sc_base.proofs.decimal.write_fixed.Goals as goal

-- the lengths of the whole part and of the decimals
lengths : (units : ℕ) → units ≤ 2 ^ 63 → (length (decimal (units / 10 ^ 12)) ≤ 7) × (length (twelve_digits (units % 10 ^ 12)) ≡ 12)
lengths units bound =
    (length-decimal-le 7 (units / 10 ^ 12) (omega arith) (omega arith) (omega arith), length-twelve_digits (units % 10 ^ 12) (omega arith))

pub put_at-requires : goal.put_at-requires
put_at-requires c =
    let long = lengths c.unsigned_abs-units.result c.unsigned_abs-units.ensures.bound in
    let sign = c.sign.ensures.short in
    let whole : length c.as_bytes.result.now ≤ 7 = rw (c.as_bytes.ensures.value, c.format.ensures.text) long.0 in
    let decimals : length c.decimals_of.result ≡ 12 = rw c.decimals_of.ensures long.1 in
    omega arith

written : (c : goal.After-put_at) → Placed 0 c.put_at.result c.args.buf.now c.put_at.new.buf (fixed_text c.args.value.0)
written c =
    let first : Placed 0 c.put_at-at.result c.args.buf.now c.put_at-at.new.buf c.sign.result.now =
    record { ends = c.put_at-at.ensures.end; written = c.put_at-at.ensures.written; rest = c.put_at-at.ensures.rest } in
    let second : Placed c.put_at-at.result c.put_at-at-2.result c.put_at-at.new.buf c.put_at-at-2.new.buf c.as_bytes.result.now =
    record { ends = c.put_at-at-2.ensures.end; written = c.put_at-at-2.ensures.written; rest = c.put_at-at-2.ensures.rest } in
    let third : Placed c.put_at-at-2.result c.put_at-at-3.result c.put_at-at-2.new.buf c.put_at-at-3.new.buf (46 ∷ []) =
    record { ends = c.put_at-at-3.ensures.end; written = c.put_at-at-3.ensures.written; rest = c.put_at-at-3.ensures.rest } in
    let fourth : Placed c.put_at-at-3.result c.put_at.result c.put_at-at-3.new.buf c.put_at.new.buf c.decimals_of.result =
    record { ends = c.put_at.ensures.end; written = c.put_at.ensures.written; rest = c.put_at.ensures.rest } in
    let all = placed_then _ _ _ _ _ _ _ _ (placed_then _ _ _ _ _ _ _ _ (placed_then _ _ _ _ _ _ _ _ first second) third) fourth in
    let fits : FitsSigned w64 c.args.value.0 = search rules in
    let same = to_z-of_z w64 c.args.value.0 fits in
    let sign = rw same at c.sign.ensures.text in
    let size = rw same at c.unsigned_abs-units.ensures.value in
    let whole = c.as_bytes.ensures.value ∙ c.format.ensures.text in
    rw (fixed_text-parts c.args.value.0 c.unsigned_abs-units.result size, ← sign, ← whole, ← c.decimals_of.ensures) all

pub returns-clause-text : goal.returns-clause-text
returns-clause-text c = (written c).written

pub returns-clause-count : goal.returns-clause-count
returns-clause-count c = (written c).ends ∙ omega arith

pub returns-clause-short : goal.returns-clause-short
returns-clause-short c =
    let long = lengths c.unsigned_abs-units.result c.unsigned_abs-units.ensures.bound in
    let sign = c.sign.ensures.short in
    let whole : length c.as_bytes.result.now ≤ 7 = rw (c.as_bytes.ensures.value, c.format.ensures.text) long.0 in
    let decimals : length c.decimals_of.result ≡ 12 = rw c.decimals_of.ensures long.1 in
    omega arith

pub returns-clause-rest : goal.returns-clause-rest
returns-clause-rest c = (written c).rest

pub returns-clause-read_back : goal.returns-clause-read_back
returns-clause-read_back c = λ positive.
    let fits : FitsSigned w64 c.args.value.0 = search rules in
    let size = rw (to_z-of_z w64 c.args.value.0 fits) at c.unsigned_abs-units.ensures.value in
    rw ((written c).written) (fixed_text-IsDecimal c.args.value.0 positive (omega (arith, size, c.unsigned_abs-units.ensures.bound)))
