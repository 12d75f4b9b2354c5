-- Worked values of operations on words: sums, differences and products wrap, a comparison has no sign, a shift fills with zeros.
use Rattle.std.proofs.Common.{◌≡◌, refl, pos, true, false, [], ◌∷◌}
use Rattle.sc_syntax.specs.declared.ShiftLink.{ShiftLink}
use Rattle.sc_syntax.specs.declared.WordOp.TheVariants as op
use Rattle.sc_word.specs.Pure.{PureTyped, PureTypedLinks}
use Rattle.sc_word.specs.Scratch.{fn_scratch, fn_wires}
use Rattle.sc_word.specs.Typed.{TypedWords}
use Rattle.sc_word.specs.Value.{op_value, shift_value, fn_value}

sum_wraps : op_value op.Add 8 200 100 ≡ 44
sum_wraps = refl

difference_wraps : op_value op.Sub 8 3 5 ≡ 254
difference_wraps = refl

product_wraps : op_value op.Mul 8 20 30 ≡ 88
product_wraps = refl

-- with sign, 200 would be -56
comparison_has_no_sign : op_value op.Lt 8 200 100 ≡ 0
comparison_has_no_sign = refl

less : op_value op.Lt 8 100 200 ≡ 1
less = refl

equal : op_value op.Eq 8 7 7 ≡ 1
equal = refl

bits : op_value op.Xor 8 12 10 ≡ 6
bits = refl

abbrev by_two : ShiftLink
by_two = record { left = true; by = record { value = pos 2; place = record { line = 1; column = 1 } } }

left_drops_high_bits : shift_value 8 by_two 193 ≡ 4
left_drops_high_bits = refl

right_fills_with_zeros : shift_value 8 (record by_two { left = false }) 193 ≡ 48
right_fills_with_zeros = refl

-- ---- a function of two words a and b of width 4, which binds c = a + b and returns c < 3 ? low(c, 2) : ext(1, 2)

abbrev two_words : TypedWords
two_words = record {
  params = 4 ∷ 4 ∷ [];
  binds = record { width = 4; node = PureTyped.chain 4 (PureTyped.word 0) (PureTypedLinks.link op.Add 4 (PureTyped.word 1) PureTypedLinks.no_links) } ∷ [];
  returned = record {
    width = 2;
    node = PureTyped.pick 1 (PureTyped.chain 4 (PureTyped.word 2) (PureTypedLinks.link op.Lt 4 (PureTyped.literal 3) PureTypedLinks.no_links))
        2 (PureTyped.low 4 (PureTyped.word 2)) 2 (PureTyped.literal 1);
  };
}

-- 9 + 9 is 2 in width 4, which is below 3
small_sum : fn_value two_words (9 ∷ 9 ∷ []) ≡ 2
small_sum = refl

large_sum : fn_value two_words (9 ∷ 1 ∷ []) ≡ 1
large_sum = refl

-- 4 + 3 for the sum; 4 for the literal 3, 4 + 4 + 4 for the comparison, 2 for the literal 1, 2 + 2 for the choice
its_scratch : fn_scratch two_words ≡ 29
its_scratch = refl

-- beside them the 8 wires of its words and the 2 of its output
its_wires : fn_wires two_words ≡ 39
its_wires = refl
