-- Worked gates: the sum of two words of width 2, and the first gates of a comparison with 3.
use Rattle.std.proofs.Common.{◌≡◌, refl, [], ◌∷◌, length, take}
use Rattle.sc_syntax.specs.declared.WordOp.TheVariants as op
use Rattle.sc_word.specs.Pure.{PureTyped, PureTypedLinks}
use Rattle.sc_word.specs.Typed.{TypedWords}
use Rattle.sc_rev.specs.declared.bit_gate.BitGate.TheVariants.{X, Cnot, Toffoli}
use Rattle.sc_rev.specs.Functions.{steps_of}

-- fn(2) add(a: 2, b: 2) = a + b
abbrev add : TypedWords
add = record {
  params = 2 ∷ 2 ∷ [];
  binds = [];
  returned = record { width = 2; node = PureTyped.chain 2 (PureTyped.word 0) (PureTypedLinks.link op.Add 2 (PureTyped.word 1) PureTypedLinks.no_links) };
}

add_steps : steps_of add ≡
    Cnot 0 6 ∷ Cnot 2 6 ∷ Toffoli 0 2 8 ∷ Cnot 1 7 ∷ Cnot 3 7 ∷ Cnot 8 7
    ∷ Cnot 6 4 ∷ Cnot 7 5
    ∷ Cnot 8 7 ∷ Cnot 3 7 ∷ Cnot 1 7 ∷ Toffoli 0 2 8 ∷ Cnot 2 6 ∷ Cnot 0 6 ∷ []
add_steps = refl

add_length : length (steps_of add) ≡ 14
add_length = refl

-- whether a word of width 2 is 3
abbrev is_three : TypedWords
is_three = record {
  params = 2 ∷ [];
  binds = [];
  returned = record { width = 1; node = PureTyped.chain 2 (PureTyped.word 0) (PureTypedLinks.link op.Eq 2 (PureTyped.literal 3) PureTypedLinks.no_links) };
}

is_three_starts : take 3 (steps_of is_three) ≡ X 3 ∷ X 4 ∷ Cnot 0 5 ∷ []
is_three_starts = refl
