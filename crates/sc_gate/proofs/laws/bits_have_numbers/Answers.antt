use Rattle.sc_gate.proofs.laws.bits_have_numbers.Goals as goal
use Rattle.sc_gate.proofs.BitNumbers.{number_below, number_one_to_one, number-xors, bit_at-get_or, xor_at-set}

pub returns : goal.returns
returns c = record { below = number_below; one = number_one_to_one; xor = number-xors; item = bit_at-get_or; set = xor_at-set }
