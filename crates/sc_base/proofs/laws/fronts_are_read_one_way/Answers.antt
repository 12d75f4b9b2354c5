use Rattle.sc_base.proofs.NumeralLemmas.{whole_one_way, int_one_way, number_unique, number_line_one_way}
use Rattle.sc_base.proofs.FixedLemmas.{fixed_one_way}
use Rattle.sc_base.proofs.laws.fronts_are_read_one_way.Goals as goal

pub returns : goal.returns
returns c = record { whole = whole_one_way; int = int_one_way; fixed = fixed_one_way; number = number_unique; line = number_line_one_way }
