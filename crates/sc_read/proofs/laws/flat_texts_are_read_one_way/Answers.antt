use Rattle.sc_read.proofs.FlatBody.{one_flat_text, no_bad_flat_line, not_too_many_gates, bad_or_too_many, one_bad_flat_line}
use Rattle.sc_read.proofs.laws.flat_texts_are_read_one_way.Goals as goal

pub returns : goal.returns
returns c = record { one = one_flat_text; no_bad_line = no_bad_flat_line; not_too_many = not_too_many_gates; apart = bad_or_too_many; first = one_bad_flat_line }
