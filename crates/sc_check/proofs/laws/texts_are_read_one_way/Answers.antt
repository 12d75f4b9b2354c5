use Rattle.sc_check.proofs.TextLaws.{one_schedule_of, no_bad_line, one_bad_line}
use Rattle.sc_check.proofs.laws.texts_are_read_one_way.Goals as goal

pub returns : goal.returns
returns c = record { one = one_schedule_of; apart = no_bad_line; first = one_bad_line }
