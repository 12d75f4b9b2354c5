use Rattle.sc_open.proofs.StageLaws.{one_open_text, no_bad_open_line, one_bad_open_line}
use Rattle.sc_open.proofs.laws.open_texts_are_read_one_way.Goals as goal

pub returns : goal.returns
returns c = record { one = one_open_text; no_bad_line = no_bad_open_line; first = one_bad_open_line }
