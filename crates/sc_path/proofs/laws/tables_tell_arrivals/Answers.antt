use Rattle.sc_path.proofs.LawLemmas.{table_arrivals}
use Rattle.sc_path.proofs.laws.tables_tell_arrivals.Goals as goal

pub returns : goal.returns
returns c = table_arrivals
