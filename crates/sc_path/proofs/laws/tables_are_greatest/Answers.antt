use Rattle.sc_path.proofs.LawLemmas.{table_chains, table_outside}
use Rattle.sc_path.proofs.laws.tables_are_greatest.Goals as goal

pub returns : goal.returns
returns c = record { chains = table_chains; outside = table_outside }
