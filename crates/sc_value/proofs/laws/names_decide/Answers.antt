use Rattle.sc_value.proofs.AgreementLaws.{kind_of_its_names, value_of_its_names}
use Rattle.sc_value.proofs.laws.names_decide.Goals as goal

pub returns-clause-kind : goal.returns-clause-kind
returns-clause-kind c = kind_of_its_names

pub returns-clause-value : goal.returns-clause-value
returns-clause-value c = value_of_its_names
