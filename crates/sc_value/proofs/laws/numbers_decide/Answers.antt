use Rattle.sc_value.proofs.AgreementLaws.{uses_numbers, kind_of_its_values}
use Rattle.sc_value.proofs.laws.numbers_decide.Goals as goal

pub returns-clause-uses : goal.returns-clause-uses
returns-clause-uses c = uses_numbers

pub returns-clause-kind : goal.returns-clause-kind
returns-clause-kind c = kind_of_its_values
