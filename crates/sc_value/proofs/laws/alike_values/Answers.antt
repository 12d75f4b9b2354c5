use Rattle.sc_value.proofs.AgreementLaws.{one_value}
use Rattle.sc_value.proofs.laws.alike_values.Goals as goal

pub returns : goal.returns
returns c = one_value
