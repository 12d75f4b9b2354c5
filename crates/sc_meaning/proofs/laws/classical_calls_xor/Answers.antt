use Rattle.sc_meaning.proofs.ClassicalLaws.{calls_xor}
use Rattle.sc_meaning.proofs.laws.classical_calls_xor.Goals as goal

pub returns : goal.returns
returns c = calls_xor
