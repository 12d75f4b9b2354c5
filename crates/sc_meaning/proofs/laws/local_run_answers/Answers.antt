use Rattle.sc_meaning.proofs.Answered.{local_answers}
use Rattle.sc_meaning.proofs.laws.local_run_answers.Goals as goal

pub returns : goal.returns
returns c = local_answers
