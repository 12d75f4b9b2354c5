-- What main answers in local numbers, of a source that the checks accept.
use Rattle.sc_meaning.specs.Answers.{LocalAnswers}
use Rattle.sc_meaning.specs.Programs.{program_of}
use Rattle.sc_meaning.proofs.Fitting.{accepted_fits, main_of}
use Rattle.sc_meaning.proofs.Top.{answer_is}

pub local_answers : LocalAnswers
local_answers t main accepted is_main distinct choice = answer_is choice (program_of t) _ (accepted_fits t accepted) (main_of t main accepted is_main distinct)
