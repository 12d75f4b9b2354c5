use Rattle.std.proofs.Common.{refl}
use Rattle.sc_words.proofs.words.ask.coarse_request.Goals as goal

pub returns : goal.returns
returns c = λ mode pieces are. rw (c.in-Some-Some.is-0, c.in-Some-Some.is-1, c.choice_of.ensures mode pieces are, c.unwrap_or.ensures) refl
