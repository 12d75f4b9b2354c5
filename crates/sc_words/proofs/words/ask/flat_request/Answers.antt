use Rattle.std.proofs.Common.{refl}
use Rattle.sc_words.proofs.words.ask.flat_request.Goals as goal

pub returns : goal.returns
returns c = λ mode pieces are.
    rw (c.choice_of.ensures mode pieces are, c.unwrap_or.ensures, c.stands.ensures mode pieces are, c.stands-2.ensures mode pieces are, c.stands-3.ensures mode pieces are, c.stands-4.ensures mode pieces are) refl
