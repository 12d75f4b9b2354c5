use Rattle.std.proofs.Common.{refl}
use Rattle.sc_words.proofs.words.ask.cancel_request.Goals as goal

pub returns : goal.returns
returns c = λ mode pieces values are.
    rw (c.choice_of.ensures mode pieces are, c.stands.ensures mode pieces are, c.stands-2.ensures mode pieces are, c.stands-3.ensures mode pieces are, c.stands-4.ensures mode pieces are) refl
