use Rattle.sc_deck.proofs.CallLaws.{IsCallChain-push, IsCallChain-short}
use Rattle.sc_deck.proofs.laws.call_chains_grow.Goals as goal

pub returns : goal.returns
returns c = record { more = IsCallChain-push; short = IsCallChain-short }
