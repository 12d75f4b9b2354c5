use Rattle.sc_deck.proofs.CallLaws.{CallsFit-more, CallEarlier-at, is_called-iff, key_number}
use Rattle.sc_deck.proofs.laws.calls_are_of_earlier_modules.Goals as goal

pub returns : goal.returns
returns c = record {
  longer = CallsFit-more;
  earlier = λ modules deck. CallEarlier-at modules deck.calls;
  called = is_called-iff;
  key = key_number;
}
