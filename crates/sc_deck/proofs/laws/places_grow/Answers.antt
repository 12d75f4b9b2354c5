use Rattle.sc_deck.proofs.PlaceLaws.{placed-before, placed-fresh, of_class-same, of_class-other, Sized-params}
use Rattle.sc_deck.proofs.laws.places_grow.Goals as goal

pub returns : goal.returns
returns c = record { before = placed-before; fresh = placed-fresh; same = of_class-same; other = of_class-other; params = Sized-params }
