-- Keys that are entered.
use Rattle.std.proofs.Common.{◌≡◌, Bool, false, cond, List, [], ◌∷◌, ◌++◌, ap}
use Rattle.std.specs.List.{list_any}
use Rattle.sc_deck.specs.declared.key.Key.{Key}
use Rattle.sc_deck.specs.Keys.{same_key}
use Rattle.sc_meaning.specs.Instances.{with_key}

pub with_key_new : (keys : List Key) (key : Key) → list_any (same_key key) keys ≡ false → with_key keys key ≡ keys ++ key ∷ []
with_key_new keys key h = ap (λ (b : Bool). cond b keys (keys ++ key ∷ [])) h
