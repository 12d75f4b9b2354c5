-- Whether one of some terminals takes a token.
use Rattle.std.proofs.Common.{◌≡◌, refl, ap, Bool, ◌||◌, List, [], ◌∷◌}
use Rattle.std.specs.List.{list_any}
use Rattle.sc_parse.specs.declared.terminal.Terminal.{Terminal}
use Rattle.sc_parse.specs.Terminals.{fits}
use Rattle.sc_parse.specs.Runs.{among}

pub any_fits : (h : Terminal) (ks : List Terminal) → list_any (λ k. fits k h) ks ≡ among ks h
any_fits h [] = refl
any_fits h (k ∷ ks) = ap (λ (b : Bool). fits k h || b) (any_fits h ks)
