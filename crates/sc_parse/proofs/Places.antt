-- Places of tokens.
use Rattle.std.proofs.Common.{◌≡◌, refl, ap, ℕ, zero, suc, ◌≤◌, ◌<◌, List, [], ◌∷◌, length, get_or, arith}
use Rattle.sc_syntax.specs.declared.Token.{Token}
use Rattle.sc_syntax.specs.Lexing.{place_after}
use Rattle.sc_parse.specs.Grammar.{place_at}

-- the place of a token that stands there, read with itself in place of a default
pub place_there : (text : List ℕ) (tokens : List Token) (a : ℕ) (t : Token) → a < length tokens → t ≡ get_or tokens a t → t.place ≡ place_at text tokens a
place_there text [] a t lt e = absurd (omega arith)
place_there text (x ∷ ts) zero t lt e = ap (λ (y : Token). y.place) e
place_there text (x ∷ ts) (suc a) t lt e = place_there text ts a t (omega arith) e

pub place_past : (text : List ℕ) (tokens : List Token) (a : ℕ) → length tokens ≤ a → place_at text tokens a ≡ place_after text
place_past text [] a le = refl
place_past text (x ∷ ts) zero le = absurd (omega arith)
place_past text (x ∷ ts) (suc a) le = place_past text ts a (omega arith)
