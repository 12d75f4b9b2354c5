-- Sources: tokens in the grammar, and where they leave it.
use Rattle.std.specs.Prelude.{◌≡◌, ◌≢◌, ℕ, zero, suc, ◌+◌, ◌≤◌, ◌<◌, length, take, List, [], ◌∷◌, ◌++◌}
use Rattle.sc_base.specs.declared.Place.{Place}
use Rattle.sc_syntax.specs.declared.Token.{Token}
use Rattle.sc_syntax.specs.declared.Source.{Source}
use Rattle.sc_syntax.specs.Alike.{Alike}
use Rattle.sc_syntax.specs.Lexing.{place_after}
use Rattle.sc_parse.specs.declared.source.ParseFault.{ParseFault}
use Rattle.sc_parse.specs.declared.source.ParseFault.TheVariants.{Syntax, TooNested, Memory}
use Rattle.sc_parse.specs.Rules.{source}
use Rattle.sc_parse.specs.Pieces.{Piece, pieces}
use Rattle.sc_parse.specs.Phrase.{Marked, bare, Phrase, Front}
use Rattle.sc_parse.specs.Trees.{part, each}
use Rattle.sc_parse.specs.Derives.{Derives}

-- how deep tokens may be nested
abbrev pub most_nested : ℕ
most_nested = 128

-- no token is nested deeper than that
abbrev pub IsShallow : List Marked → Type 0
IsShallow [] = Unit {0}
IsShallow (x ∷ xs) = (x.depth ≤ most_nested) × IsShallow xs

-- the tokens are a source
abbrev pub IsSource : List Piece → Type 0
IsSource ts = (xs : List Marked) × (bare xs ≡ ts) × Phrase source 0 xs []

-- the tokens begin a source
abbrev pub BeginsSource : List Piece → Type 0
BeginsSource ts = (xs : List Marked) × (bare xs ≡ ts) × Front source 0 xs

-- the tokens are a source in which none is nested too deep
abbrev pub IsAccepted : List Piece → Type 0
IsAccepted ts = (xs : List Marked) × (bare xs ≡ ts) × Phrase source 0 xs [] × IsShallow xs

-- The tokens are no source. The first with which they begin none stands at p, or p is the end. None before p is nested too deep.
pub record IsSyntax (ts : List Piece) (p : ℕ) : Type 0 where
  pub within : p ≤ length ts
  pub before : (xs : List Marked) × (bare xs ≡ take p ts) × Front source 0 xs × IsShallow xs
  pub no_further : p < length ts → BeginsSource (take (p + 1) ts) → ⊥
  pub no_source : IsSource ts → ⊥

-- The first token that is nested too deep stands at p, and the tokens up to it begin a source.
pub record IsTooNested (ts : List Piece) (p : ℕ) : Type 0 where
  pub within : p < length ts
  pub there : (xs : List Marked) × (x : Marked) × (bare (xs ++ x ∷ []) ≡ take (p + 1) ts) × Front source 0 (xs ++ x ∷ []) × IsShallow xs × (most_nested < x.depth)
  pub not_accepted : IsAccepted ts → ⊥

-- the place of the token at p, or behind the last byte
abbrev pub place_at : List ℕ → List Token → ℕ → Place
place_at text [] p = place_after text
place_at text (t ∷ ts) zero = t.place
place_at text (t ∷ ts) (suc p) = place_at text ts p

-- why the tokens are refused
abbrev pub IsFault : List ℕ → List Token → ParseFault → Type 0
IsFault text tokens (Syntax place) = (p : ℕ) × IsSyntax (pieces text tokens) p × (place ≡ place_at text tokens p)
IsFault text tokens (TooNested place) = (p : ℕ) × IsTooNested (pieces text tokens) p × (place ≡ place_at text tokens p)
IsFault text tokens Memory = Unit {0}

-- the tokens derive this tree
abbrev pub IsTreeOf : List ℕ → List Token → Source → Type 0
IsTreeOf text tokens tree = Derives source (pieces text tokens) [] (each part tree.parts)

-- as the beginning of a source, tokens have at most one list of nestings
abbrev pub HasOneNesting : Type 0
HasOneNesting = (xs ys : List Marked) → Front source 0 xs → Front source 0 ys → bare xs ≡ bare ys → xs ≡ ys

-- tokens have at most one tree, wherever it lies in memory
abbrev pub HasOneTree : Type 0
HasOneTree = (text : List ℕ) (tokens : List Token) (a b : Source) → IsTreeOf text tokens a → IsTreeOf text tokens b → Alike a b

-- the tokens are refused for this reason, which is not that memory ran out
pub record IsRefused (text : List ℕ) (tokens : List Token) (fault : ParseFault) : Type 0 where
  pub has : IsFault text tokens fault
  pub known : fault ≢ Memory

-- tokens are refused for one reason at most, and for none where they are in the grammar
pub record HasOneFault : Type 0 where
  pub one : (text : List ℕ) (tokens : List Token) (a b : ParseFault) → IsRefused text tokens a → IsRefused text tokens b → a ≡ b
  pub or_accepted : (text : List ℕ) (tokens : List Token) (fault : ParseFault) → IsRefused text tokens fault → IsAccepted (pieces text tokens) → ⊥
