-- Lists of tokens that were read from a source.
use Rattle.std.specs.Prelude.{ℕ, ◌≤◌, List, length, slice_range, All}
use Rattle.sc_base.specs.Limits.{most_tokens}
use Rattle.sc_syntax.specs.declared.token.Token.{Token}
use Rattle.sc_syntax.specs.declared.token.TokenSort.{TokenSort}
use Rattle.sc_syntax.specs.declared.token.TokenSort.TheVariants.{Word, Gate, Name, Int, Decimal, Mark}
use Rattle.sc_syntax.specs.Names.{IsName}
use Rattle.sc_syntax.specs.Written.{IsWritten}

-- the slice of the source that the token was read from
abbrev pub text_of : List ℕ → Token → List ℕ
text_of source token = slice_range source token.start token.end

-- a name was read from a name, and a number is one that may be written
abbrev pub FitsText : TokenSort → List ℕ → Type 0
FitsText Name text = IsName text
FitsText (Int n) text = IsWritten n
FitsText (Decimal d) text = IsWritten d.0
FitsText (Word w) text = Unit {0}
FitsText (Gate g) text = Unit {0}
FitsText (Mark m) text = Unit {0}

-- the token's slice lies in the source, and fits the token
pub record IsRead (source : List ℕ) (token : Token) : Type 0 where
  pub ordered : token.start ≤ token.end
  pub within : token.end ≤ length source
  pub fits : FitsText token.sort (text_of source token)

-- tokens as the lexer hands them on: each fits its slice of the source, and they are no more than a source may have
pub record AreRead (source : List ℕ) (tokens : List Token) : Type 0 where
  pub each : All (IsRead source) tokens
  pub count : length tokens ≤ most_tokens
