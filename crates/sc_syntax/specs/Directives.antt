-- Directives, and the names that they define.
use Rattle.std.specs.Prelude.{ℕ, ◌≡◌, ◌≢◌, ◌+◌, ◌<◌, Bool, true, false, ◌⊎◌, if◌then◌else◌, List, [], ◌∷◌, ◌++◌, length, take, drop, slice_range, count_by, All, Option, Some, None, codes}
use Rattle.std.specs.List.{prefix_len}
use Rattle.sc_base.specs.NameTexts.{continues_name}
use Rattle.sc_base.specs.Texts.{same}
use Rattle.sc_base.specs.declared.Place.{Place}
use Rattle.sc_syntax.specs.declared.piece.PieceKind.{PieceKind}
use Rattle.sc_syntax.specs.declared.piece.PieceKind.TheVariants.{Space, LineComment, BlockComment}
use Rattle.sc_syntax.specs.declared.token.Mark.TheVariants as mark
use Rattle.sc_syntax.specs.declared.token.Token.{Token}
use Rattle.sc_syntax.specs.declared.token.TokenSort.{TokenSort}
use Rattle.sc_syntax.specs.declared.token.TokenSort.TheVariants as sort
use Rattle.sc_syntax.specs.Pieces.{IsNext, IsReadAs}
use Rattle.sc_syntax.specs.Spaces.{is_blank}
use Rattle.sc_syntax.specs.TokenLists.{text_of}

-- the token of a piece that stands behind some bytes
abbrev pub token_at : Place → List ℕ → List ℕ → TokenSort → Token
token_at place before piece sort = record { sort = sort; place = place; start = length before; end = length before + length piece }

-- which tokens a piece is: white space and comments are none, and a word, a number or a mark is one
abbrev pub IsScanned : PieceKind → Place → List ℕ → List ℕ → List Token → Type 0
IsScanned Space place before piece tokens = tokens ≡ []
IsScanned LineComment place before piece tokens = tokens ≡ []
IsScanned BlockComment place before piece tokens = tokens ≡ []
IsScanned kind place before piece tokens = (sort : TokenSort) × IsReadAs kind piece sort × (tokens ≡ token_at place before piece sort ∷ [])

-- Where the bytes before were read as the tokens so far, the bytes that are left, which belong to a directive, are
-- read as all these tokens. Each token has the place of the directive.
pub data Scans (place : Place) : List ℕ → List Token → List ℕ → List Token → Type 0 where
  at_end : (before : List ℕ) (tokens : List Token) → Scans place before tokens [] tokens
  after_piece : (before : List ℕ) (tokens : List Token) (bytes : List ℕ) (all : List Token) (kind : PieceKind) (piece rest : List ℕ) (new : List Token)
      → piece ++ rest ≡ bytes
      → IsNext false kind piece rest
      → IsScanned kind place before piece new
      → Scans place (before ++ piece) (tokens ++ new) rest all
      → Scans place before tokens bytes all

-- the defined names with the tokens of their values
abbrev pub Names : Type 0
Names = List ℕ → Option (List Token)

abbrev pub no_names : Names
no_names text = None

-- one name more
abbrev pub with_name : Names → List ℕ → List Token → Names
with_name names name value text = if same name text then Some value else names text

abbrev pub is_name : TokenSort → Bool
is_name sort.Name = true
is_name _ = false

abbrev pub is_value_number : TokenSort → Bool
is_value_number (sort.Int n) = true
is_value_number (sort.Decimal d) = true
is_value_number _ = false

abbrev pub is_minus : TokenSort → Bool
is_minus (sort.Mark mark.Minus) = true
is_minus _ = false

abbrev pub is_open : TokenSort → Bool
is_open (sort.Mark mark.OpenParen) = true
is_open _ = false

abbrev pub is_close : TokenSort → Bool
is_close (sort.Mark mark.CloseParen) = true
is_close _ = false

-- how many opening and closing parentheses there are
abbrev pub opened : List Token → ℕ
opened tokens = count_by (λ t. is_open t.sort) tokens

abbrev pub closed : List Token → ℕ
closed tokens = count_by (λ t. is_close t.sort) tokens

-- The tokens stand in one pair of parentheses: as many are opened as closed, and up to each token before the last
-- more are opened than closed.
pub record IsEnclosed (tokens : List Token) : Type 0 where
  pub some : 0 < opened tokens
  pub balanced : closed tokens ≡ opened tokens
  pub within : (i : ℕ) → 0 < i → i < length tokens → closed (take i tokens) < opened (take i tokens)

-- a number, or a minus and a number
abbrev pub IsNumberValue : List Token → Type 0
IsNumberValue (number ∷ []) = is_value_number number.sort ≡ true
IsNumberValue (minus ∷ number ∷ []) = (is_minus minus.sort ≡ true) × (is_value_number number.sort ≡ true)
IsNumberValue _ = ⊥

-- where a token is a name, it is neither defined before nor the name that is being defined
abbrev pub IsFree : List ℕ → Names → List ℕ → Token → Type 0
IsFree source names own token = is_name token.sort ≡ true → (names (text_of source token) ≡ None) × (own ≢ text_of source token)

-- what a name may stand for: a number, perhaps with a minus, or tokens in parentheses without a defined name
abbrev pub IsValue : List ℕ → Names → List ℕ → List Token → Type 0
IsValue source names own value = IsNumberValue value ⊎ (IsEnclosed value × All (IsFree source names own) value)

-- a name that is not defined yet, and its value
abbrev pub IsDefinition : List ℕ → Names → List Token → Type 0
IsDefinition source names [] = ⊥
IsDefinition source names (name ∷ value) =
    (is_name name.sort ≡ true) × (names (text_of source name) ≡ None) × IsValue source names (text_of source name) value

-- the defined names behind a definition
abbrev pub names_behind : List ℕ → Names → List Token → Names
names_behind source names [] = names
names_behind source names (name ∷ value) = with_name names (text_of source name) value

-- bytes that are left of a directive hold a definition, and these are the names behind it
pub record Defines (source : List ℕ) (names : Names) (place : Place) (before bytes : List ℕ) (after : Names) : Type 0 where
  pub tokens : List Token
  pub scanned : Scans place before [] bytes tokens
  pub is_definition : IsDefinition source names tokens
  pub defined : after ≡ names_behind source names tokens

-- the word of a directive stands behind its `#` and any spaces and tabs
abbrev pub word_start : List ℕ → ℕ
word_start piece = 1 + prefix_len is_blank (drop 1 piece)

abbrev pub word_end : List ℕ → ℕ
word_end piece = word_start piece + prefix_len continues_name (drop (word_start piece) piece)

abbrev pub directive_word : List ℕ → List ℕ
directive_word piece = slice_range piece (word_start piece) (word_end piece)

-- what a directive does to the defined names: an include nothing, and a define adds one
abbrev pub Directs : List ℕ → Names → Place → List ℕ → List ℕ → Names → Type 0
Directs source names place before piece after =
    ((directive_word piece ≡ codes "include") × (after ≡ names))
    ⊎ ((directive_word piece ≡ codes "define") × Defines source names place (before ++ take (word_end piece) piece) (drop (word_end piece) piece) after)

-- a token at the place of a use
abbrev pub placed : Place → Token → Token
placed place token = record token { place = place }
