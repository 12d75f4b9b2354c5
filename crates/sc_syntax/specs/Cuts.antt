-- Words of the code that cuts a source.
use Rattle.std.specs.Prelude.{ℕ, ◌≡◌, ◌<◌, ◌≤◌, Bool, List, [], ◌∷◌, ◌++◌, length, take, drop, slice_index, slice_range, Some, ◌⊎◌, All}
use Rattle.std.specs.Option.{option_map}
use Rattle.std.specs.BTreeMap.{get_by}
use Rattle.std.specs.Cmp.Lexicographic.{slice_cmp}
use Rattle.std.specs.Ordering.{nat_cmp}
use Rattle.sc_base.specs.NameTexts.{continues_name}
use Rattle.sc_base.specs.declared.Place.{Place}
use Rattle.sc_syntax.specs.declared.define.Defined.{Defined}
use Rattle.sc_syntax.specs.declared.fault.LexFault.{LexFault}
use Rattle.sc_syntax.specs.declared.fault.LexFault.TheVariants as faults
use Rattle.sc_syntax.specs.declared.lexing.Found.{Found}
use Rattle.sc_syntax.specs.declared.piece.Class.{Class}
use Rattle.sc_syntax.specs.declared.piece.Class.TheVariants as class
use Rattle.sc_syntax.specs.declared.piece.PieceKind.{PieceKind}
use Rattle.sc_syntax.specs.declared.piece.PieceKind.TheVariants.{Space, LineComment, BlockComment}
use Rattle.sc_syntax.specs.declared.reading.Reading.{Reading}
use Rattle.sc_syntax.specs.declared.reading.Reading.TheVariants.{Passed, Read, Unread}
use Rattle.sc_syntax.specs.declared.token.Mark.{Mark}
use Rattle.sc_syntax.specs.declared.token.Token.{Token}
use Rattle.sc_syntax.specs.declared.token.TokenSort.{TokenSort}
use Rattle.sc_syntax.specs.Directives.{Names}
use Rattle.sc_syntax.specs.Lexing.{Gives, fault_of, place_after}
use Rattle.sc_syntax.specs.Marks.{mark_text}
use Rattle.sc_syntax.specs.Pieces.{is_number, IsPiece, IsReadAs}
use Rattle.sc_syntax.specs.Spaces.{is_white, is_blank, is_inline, begins_line}
use Rattle.sc_base.specs.Limits.{most_tokens}
use Rattle.sc_syntax.specs.TokenLists.{IsRead}

abbrev pub in_class : Class → ℕ → Bool
in_class class.White = is_white
in_class class.Blank = is_blank
in_class class.Line = is_inline
in_class class.Word = continues_name
in_class class.Number = is_number

-- the first two bytes
abbrev pub BeginsWith : List ℕ → ℕ → ℕ → Type 0
BeginsWith text first second = (1 < length text) × (slice_index text 0 ≡ first) × (slice_index text 1 ≡ second)

-- no mark stands at the front of the text
abbrev pub HasNoMark : List ℕ → Type 0
HasNoMark text = (m : Mark) (rest : List ℕ) → mark_text m ++ rest ≡ text → ⊥

-- the longest mark at the front of the text has n bytes
abbrev pub IsLongestMark : List ℕ → ℕ → Type 0
IsLongestMark text n = ((m : Mark) × (mark_text m ≡ take n text)) × ((m : Mark) (rest : List ℕ) → mark_text m ++ rest ≡ text → length (mark_text m) ≤ n)

-- white space and comments
abbrev pub IsGap : PieceKind → Type 0
IsGap Space = Unit {0}
IsGap LineComment = Unit {0}
IsGap BlockComment = Unit {0}
IsGap _ = ⊥

-- what the code reads a piece as
abbrev pub IsReading : PieceKind → List ℕ → Reading → Type 0
IsReading kind text Passed = IsGap kind
IsReading kind text (Read sort) = IsReadAs kind text sort
IsReading kind text Unread = (IsGap kind → ⊥) × ((sort : TokenSort) → IsReadAs kind text sort → ⊥)

-- the tokens of a reading
abbrev pub tokens_of : Reading → Place → ℕ → ℕ → List Token
tokens_of Passed place start end = []
tokens_of (Read sort) place start end = record { sort = sort; place = place; start = start; end = end } ∷ []
tokens_of Unread place start end = []

-- the reading can be added to the tokens
abbrev pub IsAddable : Reading → List Token → Type 0
IsAddable Passed tokens = Unit {0}
IsAddable (Read sort) tokens = length tokens < most_tokens
IsAddable Unread tokens = ⊥

-- why a reading at a place is not added to the tokens
abbrev pub IsNotAdded : Reading → LexFault → Place → List Token → LexFault → Type 0
IsNotAdded Passed unread place tokens fault = ⊥
IsNotAdded (Read sort) unread place tokens fault = (most_tokens ≤ length tokens) × (fault ≡ faults.TooManyTokens place)
IsNotAdded Unread unread place tokens fault = fault ≡ unread

-- the names that the table holds
abbrev pub names_of : Defined → Names
names_of defined text = option_map (λ value. drop 1 value) (get_by (λ k. slice_cmp nat_cmp text k.now) defined.values)

-- the tokens of each value were read from the source
abbrev pub AreValues : List ℕ → Names → Type 0
AreValues source names = (text : List ℕ) (value : List Token) → names text ≡ Some value → All (IsRead source) value

-- the piece stands in the source: it is one behind the bytes before it, and its place is known
pub record Stands (source : List ℕ) (found : Found) : Type 0 where
  pub ordered : found.start < found.end
  pub within : found.end ≤ length source
  pub is_piece : IsPiece (begins_line (take found.start source)) found.kind (slice_range source found.start found.end)
  pub place_is : found.place ≡ place_after (take found.start source)

-- what a piece of the source does to the names and the tokens
pub record TakesPiece (source : List ℕ) (kind : PieceKind) (start end : ℕ) (names : Names) (tokens : List Token) (after : Names) (more : List Token) : Type 0 where
  pub new : List Token
  pub gives : Gives source names kind (take start source) (slice_range source start end) new after
  pub grows : more ≡ tokens ++ new
  pub few : length more ≤ most_tokens

-- the piece gives nothing, or more tokens than a source may have
abbrev pub RefusesPiece : List ℕ → PieceKind → Place → ℕ → ℕ → Names → List Token → LexFault → Type 0
RefusesPiece source kind place start end names tokens fault =
    ((fault ≡ fault_of kind place) × ((new : List Token) (after : Names) → Gives source names kind (take start source) (slice_range source start end) new after → ⊥))
    ⊎ ((new : List Token) × ((after : Names) × (Gives source names kind (take start source) (slice_range source start end) new after × (most_tokens < length (tokens ++ new)) × (fault ≡ faults.TooManyTokens place))))
