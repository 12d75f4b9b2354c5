-- The pieces of a source. Each is the longest that stands at its place.
use Rattle.std.specs.Prelude.{ℕ, ◌≡◌, ◌≤◌, ◌<◌, ◌^◌, Bool, true, false, ◌&&◌, ◌||◌, ◌==◌, List, [], ◌∷◌, ◌++◌, length, pos, codes}
use Rattle.std.specs.List.{list_all}
use Rattle.std.specs.Str.Parse.{IsNumeral, digits_value}
use Rattle.sc_base.specs.Decimals.{IsDecimal}
use Rattle.sc_base.specs.GateNames.{gate_text}
use Rattle.sc_base.specs.NameTexts.{continues_name, IsNameText}
use Rattle.sc_syntax.specs.declared.piece.PieceKind.{PieceKind}
use Rattle.sc_syntax.specs.declared.piece.PieceKind.TheVariants.{Space, LineComment, BlockComment, OpenComment, Directive, Word, Number, Sign}
use Rattle.sc_syntax.specs.declared.token.Mark.{Mark}
use Rattle.sc_syntax.specs.declared.token.TokenSort.{TokenSort}
use Rattle.sc_syntax.specs.declared.token.TokenSort.TheVariants as sort
use Rattle.sc_syntax.specs.Bytes.{is_digit}
use Rattle.sc_syntax.specs.Marks.{mark_text}
use Rattle.sc_syntax.specs.Reserved.{word_text, IsReserved}
use Rattle.sc_syntax.specs.Spaces.{is_white, is_inline}

-- a byte of the first class, and then bytes of the second
abbrev pub IsRun : (ℕ → Bool) → (ℕ → Bool) → List ℕ → Type 0
IsRun first next [] = ⊥
IsRun first next (c ∷ cs) = (first c ≡ true) × (list_all next cs ≡ true)

-- no `*/` stands in the bytes
abbrev pub HasNoEnd : List ℕ → Type 0
HasNoEnd bytes = (front back : List ℕ) → front ++ codes "*/" ++ back ≡ bytes → ⊥

-- the bytes begin with a digit
abbrev pub begins_digit : List ℕ → Bool
begins_digit [] = false
begins_digit (c ∷ cs) = is_digit c

-- the bytes begin with a digit, or with a point before a digit
abbrev pub begins_number : List ℕ → Bool
begins_number [] = false
begins_number (c ∷ cs) = is_digit c || (c == 46 && begins_digit cs)

-- what may follow in a number: whatever may follow in a name, and a point
abbrev pub is_number : ℕ → Bool
is_number c = continues_name c || c == 46

-- the beginning of a number, and then letters, digits, `_` and points
abbrev pub IsNumberText : List ℕ → Type 0
IsNumberText [] = ⊥
IsNumberText (c ∷ cs) = (begins_number (c ∷ cs) ≡ true) × (list_all is_number cs ≡ true)

-- What a piece of each kind is. A directive stands only where its line begins.
abbrev pub IsPiece : Bool → PieceKind → List ℕ → Type 0
IsPiece fresh Space piece = IsRun is_white is_white piece
IsPiece fresh LineComment piece = (text : List ℕ) × (codes "//" ++ text ≡ piece) × (list_all is_inline text ≡ true)
IsPiece fresh BlockComment piece = (text : List ℕ) × (codes "/*" ++ text ++ codes "*/" ≡ piece) × HasNoEnd (text ++ codes "*")
IsPiece fresh OpenComment piece = (text : List ℕ) × (codes "/*" ++ text ≡ piece) × HasNoEnd text
IsPiece fresh Directive piece = (fresh ≡ true) × ((line : List ℕ) × (codes "#" ++ line ≡ piece) × (list_all is_inline line ≡ true))
IsPiece fresh Word piece = IsNameText piece
IsPiece fresh Number piece = IsNumberText piece
IsPiece fresh Sign piece = (m : Mark) × (mark_text m ≡ piece)

-- the longest piece that stands before the rest
pub record IsNext (fresh : Bool) (kind : PieceKind) (piece rest : List ℕ) : Type 0 where
  pub is_piece : IsPiece fresh kind piece
  pub is_longest : (other : PieceKind) (q r : List ℕ) → IsPiece fresh other q → q ++ r ≡ piece ++ rest → length q ≤ length piece

-- no piece stands here
abbrev pub IsStuck : Bool → List ℕ → Type 0
IsStuck fresh bytes = (kind : PieceKind) (piece rest : List ℕ) → IsPiece fresh kind piece → piece ++ rest ≡ bytes → ⊥

-- a reserved word is read as itself, and every other word as a name
abbrev pub IsWordSort : List ℕ → TokenSort → Type 0
IsWordSort text (sort.Word w) = word_text w ≡ text
IsWordSort text (sort.Gate g) = gate_text g ≡ text
IsWordSort text sort.Name = IsReserved text → ⊥
IsWordSort text _ = ⊥

-- digits alone, of a value below 2^63
abbrev pub IsIntText : List ℕ → Type 0
IsIntText text = IsNumeral 10 text × (digits_value 10 text < 2 ^ 63)

-- digits alone are read as their value, and digits with one point as units of 10^-12; either is below 2^63
abbrev pub IsNumberSort : List ℕ → TokenSort → Type 0
IsNumberSort text (sort.Int n) = IsIntText text × (n ≡ pos (digits_value 10 text))
IsNumberSort text (sort.Decimal d) = (units : ℕ) × IsDecimal text units × (units < 2 ^ 63) × (d.0 ≡ pos units)
IsNumberSort text _ = ⊥

-- a mark is read as itself
abbrev pub IsMarkSort : List ℕ → TokenSort → Type 0
IsMarkSort text (sort.Mark m) = mark_text m ≡ text
IsMarkSort text _ = ⊥

-- which token a piece is; white space, comments and directives are none
abbrev pub IsReadAs : PieceKind → List ℕ → TokenSort → Type 0
IsReadAs Word text sort = IsWordSort text sort
IsReadAs Number text sort = IsNumberSort text sort
IsReadAs Sign text sort = IsMarkSort text sort
IsReadAs _ text sort = ⊥
