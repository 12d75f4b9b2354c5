-- What a piece is read as.
use Rattle.std.proofs.Common.{ℕ, ◌≡◌, ◌≢◌, refl, sym, ap, ◌∙◌, ◌+◌, ◌≤◌, Bool, List, [], ◌∷◌, ◌++◌, length, arith}
use Rattle.std.proofs.lemmas.Int.{ints}
use Rattle.std.proofs.lemmas.List.{length_push, append-nil}
use Rattle.sc_base.specs.declared.Place.{Place}
use Rattle.sc_syntax.specs.declared.piece.PieceKind.{PieceKind}
use Rattle.sc_syntax.specs.declared.piece.PieceKind.TheVariants.{Space, LineComment, BlockComment, Word, Number, Sign}
use Rattle.sc_syntax.specs.declared.reading.Reading.{Reading}
use Rattle.sc_syntax.specs.declared.reading.Reading.TheVariants.{Passed, Read, Unread}
use Rattle.sc_syntax.specs.declared.token.Token.{Token}
use Rattle.sc_syntax.specs.declared.token.TokenSort.{TokenSort}
use Rattle.sc_syntax.specs.declared.token.TokenSort.TheVariants as sort
use Rattle.sc_syntax.specs.Cuts.{IsReading, IsAddable, tokens_of}
use Rattle.sc_syntax.specs.Directives.{token_at, IsScanned}
use Rattle.sc_syntax.specs.Pieces.{IsPiece, IsReadAs, IsWordSort, IsNumberSort, IsMarkSort}
use Rattle.sc_base.specs.Limits.{most_tokens}
use Rattle.sc_syntax.specs.TokenLists.{FitsText}
use Rattle.sc_syntax.proofs.MarkTable.{one_mark_text}
use Rattle.sc_syntax.proofs.NumberSorts.{one_number_sort}
use Rattle.sc_syntax.proofs.ReservedTable.{one_word_sort}

-- a piece that stands behind the bytes before it
pub record StandsAt (before piece : List ℕ) (start end : ℕ) : Type 0 where
  pub start_is : start ≡ length before
  pub end_is : end ≡ length before + length piece

token_is : (before piece : List ℕ) (place : Place) (start end : ℕ) (s : TokenSort) → StandsAt before piece start end
    → tokens_of (Read s) place start end ≡ token_at place before piece s ∷ []
token_is before piece place start end s h = rw (h.start_is, h.end_is) refl

-- the token of a reading is the one that the piece is
pub scans_token : (kind : PieceKind) (s : TokenSort) (before piece : List ℕ) (place : Place) (start end : ℕ)
    → IsReadAs kind piece s → StandsAt before piece start end → IsScanned kind place before piece (tokens_of (Read s) place start end)
scans_token Word s before piece place start end r h = (s, r, token_is before piece place start end s h)
scans_token Number s before piece place start end r h = (s, r, token_is before piece place start end s h)
scans_token Sign s before piece place start end r h = (s, r, token_is before piece place start end s h)
scans_token _ s before piece place start end r h = absurd r

-- the tokens of a reading are those that the piece is
pub scans : (kind : PieceKind) (reading : Reading) (before piece : List ℕ) (place : Place) (start end : ℕ)
    → IsReading kind piece reading → reading ≢ Unread → StandsAt before piece start end
    → IsScanned kind place before piece (tokens_of reading place start end)
scans kind (Read s) before piece place start end r a h = scans_token kind s before piece place start end r h
scans kind Unread before piece place start end r a h = absurd (a refl)
scans Space Passed before piece place start end r a h = refl
scans LineComment Passed before piece place start end r a h = refl
scans BlockComment Passed before piece place start end r a h = refl
scans _ Passed before piece place start end r a h = absurd r

-- a piece that is not read is no tokens
pub scans_none : (kind : PieceKind) (before piece : List ℕ) (place : Place) → IsReading kind piece Unread → (new : List Token) → IsScanned kind place before piece new → ⊥
scans_none Space before piece place r new g = r.0 tt
scans_none LineComment before piece place r new g = r.0 tt
scans_none BlockComment before piece place r new g = r.0 tt
scans_none _ before piece place r new g = r.1 g.0 g.1

-- what can be added is read
pub addable_read : (reading : Reading) (tokens : List Token) → IsAddable reading tokens → reading ≢ Unread
addable_read Unread tokens a e = a
addable_read Passed tokens a e = cc
addable_read (Read s) tokens a e = cc

-- a token that can be added leaves the tokens few enough
pub few : (reading : Reading) (tokens : List Token) (place : Place) (start end : ℕ) → length tokens ≤ most_tokens → IsAddable reading tokens
    → length (tokens ++ tokens_of reading place start end) ≤ most_tokens
few Passed tokens place start end l a = rw append-nil l
few (Read s) tokens place start end l a = rw length_push (omega arith)
few Unread tokens place start end l a = absurd a

-- ---- one reading

one_mark_sort : (text : List ℕ) (s t : TokenSort) → IsMarkSort text s → IsMarkSort text t → s ≡ t
one_mark_sort text (sort.Mark m) (sort.Mark n) h k = ap sort.Mark (one_mark_text m n (h ∙ sym k))
one_mark_sort text (sort.Mark m) _ h k = absurd k
one_mark_sort text _ t h k = absurd h

one_token : (place : Place) (before piece : List ℕ) (s t : TokenSort) (new others : List Token) → s ≡ t → new ≡ token_at place before piece s ∷ []
    → others ≡ token_at place before piece t ∷ [] → new ≡ others
one_token place before piece s t new others e h k = h ∙ ap (λ x. token_at place before piece x ∷ []) e ∙ sym k

-- a piece is one list of tokens
pub one_scan : (kind : PieceKind) (place : Place) (before piece : List ℕ) (new others : List Token) → IsScanned kind place before piece new → IsScanned kind place before piece others → new ≡ others
one_scan Space place before piece new others g h = g ∙ sym h
one_scan LineComment place before piece new others g h = g ∙ sym h
one_scan BlockComment place before piece new others g h = g ∙ sym h
one_scan Word place before piece new others g h = one_token place before piece g.0 h.0 new others (one_word_sort piece g.0 h.0 g.1 h.1) g.2 h.2
one_scan Number place before piece new others g h = one_token place before piece g.0 h.0 new others (one_number_sort piece g.0 h.0 g.1 h.1) g.2 h.2
one_scan Sign place before piece new others g h = one_token place before piece g.0 h.0 new others (one_mark_sort piece g.0 h.0 g.1 h.1) g.2 h.2
one_scan _ place before piece new others g h = absurd g.1

-- ---- tokens fit their text

fits_word : (fresh : Bool) (text : List ℕ) (s : TokenSort) → IsPiece fresh Word text → IsWordSort text s → FitsText s text
fits_word fresh text (sort.Word w) p h = tt
fits_word fresh text (sort.Gate g) p h = tt
fits_word fresh text sort.Name p h = record { word = p; free = h }
fits_word fresh text _ p h = absurd h

fits_number : (text : List ℕ) (s : TokenSort) → IsNumberSort text s → FitsText s text
fits_number text (sort.Int n) h = rw h.1 (omega (arith, ints), omega (arith, ints, h.0.1))
fits_number text (sort.Decimal d) h = rw h.3 (omega (arith, ints), omega (arith, ints, h.2))
fits_number text _ h = absurd h

fits_mark : (text : List ℕ) (s : TokenSort) → IsMarkSort text s → FitsText s text
fits_mark text (sort.Mark m) h = tt
fits_mark text _ h = absurd h

-- the token of a piece fits the piece
pub fits : (fresh : Bool) (kind : PieceKind) (text : List ℕ) (s : TokenSort) → IsPiece fresh kind text → IsReadAs kind text s → FitsText s text
fits fresh Word text s p h = fits_word fresh text s p h
fits fresh Number text s p h = fits_number text s h
fits fresh Sign text s p h = fits_mark text s h
fits fresh _ text s p h = absurd h
