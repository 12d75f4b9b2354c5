-- The tokens of a directive.
use Rattle.std.proofs.Common.{ℕ, ◌≡◌, ◌≢◌, refl, sym, ◌∙◌, subst, ◌+◌, ◌<◌, false, List, [], ◌++◌, length, take, drop, slice_range, arith}
use Rattle.sc_base.specs.declared.Place.{Place}
use Rattle.sc_syntax.specs.declared.piece.PieceKind.{PieceKind}
use Rattle.sc_syntax.specs.declared.reading.Reading.{Reading}
use Rattle.sc_syntax.specs.declared.reading.Reading.TheVariants.{Unread}
use Rattle.sc_syntax.specs.declared.token.Token.{Token}
use Rattle.sc_syntax.specs.Cuts.{IsReading, tokens_of}
use Rattle.sc_syntax.specs.Directives.{IsScanned, Scans, at_end, after_piece}
use Rattle.sc_syntax.specs.Pieces.{IsNext, IsStuck}
use Rattle.sc_syntax.proofs.CutLemmas.{SameCut, same_cut, CutsIn, joined, is_next, passed, left, stands}
use Rattle.sc_syntax.proofs.PieceKinds.{some_byte}
use Rattle.sc_syntax.proofs.Readings.{one_scan, scans, scans_none}

-- what one cut is, the other is
same_scan : (k k' : PieceKind) (place : Place) (before p r p' r' : List ℕ) (new : List Token) → SameCut k k' p r p' r' → IsScanned k' place before p' new → IsScanned k place before p new
same_scan k k' place before p r p' r' new c g =
    let P : PieceKind → Type 0 = λ x. IsScanned x place before p' new in
    let Q : List ℕ → Type 0 = λ x. IsScanned k place before x new in
    subst Q (sym c.piece) (subst P (sym c.kind) g)

-- behind the next piece
pub scan_next : (place : Place) (before : List ℕ) (ts : List Token) (bytes : List ℕ) (all : List Token) (k : PieceKind) (p r : List ℕ) (new : List Token)
    → Scans place before ts bytes all → p ++ r ≡ bytes → IsNext false k p r → IsScanned k place before p new → Scans place (before ++ p) (ts ++ new) r all
scan_next place _ _ _ _ k p r new (at_end _ _) e n g = absurd (some_byte false k p r n.is_piece e)
scan_next place _ _ _ _ k p r new (after_piece before ts bytes all k' p' r' new' e' n' g' h) e n g =
    let c = same_cut false k k' p r p' r' bytes e e' n n' in
    let same : new' ≡ new = one_scan k place before p new' new (same_scan k k' place before p r p' r' new' c g') g in
    let P : List ℕ → Type 0 = λ x. Scans place (before ++ x) (ts ++ new) r all in
    let Q : List ℕ → Type 0 = λ x. Scans place (before ++ p') (ts ++ new) x all in
    let R : List Token → Type 0 = λ x. Scans place (before ++ p') (ts ++ x) r' all in
    subst P (sym c.piece) (subst Q (sym c.rest) (subst R same h))

scan_unread : (place : Place) (before : List ℕ) (ts : List Token) (bytes : List ℕ) (all : List Token) (k : PieceKind) (p r : List ℕ)
    → Scans place before ts bytes all → p ++ r ≡ bytes → IsNext false k p r → ((new : List Token) → IsScanned k place before p new → ⊥) → ⊥
scan_unread place _ _ _ _ k p r (at_end _ _) e n none = some_byte false k p r n.is_piece e
scan_unread place _ _ _ _ k p r (after_piece before ts bytes all k' p' r' new' e' n' g' h) e n none =
    let c = same_cut false k k' p r p' r' bytes e e' n n' in
    none new' (same_scan k k' place before p r p' r' new' c g')

scan_stuck : (place : Place) (before : List ℕ) (ts : List Token) (bytes : List ℕ) (all : List Token) → Scans place before ts bytes all → 0 < length bytes → IsStuck false bytes → ⊥
scan_stuck place _ _ _ _ (at_end _ _) l s = absurd (omega arith)
scan_stuck place _ _ _ _ (after_piece before ts bytes all k p r new e n g h) l s = s k p r n.is_piece e

scan_end : (place : Place) (before : List ℕ) (ts : List Token) (bytes : List ℕ) (all : List Token) → Scans place before ts bytes all → bytes ≡ [] → all ≡ ts
scan_end place _ _ _ _ (at_end _ _) e = refl
scan_end place _ _ _ _ (after_piece before ts bytes all k p r new e n g h) f = absurd (some_byte false k p r n.is_piece (e ∙ f))

-- a directive has one list of tokens
pub scan_once : (place : Place) (before : List ℕ) (ts : List Token) (bytes : List ℕ) (a b : List Token) → Scans place before ts bytes a → Scans place before ts bytes b → a ≡ b
scan_once place _ _ _ _ b (at_end before ts) k = sym (scan_end place before ts [] b k refl)
scan_once place _ _ _ _ b (after_piece before ts bytes a kind p r new e n g h) k = scan_once place (before ++ p) (ts ++ new) r a b h (scan_next place before ts bytes b kind p r new k e n g)

-- ---- the loop

-- what the part from `at` on gives, the part from `from` on gives, and the other way round
pub record ScansOn (source : List ℕ) (place : Place) (from to at : ℕ) (tokens : List Token) : Type 0 where
  pub forth : (all : List Token) → Scans place (take at source) tokens (slice_range source at to) all → Scans place (take from source) [] (slice_range source from to) all
  pub back : (all : List Token) → Scans place (take from source) [] (slice_range source from to) all → Scans place (take at source) tokens (slice_range source at to) all

pub scan_begins : (source : List ℕ) (place : Place) (from to : ℕ) → ScansOn source place from to from []
scan_begins source place from to = record { forth = λ all h. h; back = λ all h. h }

pub scan_turn : (source rest piece : List ℕ) (place : Place) (from to at n : ℕ) (kind : PieceKind) (reading : Reading) (tokens : List Token)
    → ScansOn source place from to at tokens → CutsIn source rest piece at to n false kind → IsReading kind piece reading → reading ≢ Unread
    → ScansOn source place from to (at + n) (tokens ++ tokens_of reading place at (at + n))
scan_turn source rest piece place from to at n kind reading tokens s c r a =
    let new = tokens_of reading place at (at + n) in
    let is = scans kind reading (take at source) piece place at (at + n) r a (stands source rest piece at to n false kind c) in
    let whole = joined source rest piece at to n false kind c in
    let next = is_next source rest piece at to n false kind c in
    let front = passed source rest piece at to n false kind c in
    let behind = left source rest piece at to n false kind c in
    record {
      forth = λ all h.
          let P : List ℕ → Type 0 = λ x. Scans place x (tokens ++ new) (drop n rest) all in
          let Q : List ℕ → Type 0 = λ x. Scans place (take (at + n) source) (tokens ++ new) x all in
          s.forth all (after_piece _ _ _ all kind piece (drop n rest) new whole next is (subst P (sym front) (subst Q (sym behind) h)));
      back = λ all h.
          let P : List ℕ → Type 0 = λ x. Scans place x (tokens ++ new) (drop n rest) all in
          let Q : List ℕ → Type 0 = λ x. Scans place (take (at + n) source) (tokens ++ new) x all in
          subst Q behind (subst P front (scan_next place _ _ _ all kind piece (drop n rest) new (s.back all h) whole next is));
    }

pub scan_ends : (source : List ℕ) (place : Place) (from to at : ℕ) (tokens : List Token) → ScansOn source place from to at tokens → slice_range source at to ≡ []
    → Scans place (take from source) [] (slice_range source from to) tokens
scan_ends source place from to at tokens s e =
    let P : List ℕ → Type 0 = λ x. Scans place (take at source) tokens x tokens in
    s.forth tokens (subst P (sym e) (at_end (take at source) tokens))

pub scan_stops : (source rest : List ℕ) (place : Place) (from to at : ℕ) (tokens : List Token) → ScansOn source place from to at tokens → rest ≡ slice_range source at to → 0 < length rest
    → IsStuck false rest → (all : List Token) → Scans place (take from source) [] (slice_range source from to) all → ⊥
scan_stops source rest place from to at tokens s e l stuck all h =
    let P : List ℕ → Type 0 = λ x. Scans place (take at source) tokens x all in
    scan_stuck place _ _ rest all (subst P (sym e) (s.back all h)) l stuck

pub scan_fails : (source rest piece : List ℕ) (place : Place) (from to at n : ℕ) (kind : PieceKind) (tokens : List Token)
    → ScansOn source place from to at tokens → CutsIn source rest piece at to n false kind → IsReading kind piece Unread
    → (all : List Token) → Scans place (take from source) [] (slice_range source from to) all → ⊥
scan_fails source rest piece place from to at n kind tokens s c r all h =
    scan_unread place _ _ _ all kind piece (drop n rest) (s.back all h) (joined source rest piece at to n false kind c) (is_next source rest piece at to n false kind c)
    (scans_none kind (take at source) piece place r)
