-- Cuts of a part of a source.
use Rattle.std.proofs.Common.{ℕ, ◌≡◌, refl, sym, ap, ◌∙◌, subst, ◌+◌, ◌-◌, ◌≤◌, Bool, List, ◌++◌, length, take, drop, slice_range, arith}
use Rattle.std.proofs.Math.Seq.{take-add, take-append_seam, drop-append_seam}
use Rattle.std.proofs.lemmas.List.{take-append-drop, drop-drop, drop-take, take-take, length-take-le, length-drop, append-nil, take_all}
use Rattle.std.proofs.lemmas.List.Elements.{All-push}
use Rattle.std.specs.List.{All}
use Rattle.sc_base.specs.declared.Place.{Place}
use Rattle.sc_syntax.specs.declared.piece.PieceKind.{PieceKind}
use Rattle.sc_syntax.specs.declared.reading.Reading.{Reading}
use Rattle.sc_syntax.specs.declared.reading.Reading.TheVariants.{Passed, Read, Unread}
use Rattle.sc_syntax.specs.declared.token.Token.{Token}
use Rattle.sc_syntax.specs.Cuts.{IsReading, tokens_of}
use Rattle.sc_syntax.specs.Pieces.{IsPiece, IsNext}
use Rattle.sc_syntax.specs.TokenLists.{FitsText, IsRead}
use Rattle.sc_syntax.proofs.PieceKinds.{kind_by, kind_is}
use Rattle.sc_syntax.proofs.Readings.{StandsAt, fits}

-- two cuts at one place are the same
pub record SameCut (k k' : PieceKind) (p r p' r' : List ℕ) : Type 0 where
  pub kind : k ≡ k'
  pub piece : p ≡ p'
  pub rest : r ≡ r'

pub same_cut : (fresh : Bool) (k k' : PieceKind) (p r p' r' bytes : List ℕ) → p ++ r ≡ bytes → p' ++ r' ≡ bytes → IsNext fresh k p r → IsNext fresh k' p' r' → SameCut k k' p r p' r'
same_cut fresh k k' p r p' r' bytes e e' n n' =
    let a = n.is_longest k' p' r' n'.is_piece (e' ∙ sym e) in
    let b = n'.is_longest k p r n.is_piece (e ∙ sym e') in
    let len : length p ≡ length p' = omega arith in
    let whole : p ++ r ≡ p' ++ r' = e ∙ sym e' in
    let piece : p ≡ p' = sym (take-append_seam p r) ∙ ap (take (length p)) whole ∙ ap (λ n. take n (p' ++ r')) len ∙ take-append_seam p' r' in
    record {
      kind = kind_is fresh k p n.is_piece ∙ ap kind_by piece ∙ sym (kind_is fresh k' p' n'.is_piece);
      piece = piece;
      rest = sym (drop-append_seam p r) ∙ ap (drop (length p)) whole ∙ ap (λ n. drop n (p' ++ r')) len ∙ drop-append_seam p' r';
    }

-- ---- parts of a source

pub length_part : (source : List ℕ) (at to : ℕ) → at ≤ to → to ≤ length source → length (slice_range source at to) ≡ to - at
length_part source at to a t = length-take-le (to - at) (drop at source) (omega (arith, length-drop at source))

pub part_all : (source : List ℕ) (at : ℕ) → slice_range source at (length source) ≡ drop at source
part_all source at = take_all (length source - at) (drop at source) (omega (arith, length-drop at source))

-- the first n bytes of a part
pub part_front : (source : List ℕ) (at to n : ℕ) → n ≤ to - at → take n (slice_range source at to) ≡ take n (drop at source)
part_front source at to n l = take-take n (to - at) (drop at source) l

-- the bytes of a part behind the first n
pub part_back : (source : List ℕ) (at to n : ℕ) → at ≤ to → n ≤ to - at → drop n (slice_range source at to) ≡ slice_range source (at + n) to
part_back source at to n a l =
    let size : to - at ≡ n + (to - (at + n)) = omega arith in
    ap (λ k. drop n (take k (drop at source))) size ∙ drop-take n (to - (at + n)) (drop at source) ∙ ap (take (to - (at + n))) (drop-drop n at source)

-- the next piece in a part: its first n bytes from a place on
pub record CutsIn (source rest piece : List ℕ) (at to n : ℕ) (fresh : Bool) (kind : PieceKind) : Type 0 where
  pub ordered : at ≤ to
  pub ends : to ≤ length source
  pub rest_is : rest ≡ slice_range source at to
  pub piece_is : piece ≡ take n rest
  pub within : n ≤ length rest
  pub next : IsNext fresh kind (take n rest) (drop n rest)

pub cut_of : {source rest : List ℕ} {at to n : ℕ} {fresh : Bool} {kind : PieceKind} → at ≤ to → to ≤ length source → rest ≡ slice_range source at to → n ≤ length rest
    → IsNext fresh kind (take n rest) (drop n rest) → CutsIn source rest (take n rest) at to n fresh kind
cut_of o e r w n = record { ordered = o; ends = e; rest_is = r; piece_is = refl; within = w; next = n }

room : (source rest piece : List ℕ) (at to n : ℕ) (fresh : Bool) (kind : PieceKind) → CutsIn source rest piece at to n fresh kind → n ≤ to - at
room source rest piece at to n fresh kind c = omega (arith, c.within, ap length c.rest_is, length_part source at to c.ordered c.ends)

pub ends_within : (source rest piece : List ℕ) (at to n : ℕ) (fresh : Bool) (kind : PieceKind) → CutsIn source rest piece at to n fresh kind → at + n ≤ to
ends_within source rest piece at to n fresh kind c = omega (arith, c.ordered, room source rest piece at to n fresh kind c)

pub joined : (source rest piece : List ℕ) (at to n : ℕ) (fresh : Bool) (kind : PieceKind) → CutsIn source rest piece at to n fresh kind → piece ++ drop n rest ≡ slice_range source at to
joined source rest piece at to n fresh kind c = ap (λ p. p ++ drop n rest) c.piece_is ∙ take-append-drop n rest ∙ c.rest_is

pub is_next : (source rest piece : List ℕ) (at to n : ℕ) (fresh : Bool) (kind : PieceKind) → CutsIn source rest piece at to n fresh kind → IsNext fresh kind piece (drop n rest)
is_next source rest piece at to n fresh kind c =
    let P : List ℕ → Type 0 = λ p. IsNext fresh kind p (drop n rest) in
    subst P (sym c.piece_is) c.next

piece_front : (source rest piece : List ℕ) (at to n : ℕ) (fresh : Bool) (kind : PieceKind) → CutsIn source rest piece at to n fresh kind → piece ≡ take n (drop at source)
piece_front source rest piece at to n fresh kind c = c.piece_is ∙ ap (take n) c.rest_is ∙ part_front source at to n (room source rest piece at to n fresh kind c)

pub passed : (source rest piece : List ℕ) (at to n : ℕ) (fresh : Bool) (kind : PieceKind) → CutsIn source rest piece at to n fresh kind → take at source ++ piece ≡ take (at + n) source
passed source rest piece at to n fresh kind c = ap (λ p. take at source ++ p) (piece_front source rest piece at to n fresh kind c) ∙ sym (take-add at n source)

pub left : (source rest piece : List ℕ) (at to n : ℕ) (fresh : Bool) (kind : PieceKind) → CutsIn source rest piece at to n fresh kind → drop n rest ≡ slice_range source (at + n) to
left source rest piece at to n fresh kind c = ap (drop n) c.rest_is ∙ part_back source at to n c.ordered (room source rest piece at to n fresh kind c)

pub piece_len : (source rest piece : List ℕ) (at to n : ℕ) (fresh : Bool) (kind : PieceKind) → CutsIn source rest piece at to n fresh kind → length piece ≡ n
piece_len source rest piece at to n fresh kind c = ap length c.piece_is ∙ length-take-le n rest c.within

-- the slice of a piece
pub slice_is : (source rest piece : List ℕ) (at to n : ℕ) (fresh : Bool) (kind : PieceKind) → CutsIn source rest piece at to n fresh kind → slice_range source at (at + n) ≡ piece
slice_is source rest piece at to n fresh kind c =
    let size : at + n - at ≡ n = omega arith in
    ap (λ k. take k (drop at source)) size ∙ sym (piece_front source rest piece at to n fresh kind c)

pub stands : (source rest piece : List ℕ) (at to n : ℕ) (fresh : Bool) (kind : PieceKind) → CutsIn source rest piece at to n fresh kind → StandsAt (take at source) piece at (at + n)
stands source rest piece at to n fresh kind c =
    let before = length-take-le at source (omega (arith, c.ordered, c.ends)) in
    let len = piece_len source rest piece at to n fresh kind c in
    record { start_is = sym before; end_is = omega arith }

-- ---- tokens of a piece are read

pub read_token : (source piece : List ℕ) (at end : ℕ) (fresh : Bool) (kind : PieceKind) (reading : Reading) (place : Place) (tokens : List Token)
    → at ≤ end → end ≤ length source → slice_range source at end ≡ piece → IsPiece fresh kind piece → IsReading kind piece reading
    → All (IsRead source) tokens → All (IsRead source) (tokens ++ tokens_of reading place at end)
read_token source piece at end fresh kind Passed place tokens o e s p r h =
    let P : List Token → Type 0 = λ t. All (IsRead source) t in
    subst P (sym (append-nil tokens)) h
read_token source piece at end fresh kind Unread place tokens o e s p r h =
    let P : List Token → Type 0 = λ t. All (IsRead source) t in
    subst P (sym (append-nil tokens)) h
read_token source piece at end fresh kind (Read sort) place tokens o e s p r h =
    let token : Token = record { sort = sort; place = place; start = at; end = end } in
    let F : List ℕ → Type 0 = λ x. FitsText sort x in
    let read : IsRead source token = record { ordered = o; within = e; fits = subst F (sym s) (fits fresh kind piece sort p r) } in
    All-push (IsRead source) tokens token h read
