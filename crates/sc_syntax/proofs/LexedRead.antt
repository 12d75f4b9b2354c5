-- Tokens of a source are read from it: each fits its slice.
use Rattle.std.proofs.Common.{ℕ, ◌≡◌, refl, sym, ap, ◌∙◌, subst, ◌+◌, ◌-◌, false, List, [], ◌∷◌, ◌++◌, length, take, drop, slice_range, map, Option, Some, None, Ok, MatchOption, inl, inr, append_assoc, arith}
use Rattle.std.proofs.Math.Seq.{take-append_seam, drop-append_seam}
use Rattle.std.proofs.lemmas.List.{take-append-drop, length-append}
use Rattle.std.proofs.lemmas.List.Elements.{All-nil, All-cons, All-append, All-map}
use Rattle.std.specs.List.{All}
use Rattle.std.specs.declared.result.Result.{Result}
use Rattle.sc_base.specs.declared.Place.{Place}
use Rattle.sc_syntax.specs.declared.fault.LexFault.{LexFault}
use Rattle.sc_syntax.specs.declared.piece.PieceKind.{PieceKind}
use Rattle.sc_syntax.specs.declared.piece.PieceKind.TheVariants.{Space, LineComment, BlockComment, OpenComment, Directive, Word, Number, Sign}
use Rattle.sc_syntax.specs.declared.token.Token.{Token}
use Rattle.sc_syntax.specs.declared.token.TokenSort.{TokenSort}
use Rattle.sc_syntax.specs.Cuts.{AreValues}
use Rattle.sc_syntax.specs.Directives.{Names, no_names, IsScanned, Scans, IsDefinition, Directs, names_behind, placed, token_at, word_end}
use Rattle.sc_syntax.specs.Directives as directive
use Rattle.sc_syntax.specs.Lexing.{place_after, Gives, Reads, at_end, after_piece, at_too_many, at_fault, at_stuck, LexedAreRead}
use Rattle.sc_syntax.specs.Pieces.{IsPiece, IsReadAs}
use Rattle.sc_syntax.specs.Spaces.{begins_line}
use Rattle.sc_syntax.specs.TokenLists.{text_of, FitsText, IsRead, AreRead}
use Rattle.sc_syntax.proofs.Definitions.{values_behind}
use Rattle.sc_syntax.proofs.Readings.{fits}
use Rattle.sc_syntax.proofs.Taking.{placed_read}

-- a piece between two parts of the source
slice_between : (before piece rest source : List ℕ) → before ++ (piece ++ rest) ≡ source → slice_range source (length before) (length before + length piece) ≡ piece
slice_between before piece rest source e =
    let size : length before + length piece - length before ≡ length piece = omega arith in
    ap (λ n. take n (drop (length before) source)) size
    ∙ ap (λ s. take (length piece) (drop (length before) s)) (sym e)
    ∙ ap (take (length piece)) (drop-append_seam before (piece ++ rest))
    ∙ take-append_seam piece rest

-- its token is read from the source
token_read : (place : Place) (fresh : _) (kind : PieceKind) (before piece rest source : List ℕ) (sort : TokenSort) → before ++ (piece ++ rest) ≡ source
    → IsPiece fresh kind piece → IsReadAs kind piece sort → IsRead source (token_at place before piece sort)
token_read place fresh kind before piece rest source sort e p r =
    let F : List ℕ → Type 0 = λ x. FitsText sort x in
    record {
      ordered = omega arith;
      within = omega (arith, ap length (sym e), length-append before (piece ++ rest), length-append piece rest);
      fits = subst F (sym (slice_between before piece rest source e)) (fits fresh kind piece sort p r);
    }

one_read : (source : List ℕ) (token : Token) (new : List Token) → new ≡ token ∷ [] → IsRead source token → All (IsRead source) new
one_read source token new e h =
    let P : List Token → Type 0 = λ x. All (IsRead source) x in subst P (sym e) (All-cons (IsRead source) token [] h (All-nil (IsRead source)))

none_read : (source : List ℕ) (new : List Token) → new ≡ [] → All (IsRead source) new
none_read source new e = let P : List Token → Type 0 = λ x. All (IsRead source) x in subst P (sym e) (All-nil (IsRead source))

-- what a piece is read as
scanned_read : (place : Place) (fresh : _) (kind : PieceKind) (before piece rest source : List ℕ) (new : List Token) → before ++ (piece ++ rest) ≡ source
    → IsPiece fresh kind piece → IsScanned kind place before piece new → All (IsRead source) new
scanned_read place fresh Space before piece rest source new e p h = none_read source new h
scanned_read place fresh LineComment before piece rest source new e p h = none_read source new h
scanned_read place fresh BlockComment before piece rest source new e p h = none_read source new h
scanned_read place fresh Word before piece rest source new e p h = one_read source _ new h.2 (token_read place fresh Word before piece rest source h.0 e p h.1)
scanned_read place fresh Number before piece rest source new e p h = one_read source _ new h.2 (token_read place fresh Number before piece rest source h.0 e p h.1)
scanned_read place fresh Sign before piece rest source new e p h = one_read source _ new h.2 (token_read place fresh Sign before piece rest source h.0 e p h.1)
scanned_read place fresh _ before piece rest source new e p h = absurd h.1

-- behind a piece
behind : (before piece rest bytes back source : List ℕ) → piece ++ rest ≡ bytes → before ++ (bytes ++ back) ≡ source → (before ++ piece) ++ (rest ++ back) ≡ source
behind before piece rest bytes back source e w =
    append_assoc before piece (rest ++ back)
    ∙ ap (λ x. before ++ x) (sym (append_assoc piece rest back) ∙ ap (λ x. x ++ back) e)
    ∙ w

here : (before piece rest bytes back source : List ℕ) → piece ++ rest ≡ bytes → before ++ (bytes ++ back) ≡ source → before ++ (piece ++ (rest ++ back)) ≡ source
here before piece rest bytes back source e w =
    ap (λ x. before ++ x) (sym (append_assoc piece rest back) ∙ ap (λ x. x ++ back) e) ∙ w

-- the tokens of a directive
scans_read : (place : Place) (before : List ℕ) (tokens : List Token) (bytes : List ℕ) (all : List Token) (back source : List ℕ) → Scans place before tokens bytes all
    → before ++ (bytes ++ back) ≡ source → All (IsRead source) tokens → All (IsRead source) all
scans_read place _ _ _ _ back source (directive.at_end before tokens) w h = h
scans_read place _ _ _ _ back source (directive.after_piece before tokens bytes all kind piece rest new e n g more) w h =
    let read = scanned_read place false kind before piece (rest ++ back) source new (here before piece rest bytes back source e w) n.is_piece g in
    scans_read place (before ++ piece) (tokens ++ new) rest all back source more (behind before piece rest bytes back source e w)
    (All-append (IsRead source) tokens new h read)

defined_read : (source : List ℕ) (names after : Names) (tokens : List Token) → IsDefinition source names tokens → after ≡ names_behind source names tokens
    → All (IsRead source) tokens → AreValues source names → AreValues source after
defined_read source names after [] d e h v = absurd d
defined_read source names after (name ∷ value) d e h v = values_behind source names after (text_of source name) (name ∷ value) h v e

-- the names behind a directive
directs_read : (source : List ℕ) (names after : Names) (place : Place) (before piece rest : List ℕ) → before ++ (piece ++ rest) ≡ source
    → Directs source names place before piece after → AreValues source names → AreValues source after
directs_read source names after place before piece rest w (inl h) v = let P : Names → Type 0 = AreValues source in subst P (sym h.1) v
directs_read source names after place before piece rest w (inr h) v =
    let d = h.1 in
    let n : ℕ = word_end piece in
    let cut : take n piece ++ drop n piece ≡ piece = take-append-drop n piece in
    let read = scans_read place (before ++ take n piece) [] (drop n piece) d.tokens rest source d.scanned
    (append_assoc before (take n piece) (drop n piece ++ rest)
    ∙ ap (λ x. before ++ x) (sym (append_assoc (take n piece) (drop n piece) rest) ∙ ap (λ x. x ++ rest) cut) ∙ w) (All-nil (IsRead source)) in
    defined_read source names after d.tokens d.is_definition d.defined read v

word_read : (o : Option (List Token)) (source : List ℕ) (place : Place) (before piece rest : List ℕ) (fresh : _) (new : List Token)
    → ((value : List Token) → o ≡ Some value → All (IsRead source) value) → before ++ (piece ++ rest) ≡ source → IsPiece fresh Word piece
    → MatchOption o (IsScanned Word place before piece new) (λ value. new ≡ map (placed place) value) → All (IsRead source) new
word_read None source place before piece rest fresh new v w p g = scanned_read place fresh Word before piece rest source new w p g
word_read (Some value) source place before piece rest fresh new v w p g =
    let P : List Token → Type 0 = λ x. All (IsRead source) x in
    subst P (sym g) (All-map (IsRead source) (placed place) value (λ k d small. placed_read source place _ (v value refl k d small)))

-- what a piece gives
record Given (source : List ℕ) (new : List Token) (after : Names) : Type 0 where
  tokens : All (IsRead source) new
  values : AreValues source after

same_values : (source : List ℕ) (names after : Names) → after ≡ names → AreValues source names → AreValues source after
same_values source names after e v = let P : Names → Type 0 = AreValues source in subst P (sym e) v

given : (source : List ℕ) (names : Names) (kind : PieceKind) (before piece rest : List ℕ) (fresh : _) (new : List Token) (after : Names) → before ++ (piece ++ rest) ≡ source
    → IsPiece fresh kind piece → Gives source names kind before piece new after → AreValues source names → Given source new after
given source names Directive before piece rest fresh new after w p g v =
    record { tokens = none_read source new g.0; values = directs_read source names after (place_after before) before piece rest w g.1 v }
given source names Word before piece rest fresh new after w p g v = record {
  tokens = word_read (names piece) source (place_after before) before piece rest fresh new (λ value is. v piece value is) w p g.0;
  values = same_values source names after g.1 v;
}
given source names Space before piece rest fresh new after w p g v =
    record { tokens = scanned_read (place_after before) fresh Space before piece rest source new w p g.0; values = same_values source names after g.1 v }
given source names LineComment before piece rest fresh new after w p g v =
    record { tokens = scanned_read (place_after before) fresh LineComment before piece rest source new w p g.0; values = same_values source names after g.1 v }
given source names BlockComment before piece rest fresh new after w p g v =
    record { tokens = scanned_read (place_after before) fresh BlockComment before piece rest source new w p g.0; values = same_values source names after g.1 v }
given source names OpenComment before piece rest fresh new after w p g v =
    record { tokens = scanned_read (place_after before) fresh OpenComment before piece rest source new w p g.0; values = same_values source names after g.1 v }
given source names Number before piece rest fresh new after w p g v =
    record { tokens = scanned_read (place_after before) fresh Number before piece rest source new w p g.0; values = same_values source names after g.1 v }
given source names Sign before piece rest fresh new after w p g v =
    record { tokens = scanned_read (place_after before) fresh Sign before piece rest source new w p g.0; values = same_values source names after g.1 v }

through : (source before : List ℕ) (names : Names) (tokens : List Token) (bytes : List ℕ) (outcome : Result (List Token) LexFault)
    → Reads source before names tokens bytes outcome → (all : List Token) → outcome ≡ Ok all → before ++ bytes ≡ source
    → AreRead source tokens → AreValues source names → AreRead source all
through source _ _ _ _ _ (at_end before names tokens) all is w h v =
    let e : tokens ≡ all = cc in let P : List Token → Type 0 = λ x. AreRead source x in subst P e h
through source _ _ _ _ _ (after_piece before names tokens bytes outcome kind piece rest new after e n g l more) all is w h v =
    let gift = given source names kind before piece rest (begins_line before) new after (ap (λ x. before ++ x) e ∙ w) n.is_piece g v in
    through source (before ++ piece) after (tokens ++ new) rest outcome more all is (append_assoc before piece rest ∙ ap (λ x. before ++ x) e ∙ w)
    (record { each = All-append (IsRead source) tokens new h.each gift.tokens; count = l }) gift.values
through source _ _ _ _ _ (at_too_many before names tokens bytes kind piece rest new after e n g l) all is w h v = absurd cc
through source _ _ _ _ _ (at_fault before names tokens bytes kind piece rest e n none) all is w h v = absurd cc
through source _ _ _ _ _ (at_stuck before names tokens bytes l s) all is w h v = absurd cc

pub lexed_are_read : LexedAreRead
lexed_are_read source tokens h =
    through source [] no_names [] source (Ok tokens) h tokens refl refl (record { each = All-nil (IsRead source); count = omega arith }) (λ text value e. absurd cc)
