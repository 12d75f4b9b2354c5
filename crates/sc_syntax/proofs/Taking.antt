-- What is taken of a piece, and what is refused.
use Rattle.std.proofs.Common.{ℕ, ◌≡◌, ◌≢◌, refl, sym, ap, ◌∙◌, subst, ◌<◌, ◌≤◌, List, ◌++◌, length, take, slice_range, map, Option, None, MatchOption, inl, inr, arith}
use Rattle.std.proofs.lemmas.List.{length_push}
use Rattle.std.proofs.lemmas.List.Elements.{All-append, All-map}
use Rattle.std.specs.List.{All}
use Rattle.sc_base.specs.declared.Place.{Place}
use Rattle.sc_syntax.specs.declared.fault.LexFault.{LexFault}
use Rattle.sc_syntax.specs.declared.fault.LexFault.TheVariants as faults
use Rattle.sc_syntax.specs.declared.lexing.Found.{Found}
use Rattle.sc_syntax.specs.declared.piece.PieceKind.{PieceKind}
use Rattle.sc_syntax.specs.declared.piece.PieceKind.TheVariants.{Space, LineComment, BlockComment, OpenComment, Directive, Word, Number, Sign}
use Rattle.sc_syntax.specs.declared.reading.Reading.{Reading}
use Rattle.sc_syntax.specs.declared.reading.Reading.TheVariants.{Passed, Read, Unread}
use Rattle.sc_syntax.specs.declared.token.Token.{Token}
use Rattle.sc_syntax.specs.Cuts.{IsReading, IsAddable, IsNotAdded, tokens_of, Stands, TakesPiece, RefusesPiece}
use Rattle.sc_syntax.specs.Directives.{Names, IsScanned, Directs, placed}
use Rattle.sc_syntax.specs.Lexing.{place_after, fault_of, Gives}
use Rattle.sc_syntax.specs.Spaces.{begins_line}
use Rattle.sc_base.specs.Limits.{most_tokens}
use Rattle.sc_syntax.specs.TokenLists.{IsRead, AreRead}
use Rattle.sc_syntax.proofs.CutLemmas.{length_part, read_token}
use Rattle.sc_syntax.proofs.Readings.{StandsAt, scans, scans_none, addable_read, few}
use Rattle.std.proofs.lemmas.List.{length-take-le}

-- a piece stands behind the bytes before it
stands_at : (source : List ℕ) (found : Found) → Stands source found → StandsAt (take found.start source) (slice_range source found.start found.end) found.start found.end
stands_at source found s =
    let before = length-take-le found.start source (omega (arith, s.ordered, s.within)) in
    let len = length_part source found.start found.end (omega (arith, s.ordered)) s.within in
    record { start_is = sym before; end_is = omega (arith, s.ordered) }

-- a piece of another kind gives what it is read as
pub gives_plain : (source : List ℕ) (names : Names) (kind : PieceKind) (before piece : List ℕ) (new : List Token) → kind ≢ Directive → kind ≢ Word
    → IsScanned kind (place_after before) before piece new → Gives source names kind before piece new names
gives_plain source names Directive before piece new d w h = absurd (d refl)
gives_plain source names Word before piece new d w h = absurd (w refl)
gives_plain source names Space before piece new d w h = (h, refl)
gives_plain source names LineComment before piece new d w h = (h, refl)
gives_plain source names BlockComment before piece new d w h = (h, refl)
gives_plain source names OpenComment before piece new d w h = (h, refl)
gives_plain source names Number before piece new d w h = (h, refl)
gives_plain source names Sign before piece new d w h = (h, refl)

scanned_plain : (source : List ℕ) (names : Names) (kind : PieceKind) (before piece : List ℕ) (new : List Token) (after : Names) → kind ≢ Directive → kind ≢ Word
    → Gives source names kind before piece new after → IsScanned kind (place_after before) before piece new
scanned_plain source names Directive before piece new after d w g = absurd (d refl)
scanned_plain source names Word before piece new after d w g = absurd (w refl)
scanned_plain source names Space before piece new after d w g = g.0
scanned_plain source names LineComment before piece new after d w g = g.0
scanned_plain source names BlockComment before piece new after d w g = g.0
scanned_plain source names OpenComment before piece new after d w g = g.0
scanned_plain source names Number before piece new after d w g = g.0
scanned_plain source names Sign before piece new after d w g = g.0

-- a word that is not defined gives what it is read as
gives_word : (source : List ℕ) (names : Names) (before piece : List ℕ) (new : List Token) (o : Option (List Token)) → names piece ≡ o → o ≡ None
    → IsScanned Word (place_after before) before piece new → Gives source names Word before piece new names
gives_word source names before piece new o e f h =
    let P : Option (List Token) → Type 0 = λ x. MatchOption x (IsScanned Word (place_after before) before piece new) (λ value. new ≡ map (placed (place_after before)) value) in
    (subst P (sym (e ∙ f)) h, refl)

scanned_word : (source : List ℕ) (names : Names) (before piece : List ℕ) (new : List Token) (after : Names) → names piece ≡ None
    → Gives source names Word before piece new after → IsScanned Word (place_after before) before piece new
scanned_word source names before piece new after e g =
    let P : Option (List Token) → Type 0 = λ x. MatchOption x (IsScanned Word (place_after before) before piece new) (λ value. new ≡ map (placed (place_after before)) value) in
    subst P e g.0

-- how the tokens of a reading are given
pub record ReadsAs (source : List ℕ) (found : Found) (names : Names) : Type 0 where
  pub forth : (new : List Token) → IsScanned found.kind (place_after (take found.start source)) (take found.start source) (slice_range source found.start found.end) new
      → Gives source names found.kind (take found.start source) (slice_range source found.start found.end) new names
  pub back : (new : List Token) (after : Names) → Gives source names found.kind (take found.start source) (slice_range source found.start found.end) new after
      → IsScanned found.kind (place_after (take found.start source)) (take found.start source) (slice_range source found.start found.end) new

pub plain_reads : (source : List ℕ) (found : Found) (names : Names) → found.kind ≢ Directive → found.kind ≢ Word → ReadsAs source found names
plain_reads source found names d w = record {
  forth = λ new h. gives_plain source names found.kind _ _ new d w h;
  back = λ new after g. scanned_plain source names found.kind _ _ new after d w g;
}

pub word_reads : (source : List ℕ) (found : Found) (names : Names) → found.kind ≡ Word → names (slice_range source found.start found.end) ≡ None → ReadsAs source found names
word_reads source found names e none =
    let before = take found.start source in
    let piece = slice_range source found.start found.end in
    record {
      forth = λ new h.
          let P : PieceKind → Type 0 = λ k. IsScanned k (place_after before) before piece new in
          let Q : PieceKind → Type 0 = λ k. Gives source names k before piece new names in
          subst Q (sym e) (gives_word source names before piece new (names piece) refl none (subst P e h));
      back = λ new after g.
          let P : PieceKind → Type 0 = λ k. IsScanned k (place_after before) before piece new in
          let Q : PieceKind → Type 0 = λ k. Gives source names k before piece new after in
          subst P (sym e) (scanned_word source names before piece new after none (subst Q e g));
    }

scanned_at : (source : List ℕ) (found : Found) (reading : Reading) → Stands source found → IsReading found.kind (slice_range source found.start found.end) reading → reading ≢ Unread
    → IsScanned found.kind (place_after (take found.start source)) (take found.start source) (slice_range source found.start found.end) (tokens_of reading found.place found.start found.end)
scanned_at source found reading s r a =
    let P : Place → Type 0 = λ x. IsScanned found.kind x (take found.start source) (slice_range source found.start found.end) (tokens_of reading found.place found.start found.end) in
    subst P s.place_is (scans found.kind reading _ _ found.place found.start found.end r a (stands_at source found s))

-- a reading that is added
pub takes : (source : List ℕ) (found : Found) (names : Names) (tokens more : List Token) (reading : Reading) → Stands source found → ReadsAs source found names
    → IsReading found.kind (slice_range source found.start found.end) reading → AreRead source tokens → IsAddable reading tokens → more ≡ tokens ++ tokens_of reading found.place found.start found.end
    → TakesPiece source found.kind found.start found.end names tokens names more
takes source found names tokens more reading s g r h a e = record {
  new = tokens_of reading found.place found.start found.end;
  gives = g.forth _ (scanned_at source found reading s r (addable_read reading tokens a));
  grows = e;
  few = omega (arith, ap length e, few reading tokens found.place found.start found.end h.count a);
}

pub takes_read : (source : List ℕ) (found : Found) (tokens more : List Token) (reading : Reading) → Stands source found
    → IsReading found.kind (slice_range source found.start found.end) reading → AreRead source tokens → IsAddable reading tokens → more ≡ tokens ++ tokens_of reading found.place found.start found.end
    → AreRead source more
takes_read source found tokens more reading s r h a e =
    let P : List Token → Type 0 = λ x. AreRead source x in
    subst P (sym e) (record {
      each = read_token source (slice_range source found.start found.end) found.start found.end (begins_line (take found.start source)) found.kind reading found.place tokens
          (omega (arith, s.ordered)) s.within refl s.is_piece r h.each;
      count = few reading tokens found.place found.start found.end h.count a;
    })

-- a reading that is not added
pub refuses : (source : List ℕ) (found : Found) (names : Names) (tokens : List Token) (reading : Reading) (unread fault : LexFault) → Stands source found → ReadsAs source found names
    → IsReading found.kind (slice_range source found.start found.end) reading → unread ≡ fault_of found.kind found.place → IsNotAdded reading unread found.place tokens fault
    → RefusesPiece source found.kind found.place found.start found.end names tokens fault
refuses source found names tokens Passed unread fault s g r u f = absurd f
refuses source found names tokens Unread unread fault s g r u f =
    inl (f ∙ u, λ new after k. scans_none found.kind _ _ _ r new (g.back new after k))
refuses source found names tokens (Read sort) unread fault s g r u f =
    let new = tokens_of (Read sort) found.place found.start found.end in
    let many : most_tokens < length (tokens ++ new) = rw length_push (omega (arith, f.0)) in
    inr (new, (names, (g.forth new (scanned_at source found (Read sort) s r (λ e. cc)), many, f.1)))

-- ---- defined names

pub placed_read : (source : List ℕ) (place : Place) (token : Token) → IsRead source token → IsRead source (placed place token)
placed_read source place token h = record { ordered = h.ordered; within = h.within; fits = h.fits }

pub value_read : (source : List ℕ) (place : Place) (tokens value more : List Token) → AreRead source tokens → All (IsRead source) value → more ≡ tokens ++ map (placed place) value → length more ≤ most_tokens
    → AreRead source more
value_read source place tokens value more h v e l =
    let P : List Token → Type 0 = λ x. All (IsRead source) x in
    record {
      each = subst P (sym e) (All-append (IsRead source) tokens (map (placed place) value) h.each
          (All-map (IsRead source) (placed place) value (λ k d small. placed_read source place _ (v k d small))));
      count = l;
    }

-- ---- directives

-- a directive that is carried out
pub directive_refused : (source : List ℕ) (found : Found) (names : Names) (tokens : List Token) (fault : LexFault) → Stands source found → found.kind ≡ Directive
    → fault ≡ faults.BadDefine found.place → ((after : Names) → Directs source names found.place (take found.start source) (slice_range source found.start found.end) after → ⊥)
    → RefusesPiece source found.kind found.place found.start found.end names tokens fault
directive_refused source found names tokens fault s e f none =
    let before = take found.start source in
    let piece = slice_range source found.start found.end in
    let D : Place → Names → Type 0 = λ p after. Directs source names p before piece after in
    let G : List Token → Names → PieceKind → Type 0 = λ new after k. Gives source names k before piece new after in
    inl (f ∙ ap (λ k. fault_of k found.place) (sym e), λ new after g. none after (subst (λ p. D p after) (sym s.place_is) (subst (G new after) e g).1))
