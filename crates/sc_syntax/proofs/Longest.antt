-- The longest piece.
use Rattle.std.proofs.Common.{ℕ, suc, ◌≡◌, refl, sym, ap, ◌∙◌, subst, ◌+◌, ◌<◌, ◌≤◌, zero-le, suc-le-suc, Bool, true, false, ◌&&◌, ◌||◌, ◌==◌, cond, List, [], ◌∷◌, ◌++◌, length, take, drop, slice_index, append_assoc, arith}
use Rattle.std.proofs.Math.Numerals.{one-add}
use Rattle.std.proofs.lemmas.Bool.{false≢true}
use Rattle.std.proofs.lemmas.Bool.Decides.{nat_tests}
use Rattle.std.proofs.lemmas.List.{length-append, take_at, drop_at, take_more, drop_more, take-append-drop, append-nil, length-take-le}
use Rattle.std.specs.List.{list_all, prefix_len}
use Rattle.sc_syntax.specs.declared.piece.PieceKind.{PieceKind}
use Rattle.sc_syntax.specs.declared.piece.PieceKind.TheVariants.{Space, LineComment, BlockComment, OpenComment, Directive, Word, Number, Sign}
use Rattle.std.proofs.lemmas.List.Sums.{AllPass-from_list_all, list_all-from_AllPass}
use Rattle.sc_base.specs.NameTexts.{begins_name, continues_name}
use Rattle.sc_syntax.specs.Bytes.{is_digit}
use Rattle.sc_syntax.specs.Cuts.{BeginsWith, HasNoMark, IsLongestMark}
use Rattle.sc_syntax.specs.Pieces.{is_number, begins_digit, begins_number, HasNoEnd, IsPiece, IsNext, IsStuck}
use Rattle.sc_syntax.specs.Spaces.{is_white, is_inline}
use Rattle.sc_syntax.proofs.Ends.{has_end, no_end_bound}
use Rattle.sc_syntax.proofs.PieceKinds.{kind_by, kind_is, white_by, letter_by, number_by}

-- the bytes do not begin with one of the class
abbrev pub Stops : (ℕ → Bool) → List ℕ → Type 0
Stops next [] = Unit {0}
Stops next (d ∷ ds) = next d ≡ false

both : (a b : Bool) → (a && b) ≡ true → (a ≡ true) × (b ≡ true)
both true b h = (refl, h)
both false b h = cc

apart : (next : ℕ → Bool) (c d : ℕ) → next c ≡ true → next d ≡ false → c ≡ d → ⊥
apart next c d h s e = false≢true (sym s ∙ ap next (sym e) ∙ h)

-- bytes of a class go no further than a run that stops
pub front_bound : (next : ℕ → Bool) (p rest q r : List ℕ) → list_all next q ≡ true → q ++ r ≡ p ++ rest → Stops next rest → length q ≤ length p
front_bound next p rest [] r h e s = zero-le
front_bound next [] [] (c ∷ cs) r h e s = cc
front_bound next [] (d ∷ ds) (c ∷ cs) r h e s = absurd (apart next c d (both (next c) (list_all next cs) h).0 s cc)
front_bound next (x ∷ xs) rest (c ∷ cs) r h e s = suc-le-suc (front_bound next xs rest cs r (both (next c) (list_all next cs) h).1 (cc) s)

-- the run at the front of the bytes
passes_at : (next : ℕ → Bool) (x : ℕ) (xs : List ℕ) (b : Bool) → next x ≡ b → list_all next (take (prefix_len next xs) xs) ≡ true → list_all next (take (cond b (1 + prefix_len next xs) 0) (x ∷ xs)) ≡ true
passes_at next x xs true e h = rw one-add (rw e h)
passes_at next x xs false e h = refl

pub front_passes : (next : ℕ → Bool) (xs : List ℕ) → list_all next (take (prefix_len next xs) xs) ≡ true
front_passes next [] = refl
front_passes next (x ∷ xs) = passes_at next x xs (next x) refl (front_passes next xs)

stops_at : (next : ℕ → Bool) (x : ℕ) (xs : List ℕ) (b : Bool) → next x ≡ b → Stops next (drop (prefix_len next xs) xs) → Stops next (drop (cond b (1 + prefix_len next xs) 0) (x ∷ xs))
stops_at next x xs true e h = rw one-add h
stops_at next x xs false e h = e

pub front_stops : (next : ℕ → Bool) (xs : List ℕ) → Stops next (drop (prefix_len next xs) xs)
front_stops next [] = tt
front_stops next (x ∷ xs) = stops_at next x xs (next x) refl (front_stops next xs)

-- a piece is of the kind that its bytes tell
as_kind : (fresh : Bool) (kind other : PieceKind) (p : List ℕ) → kind_by p ≡ kind → IsPiece fresh other p → IsPiece fresh kind p
as_kind fresh kind other p by h =
    let P : PieceKind → Type 0 = λ k. IsPiece fresh k p in
    subst P (kind_is fresh other p h ∙ by) h

-- the same piece at an equal first byte
at_first : (fresh : Bool) (other : PieceKind) (c d : ℕ) (ds : List ℕ) → d ≡ c → IsPiece fresh other (d ∷ ds) → IsPiece fresh other (c ∷ ds)
at_first fresh other c d ds e h =
    let P : ℕ → Type 0 = λ x. IsPiece fresh other (x ∷ ds) in
    subst P e h

run_longest : (fresh : Bool) (next : ℕ → Bool) (kind : PieceKind) (c : ℕ) (cs rest : List ℕ) → Stops next rest
    → ((ds : List ℕ) → kind_by (c ∷ ds) ≡ kind)
    → ((ds : List ℕ) → IsPiece fresh kind (c ∷ ds) → list_all next ds ≡ true)
    → (other : PieceKind) (q r : List ℕ) → IsPiece fresh other q → q ++ r ≡ c ∷ cs ++ rest → length q ≤ suc (length cs)
run_longest fresh next kind c cs rest s by only other [] r p e = zero-le
run_longest fresh next kind c cs rest s by only other (d ∷ ds) r p e =
    let here = as_kind fresh kind other (c ∷ ds) (by ds) (at_first fresh other c d ds (cc) p) in
    suc-le-suc (front_bound next cs rest ds r (only ds here) (cc) s)

-- ---- runs

space_front : (fresh : Bool) (c : ℕ) (cs : List ℕ) (n : ℕ) → is_white c ≡ true → n ≡ 1 + prefix_len is_white cs → IsNext fresh Space (take n (c ∷ cs)) (drop n (c ∷ cs))
space_front fresh c cs n h e =
    let P : ℕ → Type 0 = λ k. IsNext fresh Space (take k (c ∷ cs)) (drop k (c ∷ cs)) in
    subst P (sym (e ∙ one-add _)) (record {
      is_piece = (h, front_passes is_white cs);
      is_longest = run_longest fresh is_white Space c _ _ (front_stops is_white cs) (white_by c h) (λ ds p. p.1);
    })

pub space_next : (fresh : Bool) (z : List ℕ) (n : ℕ) → 0 < length z → is_white (slice_index z 0) ≡ true → n ≡ 1 + prefix_len is_white (drop 1 z) → IsNext fresh Space (take n z) (drop n z)
space_next fresh [] n l h e = absurd (omega arith)
space_next fresh (c ∷ cs) n l h e = space_front fresh c cs n h e

pub word_next : (fresh : Bool) (z : List ℕ) (n : ℕ) → 0 < length z → begins_name (slice_index z 0) ≡ true → n ≡ 1 + prefix_len continues_name (drop 1 z) → IsNext fresh Word (take n z) (drop n z)
word_next fresh [] n l h e = absurd (omega arith)
word_next fresh (c ∷ cs) n l h e =
    let P : ℕ → Type 0 = λ k. IsNext fresh Word (take k (c ∷ cs)) (drop k (c ∷ cs)) in
    subst P (sym (e ∙ one-add _)) (record {
      is_piece = (h, AllPass-from_list_all continues_name (take (prefix_len continues_name cs) cs) (front_passes continues_name cs));
      is_longest = run_longest fresh continues_name Word c _ _ (front_stops continues_name cs) (letter_by c h) (λ ds p. list_all-from_AllPass continues_name ds p.1);
    })

-- the beginning of a number lies in its run
or_front : (a b : Bool) → a ≡ true → (a || b) ≡ true
or_front true b e = refl
or_front false b e = cc

number_from_digit : (d : ℕ) → is_digit d ≡ true → is_number d ≡ true
number_from_digit d h = grind (arith, nat_tests)

begins_in : (c : ℕ) (cs : List ℕ) (b : Bool) → is_digit c ≡ b → begins_number (c ∷ cs) ≡ true → begins_number (c ∷ take (prefix_len is_number cs) cs) ≡ true
begins_in c cs true e h = or_front (is_digit c) _ e
begins_in c [] false e h = h
begins_in c (d ∷ ds) false e h =
    let tail : (c == 46 && is_digit d) ≡ true = rw e at h in
    let digit : is_digit d ≡ true = (both (c == 46) (is_digit d) tail).1 in
    let passes : is_number d ≡ true = number_from_digit d digit in
    let P : Bool → Type 0 = λ b. begins_number (c ∷ take (cond b (1 + prefix_len is_number ds) 0) (d ∷ ds)) ≡ true in
    subst P (sym passes) (rw one-add h)

pub number_next : (fresh : Bool) (z : List ℕ) (n : ℕ) → 0 < length z → begins_number z ≡ true → n ≡ 1 + prefix_len is_number (drop 1 z) → IsNext fresh Number (take n z) (drop n z)
number_next fresh [] n l h e = absurd (omega arith)
number_next fresh (c ∷ cs) n l h e =
    let P : ℕ → Type 0 = λ k. IsNext fresh Number (take k (c ∷ cs)) (drop k (c ∷ cs)) in
    subst P (sym (e ∙ one-add _)) (record {
      is_piece = (begins_in c cs (is_digit c) refl h, front_passes is_number cs);
      is_longest = run_longest fresh is_number Number c _ _ (front_stops is_number cs) (number_by c cs h) (λ ds p. p.1);
    })

inline_tail : (c : ℕ) (ds : List ℕ) → c ≡ 35 → IsPiece true Directive (c ∷ ds) → list_all is_inline ds ≡ true
inline_tail c ds e h =
    let same : h.1.0 ≡ ds = cc in
    ap (list_all is_inline) (sym same) ∙ h.1.2

pub directive_next : (z : List ℕ) (n : ℕ) → 0 < length z → slice_index z 0 ≡ 35 → n ≡ 1 + prefix_len is_inline (drop 1 z) → IsNext true Directive (take n z) (drop n z)
directive_next [] n l h e = absurd (omega arith)
directive_next (c ∷ cs) n l h e =
    let P : ℕ → Type 0 = λ k. IsNext true Directive (take k (c ∷ cs)) (drop k (c ∷ cs)) in
    subst P (sym (e ∙ one-add _)) (record {
      is_piece = (refl, (take (prefix_len is_inline cs) cs, (let first : c ≡ 35 = h in rw first refl), front_passes is_inline cs));
      is_longest = run_longest true is_inline Directive c _ _ (front_stops is_inline cs) (λ ds. let first : c ≡ 35 = h in rw first refl) (λ ds p. inline_tail c ds h p);
    })

-- ---- comments

line_longest : (fresh : Bool) (cs rest : List ℕ) → Stops is_inline rest → (other : PieceKind) (q r : List ℕ) → IsPiece fresh other q → q ++ r ≡ 47 ∷ 47 ∷ (cs ++ rest) → length q ≤ suc (suc (length cs))
line_longest fresh cs rest s other [] r p e = zero-le
line_longest fresh cs rest s other (c ∷ []) r p e = suc-le-suc zero-le
line_longest fresh cs rest s other (c ∷ d ∷ ds) r p e =
    let first : c ≡ 47 = cc in
    let second : d ≡ 47 = cc in
    let here : IsPiece fresh other (47 ∷ 47 ∷ ds) = rw (first, second) at p in
    let comment = as_kind fresh LineComment other (47 ∷ 47 ∷ ds) refl here in
    let same : comment.0 ≡ ds = cc in
    suc-le-suc (suc-le-suc (front_bound is_inline cs rest ds r (ap (list_all is_inline) (sym same) ∙ comment.2) (cc) s))

pub line_next : (fresh : Bool) (z : List ℕ) (n : ℕ) → BeginsWith z 47 47 → n ≡ 2 + prefix_len is_inline (drop 2 z) → IsNext fresh LineComment (take n z) (drop n z)
line_next fresh [] n b e = absurd (omega (arith, b.0))
line_next fresh (c ∷ []) n b e = absurd (omega (arith, b.0))
line_next fresh (c ∷ d ∷ ds) n b e =
    let first : c ≡ 47 = b.1 in
    let second : d ≡ 47 = b.2 in
    let size : n ≡ suc (suc (prefix_len is_inline ds)) = omega (arith, e) in
    let P : ℕ → Type 0 = λ k. IsNext fresh LineComment (take k (c ∷ d ∷ ds)) (drop k (c ∷ d ∷ ds)) in
    subst P (sym size) (rw (first, second) (record {
      is_piece = (_, refl, front_passes is_inline ds);
      is_longest = line_longest fresh _ _ (front_stops is_inline ds);
    }))

block_bound : (t u r rest : List ℕ) → HasNoEnd (u ++ 42 ∷ []) → (u ++ 42 ∷ 47 ∷ []) ++ r ≡ t ++ 42 ∷ 47 ∷ rest → length u ≤ length t
block_bound t u r rest h e =
    let joined : (u ++ 42 ∷ []) ++ 47 ∷ r ≡ t ++ 42 ∷ 47 ∷ rest = append_assoc u (42 ∷ []) (47 ∷ r) ∙ sym (append_assoc u (42 ∷ 47 ∷ []) r) ∙ e in
    omega (arith, no_end_bound t (u ++ 42 ∷ []) (47 ∷ r) rest h joined, length-append u (42 ∷ []))

comment_case : (fresh : Bool) (t rest : List ℕ) (other : PieceKind) (ds r : List ℕ) (b : Bool) → has_end ds ≡ b → IsPiece fresh other (47 ∷ 42 ∷ ds) → ds ++ r ≡ t ++ 42 ∷ 47 ∷ rest
    → length ds ≤ length (t ++ 42 ∷ 47 ∷ [])
comment_case fresh t rest other ds r true h p e =
    let by : kind_by (47 ∷ 42 ∷ ds) ≡ BlockComment = ap (λ b. cond b BlockComment OpenComment) h in
    let comment = as_kind fresh BlockComment other (47 ∷ 42 ∷ ds) by p in
    let inside : comment.0 ++ 42 ∷ 47 ∷ [] ≡ ds = cc in
    omega (arith, block_bound t comment.0 r rest comment.2 (ap (λ x. x ++ r) inside ∙ e), ap length inside, length-append comment.0 (42 ∷ 47 ∷ []), length-append t (42 ∷ 47 ∷ []))
comment_case fresh t rest other ds r false h p e =
    let by : kind_by (47 ∷ 42 ∷ ds) ≡ OpenComment = ap (λ b. cond b BlockComment OpenComment) h in
    let comment = as_kind fresh OpenComment other (47 ∷ 42 ∷ ds) by p in
    let inside : comment.0 ≡ ds = cc in
    let none : HasNoEnd ds = subst HasNoEnd inside comment.2 in
    omega (arith, no_end_bound t ds r rest none e, length-append t (42 ∷ 47 ∷ []))

block_longest : (fresh : Bool) (t rest : List ℕ) (other : PieceKind) (q r : List ℕ) → IsPiece fresh other q → q ++ r ≡ 47 ∷ 42 ∷ (t ++ 42 ∷ 47 ∷ rest) → length q ≤ suc (suc (length (t ++ 42 ∷ 47 ∷ [])))
block_longest fresh t rest other [] r p e = zero-le
block_longest fresh t rest other (c ∷ []) r p e = suc-le-suc zero-le
block_longest fresh t rest other (c ∷ d ∷ ds) r p e =
    let first : c ≡ 47 = cc in
    let second : d ≡ 42 = cc in
    let here : IsPiece fresh other (47 ∷ 42 ∷ ds) = rw (first, second) at p in
    suc-le-suc (suc-le-suc (comment_case fresh t rest other ds r (has_end ds) refl here (cc)))

block_here : (fresh : Bool) (t rest : List ℕ) → HasNoEnd (t ++ 42 ∷ []) → IsNext fresh BlockComment (47 ∷ 42 ∷ (t ++ 42 ∷ 47 ∷ [])) rest
block_here fresh t rest h = record {
  is_piece = (t, refl, h);
  is_longest = λ other q r p e. block_longest fresh t rest other q r p (e ∙ ap (λ x. 47 ∷ 42 ∷ x) (append_assoc t (42 ∷ 47 ∷ []) rest));
}

-- a piece at its place in the bytes
placed_next : (fresh : Bool) (kind : PieceKind) (p rest z : List ℕ) (n : ℕ) → p ++ rest ≡ z → length p ≡ n → IsNext fresh kind p rest → IsNext fresh kind (take n z) (drop n z)
placed_next fresh kind p rest z n e l h =
    let P : List ℕ → Type 0 = λ x. IsNext fresh kind x rest in
    let Q : List ℕ → Type 0 = λ x. IsNext fresh kind (take n z) x in
    let front : p ≡ take n z = sym (take_at p rest n l) ∙ ap (take n) e in
    let back : rest ≡ drop n z = sym (drop_at p rest n l) ∙ ap (drop n) e in
    subst Q back (subst P front h)

-- the bytes behind the first two
two_more : (z : List ℕ) (a b : ℕ) → BeginsWith z a b → z ≡ a ∷ b ∷ drop 2 z
two_more [] a b h = absurd (omega (arith, h.0))
two_more (c ∷ []) a b h = absurd (omega (arith, h.0))
two_more (c ∷ d ∷ ds) a b h =
    let first : c ≡ a = h.1 in
    let second : d ≡ b = h.2 in
    cc

-- the bytes split at the first `*/`
split_at : (z : List ℕ) (n : ℕ) → n + 1 < length z → slice_index z n ≡ 42 → slice_index z (n + 1) ≡ 47 → take n z ++ 42 ∷ 47 ∷ drop (n + 1 + 1) z ≡ z
split_at z n l a b =
    let one : drop n z ≡ 42 ∷ drop (n + 1) z = drop_more z n 0 (omega arith) ∙ ap (λ x. x ∷ drop (n + 1) z) a in
    let two : drop (n + 1) z ≡ 47 ∷ drop (n + 1 + 1) z = drop_more z (n + 1) 0 l ∙ ap (λ x. x ∷ drop (n + 1 + 1) z) b in
    ap (λ x. take n z ++ x) (sym (one ∙ ap (λ x. 42 ∷ x) two)) ∙ take-append-drop n z

pub block_next : (fresh : Bool) (z : List ℕ) (n : ℕ) → BeginsWith z 47 42 → n + 1 < length (drop 2 z) → slice_index (drop 2 z) n ≡ 42 → slice_index (drop 2 z) (n + 1) ≡ 47
    → HasNoEnd (take (n + 1) (drop 2 z)) → IsNext fresh BlockComment (take (n + 4) z) (drop (n + 4) z)
block_next fresh z n b l first second h =
    let inner = drop 2 z in
    let t = take n inner in
    let rest = drop (n + 1 + 1) inner in
    let upto : take (n + 1) inner ≡ t ++ 42 ∷ [] = take_more inner n 0 (omega arith) ∙ ap (λ x. t ++ x ∷ []) first in
    let whole : (47 ∷ 42 ∷ (t ++ 42 ∷ 47 ∷ [])) ++ rest ≡ z =
    ap (λ x. 47 ∷ 42 ∷ x) (append_assoc t (42 ∷ 47 ∷ []) rest ∙ split_at inner n l first second) ∙ sym (two_more z 47 42 b) in
    let front = length-take-le n inner (omega arith) in
    let size : length (47 ∷ 42 ∷ (t ++ 42 ∷ 47 ∷ [])) ≡ n + 4 = omega (arith, length-append t (42 ∷ 47 ∷ [])) in
    placed_next fresh BlockComment (47 ∷ 42 ∷ (t ++ 42 ∷ 47 ∷ [])) rest z (n + 4) whole size (block_here fresh t rest (subst HasNoEnd upto h))

pub open_next : (fresh : Bool) (z : List ℕ) → BeginsWith z 47 42 → HasNoEnd (drop 2 z) → IsNext fresh OpenComment (take (length z) z) (drop (length z) z)
open_next fresh z b h =
    placed_next fresh OpenComment z [] z (length z) (append-nil z) refl (record {
      is_piece = (drop 2 z, sym (two_more z 47 42 b), h);
      is_longest = λ other q r p e. omega (arith, ap length e, length-append q r, length-append z []);
    })

-- ---- marks

-- nothing but a mark can stand at the front of the bytes
pub record IsPlain (fresh : Bool) (z : List ℕ) : Type 0 where
  pub white : is_white (slice_index z 0) ≡ false
  pub letter : begins_name (slice_index z 0) ≡ false
  pub number : begins_number z ≡ false
  pub directive : fresh ≡ true → slice_index z 0 ≡ 35 → ⊥
  pub line : BeginsWith z 47 47 → ⊥
  pub block : BeginsWith z 47 42 → ⊥

digit_front : (p r : List ℕ) → begins_digit p ≡ true → begins_digit (p ++ r) ≡ true
digit_front [] r h = cc
digit_front (c ∷ cs) r h = h

number_front_case : (c : ℕ) (cs r : List ℕ) (b : Bool) → is_digit c ≡ b → begins_number (c ∷ cs) ≡ true → begins_number (c ∷ cs ++ r) ≡ true
number_front_case c cs r true e h = or_front (is_digit c) _ e
number_front_case c cs r false e h =
    let tail : (c == 46 && begins_digit cs) ≡ true = rw e at h in
    let parts = both (c == 46) (begins_digit cs) tail in
    rw (e, parts.0) (digit_front cs r parts.1)

number_front : (p r : List ℕ) → begins_number p ≡ true → begins_number (p ++ r) ≡ true
number_front [] r h = cc
number_front (c ∷ cs) r h = number_front_case c cs r (is_digit c) refl h

two_bytes : (a b : ℕ) (text p r z : List ℕ) → a ∷ b ∷ text ≡ p → p ++ r ≡ z → BeginsWith z a b
two_bytes a b text p r z e f =
    let whole : a ∷ b ∷ (text ++ r) ≡ z = ap (λ x. x ++ r) e ∙ f in
    let P : List ℕ → Type 0 = λ x. BeginsWith x a b in
    subst P whole (omega arith, refl, refl)

only_sign : (fresh : Bool) (z : List ℕ) → IsPlain fresh z → (other : PieceKind) (q r : List ℕ) → IsPiece fresh other q → q ++ r ≡ z → IsPiece fresh Sign q
only_sign fresh z h Space [] r p e = absurd p
only_sign fresh z h Space (c ∷ cs) r p e = absurd (false≢true (sym h.white ∙ ap (λ x. is_white (slice_index x 0)) (sym e) ∙ p.0))
only_sign fresh z h Word [] r p e = absurd p
only_sign fresh z h Word (c ∷ cs) r p e = absurd (false≢true (sym h.letter ∙ ap (λ x. begins_name (slice_index x 0)) (sym e) ∙ p.0))
only_sign fresh z h Number [] r p e = absurd p
only_sign fresh z h Number (c ∷ cs) r p e = absurd (false≢true (sym h.number ∙ ap begins_number (sym e) ∙ number_front (c ∷ cs) r p.0))
only_sign fresh z h LineComment q r p e = absurd (h.line (two_bytes 47 47 p.0 q r z p.1 e))
only_sign fresh z h BlockComment q r p e = absurd (h.block (two_bytes 47 42 (p.0 ++ 42 ∷ 47 ∷ []) q r z p.1 e))
only_sign fresh z h OpenComment q r p e = absurd (h.block (two_bytes 47 42 p.0 q r z p.1 e))
only_sign fresh z h Directive q r p e =
    let whole : 35 ∷ (p.1.0 ++ r) ≡ z = ap (λ x. x ++ r) p.1.1 ∙ e in
    absurd (h.directive p.0 (ap (λ x. slice_index x 0) (sym whole)))
only_sign fresh z h Sign q r p e = p

pub stuck_here : (fresh : Bool) (z : List ℕ) → IsPlain fresh z → HasNoMark z → IsStuck fresh z
stuck_here fresh z h none other q r p e =
    let m = only_sign fresh z h other q r p e in
    none m.0 r (ap (λ x. x ++ r) m.1 ∙ e)

pub sign_next : (fresh : Bool) (z : List ℕ) (n : ℕ) → IsPlain fresh z → IsLongestMark z n → n ≤ length z → IsNext fresh Sign (take n z) (drop n z)
sign_next fresh z n h m l = record {
  is_piece = m.0;
  is_longest = λ other q r p e.
      let whole = e ∙ take-append-drop n z in
      let sign = only_sign fresh z h other q r p whole in
      omega (arith, m.1 sign.0 r (ap (λ x. x ++ r) sign.1 ∙ whole), ap length sign.1, length-take-le n z l);
}
