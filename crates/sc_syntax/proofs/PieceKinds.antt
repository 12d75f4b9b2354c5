-- The bytes of a piece tell its kind.
use Rattle.std.proofs.Common.{ℕ, ◌≡◌, refl, sym, ap, ◌∙◌, Bool, true, false, cond, ◌||◌, ◌&&◌, ◌==◌, List, [], ◌∷◌, ◌++◌, arith}
use Rattle.std.proofs.lemmas.Bool.Decides.{nat_tests}
use Rattle.sc_syntax.specs.declared.piece.PieceKind.{PieceKind}
use Rattle.sc_syntax.specs.declared.piece.PieceKind.TheVariants.{Space, LineComment, BlockComment, OpenComment, Directive, Word, Number, Sign}
use Rattle.sc_syntax.specs.declared.token.Mark.{Mark}
use Rattle.sc_syntax.specs.declared.token.Mark.TheVariants as mark
use Rattle.sc_base.specs.NameTexts.{begins_name}
use Rattle.sc_syntax.specs.Bytes.{is_digit}
use Rattle.sc_syntax.specs.Marks.{mark_text}
use Rattle.sc_syntax.specs.Pieces.{begins_digit, begins_number, IsPiece}
use Rattle.sc_syntax.specs.Spaces.{is_white}
use Rattle.sc_syntax.proofs.Classes.{white_letter, white_digit, letter_digit}
use Rattle.sc_syntax.proofs.Ends.{has_end, has_no_end, ends_in}

-- the kind of what begins with `/`
abbrev pub slash_kind : List ℕ → PieceKind
slash_kind [] = Sign
slash_kind (d ∷ ds) = cond (d == 47) LineComment (cond (d == 42) (cond (has_end ds) BlockComment OpenComment) Sign)

abbrev pub kind_by : List ℕ → PieceKind
kind_by [] = Sign
kind_by (c ∷ cs) =
    cond (is_white c) Space (cond (begins_name c) Word (cond (is_digit c) Number (cond (c == 46) Number (cond (c == 35) Directive (cond (c == 47) (slash_kind cs) Sign)))))

pub no : (b : Bool) → (b ≡ true → ⊥) → b ≡ false
no true h = absurd (h refl)
no false h = refl

-- ---- by the first byte

pub white_by : (c : ℕ) → is_white c ≡ true → (ds : List ℕ) → kind_by (c ∷ ds) ≡ Space
white_by c h ds = rw h refl

pub letter_by : (c : ℕ) → begins_name c ≡ true → (ds : List ℕ) → kind_by (c ∷ ds) ≡ Word
letter_by c h ds =
    let w : is_white c ≡ false = no _ (λ k. white_letter c k h) in
    rw (w, h) refl

digit_by : (c : ℕ) → is_digit c ≡ true → (ds : List ℕ) → kind_by (c ∷ ds) ≡ Number
digit_by c h ds =
    let w : is_white c ≡ false = no _ (λ k. white_digit c k h) in
    let l : begins_name c ≡ false = no _ (λ k. letter_digit c k h) in
    rw (w, l, h) refl

point_by : (c : ℕ) → (c == 46) ≡ true → (ds : List ℕ) → kind_by (c ∷ ds) ≡ Number
point_by c h ds =
    let is : c ≡ 46 = grind (arith, nat_tests) in
    rw is refl

front : (a b : Bool) → (a && b) ≡ true → a ≡ true
front true b h = refl
front false b h = cc

number_by_case : (c : ℕ) (cs : List ℕ) (b : Bool) → is_digit c ≡ b → (is_digit c || (c == 46 && begins_digit cs)) ≡ true → (ds : List ℕ) → kind_by (c ∷ ds) ≡ Number
number_by_case c cs true e h ds = digit_by c e ds
number_by_case c cs false e h ds = point_by c (front (c == 46) (begins_digit cs) (let k : (c == 46 && begins_digit cs) ≡ true = rw e at h in k)) ds

pub number_by : (c : ℕ) (cs : List ℕ) → begins_number (c ∷ cs) ≡ true → (ds : List ℕ) → kind_by (c ∷ ds) ≡ Number
number_by c cs h ds = number_by_case c cs (is_digit c) refl h ds

-- ---- by the piece

mark_kind : (m : Mark) → kind_by (mark_text m) ≡ Sign
mark_kind mark.PlusPlus = refl
mark_kind _ = refl

pub kind_is : (fresh : Bool) (k : PieceKind) (p : List ℕ) → IsPiece fresh k p → k ≡ kind_by p
kind_is fresh Space [] h = absurd h
kind_is fresh Space (c ∷ cs) h = sym (white_by c h.0 cs)
kind_is fresh LineComment p h = ap kind_by h.1
kind_is fresh BlockComment p h =
    let closed : kind_by (47 ∷ 42 ∷ (h.0 ++ 42 ∷ 47 ∷ [])) ≡ BlockComment = ap (λ b. cond b BlockComment OpenComment) (ends_in h.0) in
    sym closed ∙ ap kind_by h.1
kind_is fresh OpenComment p h =
    let open_one : kind_by (47 ∷ 42 ∷ h.0) ≡ OpenComment = ap (λ b. cond b BlockComment OpenComment) (has_no_end h.0 h.2) in
    sym open_one ∙ ap kind_by h.1
kind_is fresh Directive p h = ap kind_by h.1.1
kind_is fresh Word [] h = absurd h
kind_is fresh Word (c ∷ cs) h = sym (letter_by c h.0 cs)
kind_is fresh Number [] h = absurd h
kind_is fresh Number (c ∷ cs) h = sym (number_by c cs h.0 cs)
kind_is fresh Sign p h = sym (mark_kind h.0) ∙ ap kind_by h.1

-- a mark has one byte or two
pub mark_short : (m : Mark) (c d e : ℕ) (es : List ℕ) → mark_text m ≡ c ∷ d ∷ e ∷ es → ⊥
mark_short mark.PlusPlus c d e es h = cc
mark_short _ c d e es h = cc

pub mark_some : (m : Mark) → mark_text m ≡ [] → ⊥
mark_some mark.PlusPlus e = cc
mark_some _ e = cc

-- every piece has a byte
pub some_byte : (fresh : Bool) (k : PieceKind) (p r : List ℕ) → IsPiece fresh k p → p ++ r ≡ [] → ⊥
some_byte fresh k (c ∷ cs) r h e = cc
some_byte fresh Space [] r h e = h
some_byte fresh LineComment [] r h e = cc
some_byte fresh BlockComment [] r h e = cc
some_byte fresh OpenComment [] r h e = cc
some_byte fresh Directive [] r h e = cc
some_byte fresh Word [] r h e = h
some_byte fresh Number [] r h e = h
some_byte fresh Sign [] r h e = mark_some h.0 h.1
