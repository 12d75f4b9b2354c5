-- The table of reserved words.
use Rattle.std.proofs.Common.{ℕ, ◌≡◌, refl, sym, ap, ◌∙◌, Bool, true, false, cond, List, [], ◌∷◌, map, Option, Some, None, inl, inr, nat_eq}
use Rattle.std.proofs.lemmas.Slice.Eq.{bytes_eq-Decides}
use Rattle.std.specs.Prelude.{◌≢◌, MatchOption}
use Rattle.std.specs.Cmp.Lexicographic.{pointwise}
use Rattle.sc_base.specs.GateNames.{gate_text}
use Rattle.sc_base.specs.declared.GateName.{GateName}
use Rattle.sc_base.specs.declared.GateName.TheVariants as gate
use Rattle.sc_base.proofs.GateNameLemmas.{gate_text-apart}
use Rattle.sc_syntax.specs.declared.reading.TheConstants.{WORDS}
use Rattle.sc_syntax.specs.declared.token.TokenSort.{TokenSort}
use Rattle.sc_syntax.specs.declared.token.TokenSort.TheVariants as sort
use Rattle.sc_syntax.specs.declared.token.Word.{Word}
use Rattle.sc_syntax.specs.declared.token.Word.TheVariants as word
use Rattle.sc_syntax.specs.Pieces.{IsWordSort}
use Rattle.sc_syntax.specs.Reserved.{word_text, IsReserved}
use Rattle.sc_syntax.specs.Rows.{row_of}

abbrev pub table : List (List ℕ × Word)
table = map (λ row. (row.0.now, row.1)) WORDS

-- each row has the word of its text
abbrev Spells : List (List ℕ × Word) → Type 0
Spells [] = Unit {0}
Spells (row ∷ rows) = (word_text row.1 ≡ row.0) × Spells rows

found_at : (row : List ℕ × Word) (rows : List (List ℕ × Word)) (text : List ℕ) (w : Word) (b : Bool)
    → pointwise nat_eq row.0 text ≡ b → word_text row.1 ≡ row.0 → (row_of rows text ≡ Some w → word_text w ≡ text)
    → cond b (Some row.1) (row_of rows text) ≡ Some w → word_text w ≡ text
found_at row rows text w true same here later e =
    let word : row.1 ≡ w = cc in
    ap word_text (sym word) ∙ here ∙ (bytes_eq-Decides row.0 text).0 same
found_at row rows text w false same here later e = later e

found : (rows : List (List ℕ × Word)) (text : List ℕ) (w : Word) → Spells rows → row_of rows text ≡ Some w → word_text w ≡ text
found [] text w h e = cc
found (row ∷ rows) text w h e = found_at row rows text w (pointwise nat_eq row.0 text) refl h.0 (found rows text w h.1) e

spelled : Spells table
spelled = (refl, (refl, (refl, (refl, (refl, (refl, (refl, (refl, (refl, (refl, (refl, (refl, (refl, tt)))))))))))))

word_row : (w : Word) → row_of table (word_text w) ≡ Some w
word_row word.Module = refl
word_row _ = refl

gate_row : (g : GateName) → row_of table (gate_text g) ≡ None
gate_row gate.X = refl
gate_row _ = refl

-- what a look-up in the table says
pub word_found : (text : List ℕ) (found : Option Word) → found ≡ row_of table text → MatchOption found ((w : Word) → word_text w ≢ text) (λ w. word_text w ≡ text)
word_found text None e = λ w is.
    let row : row_of table text ≡ Some w = ap (row_of table) (sym is) ∙ word_row w in
    cc
word_found text (Some w) e = found table text w spelled (sym e)

-- what is neither a word of the table nor a gate is not reserved
pub not_reserved : (text : List ℕ) → ((w : Word) → word_text w ≢ text) → ((g : GateName) → gate_text g ≢ text) → IsReserved text → ⊥
not_reserved text no_word no_gate (inl r) = no_word r.0 r.1
not_reserved text no_word no_gate (inr r) = no_gate r.0 r.1

word_text-apart : (w v : Word) → word_text w ≡ word_text v → w ≡ v
word_text-apart w v e =
    let row : Some w ≡ Some v = sym (word_row w) ∙ ap (row_of table) e ∙ word_row v in
    cc

-- no gate is spelled as a word of the table
word_or_gate : (w : Word) (g : GateName) → word_text w ≡ gate_text g → ⊥
word_or_gate w g e =
    let row : Some w ≡ None = sym (word_row w) ∙ ap (row_of table) e ∙ gate_row g in
    cc

-- a word has one sort
pub one_word_sort : (text : List ℕ) (s t : TokenSort) → IsWordSort text s → IsWordSort text t → s ≡ t
one_word_sort text (sort.Word w) (sort.Word v) e f = ap sort.Word (word_text-apart w v (e ∙ sym f))
one_word_sort text (sort.Word w) (sort.Gate g) e f = absurd (word_or_gate w g (e ∙ sym f))
one_word_sort text (sort.Word w) sort.Name e f = absurd (f (inl (w, e)))
one_word_sort text (sort.Word w) _ e f = absurd f
one_word_sort text (sort.Gate g) (sort.Word w) e f = absurd (word_or_gate w g (f ∙ sym e))
one_word_sort text (sort.Gate g) (sort.Gate h) e f = ap sort.Gate (gate_text-apart g h (e ∙ sym f))
one_word_sort text (sort.Gate g) sort.Name e f = absurd (f (inr (g, e)))
one_word_sort text (sort.Gate g) _ e f = absurd f
one_word_sort text sort.Name (sort.Word w) e f = absurd (e (inl (w, f)))
one_word_sort text sort.Name (sort.Gate g) e f = absurd (e (inr (g, f)))
one_word_sort text sort.Name sort.Name e f = refl
one_word_sort text sort.Name _ e f = absurd f
one_word_sort text _ t e f = absurd e
