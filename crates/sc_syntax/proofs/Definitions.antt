-- Directives and the names behind them.
use Rattle.std.proofs.Common.{ℕ, ◌≡◌, refl, sym, ap, ◌∙◌, subst, ◌+◌, ◌-◌, ◌≤◌, Bool, true, false, cond, List, [], ◌++◌, length, take, drop, slice_range, Some, inl, inr, codes, not, nat_eq, arith}
use Rattle.std.proofs.Math.Seq.{take-add}
use Rattle.std.proofs.lemmas.List.Elements.{All-drop}
use Rattle.std.proofs.lemmas.Slice.Eq.{bytes_eq-Decides}
use Rattle.std.specs.Cmp.Lexicographic.{pointwise}
use Rattle.std.specs.List.{All}
use Rattle.sc_base.specs.Texts.{same}
use Rattle.sc_base.specs.declared.Place.{Place}
use Rattle.sc_syntax.specs.declared.token.Token.{Token}
use Rattle.sc_syntax.specs.Cuts.{AreValues}
use Rattle.sc_syntax.specs.Directives.{Names, Scans, with_name, IsDefinition, Defines, Directs, word_start, word_end, directive_word}
use Rattle.sc_syntax.specs.TokenLists.{IsRead}
use Rattle.sc_syntax.proofs.CutLemmas.{length_part, part_front, part_back}
use Rattle.sc_syntax.proofs.Scanning.{scan_once}

-- tokens that are no definition define nothing
pub not_defined : (source : List ℕ) (names : Names) (place : Place) (before bytes : List ℕ) (tokens : List Token) (after : Names)
    → Scans place before [] bytes tokens → (IsDefinition source names tokens → ⊥) → Defines source names place before bytes after → ⊥
not_defined source names place before bytes tokens after s none d =
    none (subst (IsDefinition source names) (scan_once place before [] bytes d.tokens tokens d.scanned s) d.is_definition)

value_case : (source : List ℕ) (names : Names) (text : List ℕ) (tokens value : List Token) (b : Bool) → All (IsRead source) tokens → AreValues source names
    → cond b (Some (drop 1 tokens)) (names text) ≡ Some value → All (IsRead source) value
value_case source names text tokens value true h v e =
    let is : drop 1 tokens ≡ value = cc in
    let P : List Token → Type 0 = λ x. All (IsRead source) x in
    subst P is (All-drop (IsRead source) 1 tokens h)
value_case source names text tokens value false h v e = v text value e

-- the values behind a definition are read from the source
pub values_behind : (source : List ℕ) (names after : Names) (name : List ℕ) (tokens : List Token) → All (IsRead source) tokens → AreValues source names
    → after ≡ with_name names name (drop 1 tokens) → AreValues source after
values_behind source names after name tokens h v e text value is =
    value_case source names text tokens value (same name text) h v (sym (ap (λ f. f text) e) ∙ is)

-- ---- a directive's line

-- where the word of a line stands, and the line in its source
pub record LineAt (source line : List ℕ) (start end to : ℕ) : Type 0 where
  pub ordered : start ≤ end
  pub ends : end ≤ length source
  pub line_is : line ≡ slice_range source start end
  pub to_is : to ≡ word_end line
  pub within : to ≤ length line

room : (source line : List ℕ) (start end to : ℕ) → LineAt source line start end to → to ≤ end - start
room source line start end to l = omega (arith, l.within, ap length l.line_is, length_part source start end l.ordered l.ends)

-- the bytes before what is left of the line
front_is : (source line : List ℕ) (start end to : ℕ) → LineAt source line start end to
    → take start source ++ take (word_end (slice_range source start end)) (slice_range source start end) ≡ take (start + to) source
front_is source line start end to l =
    let word = ap word_end (sym l.line_is) ∙ sym l.to_is in
    ap (λ n. take start source ++ take n (slice_range source start end)) word
    ∙ ap (λ x. take start source ++ x) (part_front source start end to (room source line start end to l)) ∙ sym (take-add start to source)

back_is : (source line : List ℕ) (start end to : ℕ) → LineAt source line start end to
    → drop (word_end (slice_range source start end)) (slice_range source start end) ≡ slice_range source (start + to) end
back_is source line start end to l =
    let word = ap word_end (sym l.line_is) ∙ sym l.to_is in
    ap (λ n. drop n (slice_range source start end)) word ∙ part_back source start end to l.ordered (room source line start end to l)

pub directs_define : (source line : List ℕ) (names after : Names) (place : Place) (start end to : ℕ) → LineAt source line start end to → directive_word line ≡ codes "define"
    → Defines source names place (take (start + to) source) (slice_range source (start + to) end) after
    → Directs source names place (take start source) (slice_range source start end) after
directs_define source line names after place start end to l w d =
    let P : List ℕ → Type 0 = λ x. Defines source names place x (drop (word_end (slice_range source start end)) (slice_range source start end)) after in
    let Q : List ℕ → Type 0 = λ x. Defines source names place (take (start + to) source) x after in
    inr (ap directive_word (sym l.line_is) ∙ w, subst P (sym (front_is source line start end to l)) (subst Q (sym (back_is source line start end to l)) d))

pub defines_from : (source line : List ℕ) (names after : Names) (place : Place) (start end to : ℕ) → LineAt source line start end to → directive_word line ≡ codes "define"
    → Directs source names place (take start source) (slice_range source start end) after
    → Defines source names place (take (start + to) source) (slice_range source (start + to) end) after
defines_from source line names after place start end to l w (inl h) =
    let e : codes "include" ≡ codes "define" = sym h.0 ∙ ap directive_word (sym l.line_is) ∙ w in
    cc
defines_from source line names after place start end to l w (inr h) =
    let P : List ℕ → Type 0 = λ x. Defines source names place x (drop (word_end (slice_range source start end)) (slice_range source start end)) after in
    let Q : List ℕ → Type 0 = λ x. Defines source names place (take (start + to) source) x after in
    subst Q (back_is source line start end to l) (subst P (front_is source line start end to l) h.1)

not_true : (b : Bool) → false ≡ not b → b ≡ true
not_true true e = refl
not_true false e = cc

-- a test that two texts differ failed
pub same_text : (xs ys : List ℕ) → false ≡ not (pointwise nat_eq xs ys) → xs ≡ ys
same_text xs ys e = (bytes_eq-Decides xs ys).0 (not_true _ e)

-- the word that was cut from a line
pub word_from : (line word : List ℕ) (from to : ℕ) → word ≡ slice_range line from to → from ≡ word_start line → to ≡ word_end line → directive_word line ≡ word
word_from line word from to e f t = ap (λ n. slice_range line n (word_end line)) (sym f) ∙ ap (slice_range line from) (sym t) ∙ sym e
