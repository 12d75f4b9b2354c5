-- What a turn of the lexer's loop keeps.
use Rattle.std.proofs.Common.{Bool, ℕ, ◌≡◌, sym, ap, ◌∙◌, subst, ◌+◌, ◌-◌, ◌<◌, ◌≤◌, List, [], ◌++◌, length, take, drop, slice_range, reverse, Ok, Err, ◌==◌, inl, inr, arith}
use Rattle.std.proofs.lemmas.List.{length-reverse, drop_all}
use Rattle.std.proofs.lemmas.List.Folds.{length-prefix_len}
use Rattle.std.proofs.lemmas.List.Sums.{count_by-le-length, prefix_len-le-length}
use Rattle.std.specs.declared.result.Result.{Result}
use Rattle.sc_base.specs.declared.Place.{Place}
use Rattle.sc_syntax.specs.declared.fault.LexFault.{LexFault}
use Rattle.sc_syntax.specs.declared.fault.LexFault.TheVariants as faults
use Rattle.sc_syntax.specs.declared.piece.PieceKind.{PieceKind}
use Rattle.sc_syntax.specs.declared.token.Token.{Token}
use Rattle.sc_syntax.specs.Cuts.{Stands, TakesPiece, RefusesPiece}
use Rattle.sc_syntax.specs.Directives.{Names, no_names}
use Rattle.sc_syntax.specs.Lexing.{place_after, fault_of, Gives, Reads, at_end, after_piece, at_too_many, at_fault, at_stuck}
use Rattle.sc_syntax.specs.Pieces.{IsPiece, IsNext, IsStuck}
use Rattle.sc_syntax.specs.Spaces.{begins_line, is_inline}
use Rattle.sc_syntax.proofs.CutLemmas.{CutsIn, cut_of, ends_within, joined, is_next, passed, left, slice_is, part_all}

-- what the rest gives, the whole gives
pub record GoesOn (source : List ℕ) (names : Names) (tokens : List Token) (at : ℕ) : Type 0 where
  pub goes_on : (outcome : Result (List Token) LexFault) → Reads source (take at source) names tokens (drop at source) outcome → Reads source [] no_names [] source outcome

pub begins : (source : List ℕ) (names : Names) → names ≡ no_names → GoesOn source names [] 0
begins source names e = record {
  goes_on = λ outcome h.
      let P : Names → Type 0 = λ x. Reads source [] x [] source outcome in
      subst P e h;
}

pub ends : (source : List ℕ) (names : Names) (tokens : List Token) (at : ℕ) → GoesOn source names tokens at → length source ≤ at → Reads source [] no_names [] source (Ok tokens)
ends source names tokens at g l =
    let P : List ℕ → Type 0 = λ x. Reads source (take at source) names tokens x (Ok tokens) in
    g.goes_on _ (subst P (sym (drop_all at source l)) (at_end (take at source) names tokens))

-- lines and columns are no more than the bytes before
pub line_small : (before : List ℕ) → (place_after before).line ≤ length before + 1
line_small before = omega (arith, count_by-le-length (λ c. c == 10) before)

pub column_small : (before : List ℕ) → (place_after before).column ≤ length before + 1
column_small before =
    let back = reverse before in
    omega (arith, length-prefix_len is_inline back, prefix_len-le-length is_inline back, length-reverse before)

-- the bytes of the source that are left
whole : (source rest piece : List ℕ) (at n : ℕ) (kind : PieceKind) → CutsIn source rest piece at (length source) n (begins_line (take at source)) kind → piece ++ drop n rest ≡ drop at source
whole source rest piece at n kind c = joined source rest piece at (length source) n _ kind c ∙ part_all source at

-- one piece more
pub turn : (source rest piece : List ℕ) (names after : Names) (tokens more : List Token) (at n : ℕ) (kind : PieceKind)
    → GoesOn source names tokens at → CutsIn source rest piece at (length source) n (begins_line (take at source)) kind → TakesPiece source kind at (at + n) names tokens after more
    → GoesOn source after more (at + n)
turn source rest piece names after tokens more at n kind g c t = record {
  goes_on = λ outcome h.
      let fresh = begins_line (take at source) in
      let P : List ℕ → Type 0 = λ x. Reads source x after more (drop n rest) outcome in
      let Q : List ℕ → Type 0 = λ x. Reads source (take (at + n) source) after more x outcome in
      let R : List Token → Type 0 = λ x. Reads source (take at source ++ piece) after x (drop n rest) outcome in
      let S : List ℕ → Type 0 = λ x. Gives source names kind (take at source) x t.new after in
      let behind = left source rest piece at (length source) n fresh kind c ∙ part_all source (at + n) in
      let later = subst P (sym (passed source rest piece at (length source) n fresh kind c)) (subst Q (sym behind) h) in
      let gives = subst S (slice_is source rest piece at (length source) n fresh kind c) t.gives in
      g.goes_on outcome (after_piece _ _ _ _ outcome kind piece (drop n rest) t.new after (whole source rest piece at n kind c) (is_next source rest piece at (length source) n fresh kind c)
      gives (omega (arith, t.few, ap length t.grows)) (subst R t.grows later));
}

-- a piece that is not taken
pub refused : (source rest piece : List ℕ) (names : Names) (tokens : List Token) (at n : ℕ) (kind : PieceKind) (place : Place) (fault : LexFault)
    → GoesOn source names tokens at → CutsIn source rest piece at (length source) n (begins_line (take at source)) kind → place ≡ place_after (take at source)
    → RefusesPiece source kind place at (at + n) names tokens fault → Reads source [] no_names [] source (Err fault)
refused source rest piece names tokens at n kind place fault g c e (inl h) =
    let fresh = begins_line (take at source) in
    let P : LexFault → Type 0 = λ x. Reads source [] no_names [] source (Err x) in
    let S : (new : List Token) (after : Names) → List ℕ → Type 0 = λ new after x. Gives source names kind (take at source) x new after in
    let none : (new : List Token) (after : Names) → Gives source names kind (take at source) piece new after → ⊥ =
    λ new after k. h.1 new after (subst (S new after) (sym (slice_is source rest piece at (length source) n fresh kind c)) k) in
    subst P (ap (fault_of kind) (sym e) ∙ sym h.0) (g.goes_on _ (at_fault _ _ _ _ kind piece (drop n rest) (whole source rest piece at n kind c) (is_next source rest piece at (length source) n fresh kind c) none))
refused source rest piece names tokens at n kind place fault g c e (inr h) =
    let fresh = begins_line (take at source) in
    let P : LexFault → Type 0 = λ x. Reads source [] no_names [] source (Err x) in
    let new = h.0 in
    let after = h.1.0 in
    let S : List ℕ → Type 0 = λ x. Gives source names kind (take at source) x new after in
    let gives = subst S (slice_is source rest piece at (length source) n fresh kind c) h.1.1.0 in
    subst P (ap faults.TooManyTokens (sym e) ∙ sym h.1.1.2) (g.goes_on _ (at_too_many _ _ _ _ kind piece (drop n rest) new after (whole source rest piece at n kind c)
    (is_next source rest piece at (length source) n fresh kind c) gives h.1.1.1))

-- no piece stands here
pub stuck : (source rest : List ℕ) (names : Names) (tokens : List Token) (at : ℕ) (place : Place) → GoesOn source names tokens at → rest ≡ drop at source → 0 < length rest
    → place ≡ place_after (take at source) → IsStuck (begins_line (take at source)) rest → Reads source [] no_names [] source (Err (faults.BadByte place))
stuck source rest names tokens at place g e l p s =
    let P : List ℕ → Type 0 = λ x. Reads source (take at source) names tokens x (Err (faults.BadByte (place_after (take at source)))) in
    let Q : Place → Type 0 = λ x. Reads source [] no_names [] source (Err (faults.BadByte x)) in
    subst Q (sym p) (g.goes_on _ (subst P e (at_stuck _ _ _ rest l s)))

-- ---- the code's cut

front_part : (source : List ℕ) (at : ℕ) → slice_range source 0 at ≡ take at source
front_part source at = let same : at - 0 ≡ at = omega arith in ap (λ n. take n source) same

fresh_is : (source front : List ℕ) (at : ℕ) (fresh : Bool) → front ≡ slice_range source 0 at → fresh ≡ begins_line front → fresh ≡ begins_line (take at source)
fresh_is source front at fresh e f = f ∙ ap begins_line (e ∙ front_part source at)

pub cut_here : (source front rest : List ℕ) (at n : ℕ) (fresh : Bool) (kind : PieceKind) → at ≤ length source → front ≡ slice_range source 0 at → fresh ≡ begins_line front → rest ≡ drop at source
    → n ≤ length rest → IsNext fresh kind (take n rest) (drop n rest) → CutsIn source rest (take n rest) at (length source) n (begins_line (take at source)) kind
cut_here source front rest at n fresh kind l e f r w h =
    let P : Bool → Type 0 = λ b. IsNext b kind (take n rest) (drop n rest) in
    cut_of l (omega arith) (r ∙ sym (part_all source at)) w (subst P (fresh_is source front at fresh e f) h)

pub stuck_here : (source front rest : List ℕ) (at : ℕ) (fresh : Bool) → front ≡ slice_range source 0 at → fresh ≡ begins_line front → IsStuck fresh rest → IsStuck (begins_line (take at source)) rest
stuck_here source front rest at fresh e f h =
    let P : Bool → Type 0 = λ b. IsStuck b rest in
    subst P (fresh_is source front at fresh e f) h

pub found_stands : (source rest : List ℕ) (at n : ℕ) (kind : PieceKind) (place : Place) → CutsIn source rest (take n rest) at (length source) n (begins_line (take at source)) kind → 0 < n
    → place ≡ place_after (take at source) → Stands source (record { kind = kind; start = at; end = at + n; place = place })
found_stands source rest at n kind place c l e =
    let fresh = begins_line (take at source) in
    let P : List ℕ → Type 0 = λ x. IsPiece fresh kind x in
    record {
      ordered = omega arith;
      within = ends_within source rest (take n rest) at (length source) n fresh kind c;
      is_piece = subst P (sym (slice_is source rest (take n rest) at (length source) n fresh kind c)) (is_next source rest (take n rest) at (length source) n fresh kind c).is_piece;
      place_is = e;
    }

-- the place behind a piece
pub place_moves : (source rest : List ℕ) (at n : ℕ) (kind : PieceKind) → CutsIn source rest (take n rest) at (length source) n (begins_line (take at source)) kind
    → take at source ++ slice_range source at (at + n) ≡ take (at + n) source
place_moves source rest at n kind c =
    let fresh = begins_line (take at source) in
    ap (λ x. take at source ++ x) (slice_is source rest (take n rest) at (length source) n fresh kind c) ∙ passed source rest (take n rest) at (length source) n fresh kind c
