-- A source has one outcome at most.
use Rattle.std.proofs.Common.{ℕ, ◌≡◌, refl, sym, ap, ◌∙◌, subst, List, [], ◌++◌, length, map, Option, Some, None, Ok, Err, MatchOption, inl, inr, codes, arith}
use Rattle.std.specs.declared.result.Result.{Result}
use Rattle.sc_base.specs.declared.Place.{Place}
use Rattle.sc_syntax.specs.declared.fault.LexFault.{LexFault}
use Rattle.sc_syntax.specs.declared.piece.PieceKind.{PieceKind}
use Rattle.sc_syntax.specs.declared.piece.PieceKind.TheVariants.{Space, LineComment, BlockComment, OpenComment, Directive, Word, Number, Sign}
use Rattle.sc_syntax.specs.declared.token.Token.{Token}
use Rattle.sc_syntax.specs.Directives.{Names, no_names, IsScanned, Directs, names_behind, placed}
use Rattle.sc_syntax.specs.Lexing.{place_after, fault_of, Gives, Reads, at_end, after_piece, at_too_many, at_fault, at_stuck, HasOneOutcome}
use Rattle.sc_syntax.specs.Spaces.{begins_line}
use Rattle.sc_syntax.proofs.CutLemmas.{SameCut, same_cut}
use Rattle.sc_syntax.proofs.PieceKinds.{some_byte}
use Rattle.sc_syntax.proofs.Readings.{one_scan}
use Rattle.sc_syntax.proofs.Scanning.{scan_once}

-- what one cut gives, the other gives
same_gift : (source : List ℕ) (names : Names) (k k' : PieceKind) (before p r p' r' : List ℕ) (new : List Token) (after : Names) → SameCut k k' p r p' r'
    → Gives source names k' before p' new after → Gives source names k before p new after
same_gift source names k k' before p r p' r' new after c g =
    let P : PieceKind → Type 0 = λ x. Gives source names x before p' new after in
    let Q : List ℕ → Type 0 = λ x. Gives source names k before x new after in
    subst Q (sym c.piece) (subst P (sym c.kind) g)

-- a directive leaves one list of names
one_direction : (source : List ℕ) (names : Names) (place : Place) (before piece : List ℕ) (a b : Names) → Directs source names place before piece a → Directs source names place before piece b → a ≡ b
one_direction source names place before piece a b (inl h) (inl k) = h.1 ∙ sym k.1
one_direction source names place before piece a b (inl h) (inr k) = let e : codes "include" ≡ codes "define" = sym h.0 ∙ k.0 in cc
one_direction source names place before piece a b (inr h) (inl k) = let e : codes "define" ≡ codes "include" = sym h.0 ∙ k.0 in cc
one_direction source names place before piece a b (inr h) (inr k) =
    h.1.defined ∙ ap (names_behind source names) (scan_once place _ _ _ _ _ h.1.scanned k.1.scanned) ∙ sym k.1.defined

word_case : (value : Option (List Token)) (place : Place) (before piece : List ℕ) (new others : List Token)
    → MatchOption value (IsScanned Word place before piece new) (λ v. new ≡ map (placed place) v)
    → MatchOption value (IsScanned Word place before piece others) (λ v. others ≡ map (placed place) v) → new ≡ others
word_case None place before piece new others g h = one_scan Word place before piece new others g h
word_case (Some v) place before piece new others g h = g ∙ sym h

pub record SameGift (new others : List Token) (a b : Names) : Type 0 where
  pub tokens : new ≡ others
  pub names : a ≡ b

one_gift : (source : List ℕ) (names : Names) (kind : PieceKind) (before piece : List ℕ) (new others : List Token) (a b : Names)
    → Gives source names kind before piece new a → Gives source names kind before piece others b → SameGift new others a b
one_gift source names Directive before piece new others a b g h = record { tokens = g.0 ∙ sym h.0; names = one_direction source names (place_after before) before piece a b g.1 h.1 }
one_gift source names Word before piece new others a b g h = record { tokens = word_case (names piece) (place_after before) before piece new others g.0 h.0; names = g.1 ∙ sym h.1 }
one_gift source names Space before piece new others a b g h = record { tokens = one_scan Space (place_after before) before piece new others g.0 h.0; names = g.1 ∙ sym h.1 }
one_gift source names LineComment before piece new others a b g h = record { tokens = one_scan LineComment (place_after before) before piece new others g.0 h.0; names = g.1 ∙ sym h.1 }
one_gift source names BlockComment before piece new others a b g h = record { tokens = one_scan BlockComment (place_after before) before piece new others g.0 h.0; names = g.1 ∙ sym h.1 }
one_gift source names OpenComment before piece new others a b g h = record { tokens = one_scan OpenComment (place_after before) before piece new others g.0 h.0; names = g.1 ∙ sym h.1 }
one_gift source names Number before piece new others a b g h = record { tokens = one_scan Number (place_after before) before piece new others g.0 h.0; names = g.1 ∙ sym h.1 }
one_gift source names Sign before piece new others a b g h = record { tokens = one_scan Sign (place_after before) before piece new others g.0 h.0; names = g.1 ∙ sym h.1 }

pub once : (source before : List ℕ) (names : Names) (ts : List Token) (bytes : List ℕ) (a b : Result (List Token) LexFault) → Reads source before names ts bytes a → Reads source before names ts bytes b → a ≡ b
once source _ _ _ _ _ _ (at_end _ _ _) (at_end _ _ _) = refl
once source _ _ _ _ _ _ (at_end before _ _) (after_piece _ _ _ _ _ k p r new after e n g l h) = absurd (some_byte _ k p r n.is_piece e)
once source _ _ _ _ _ _ (at_end before _ _) (at_too_many _ _ _ _ k p r new after e n g l) = absurd (some_byte _ k p r n.is_piece e)
once source _ _ _ _ _ _ (at_end before _ _) (at_fault _ _ _ _ k p r e n none) = absurd (some_byte _ k p r n.is_piece e)
once source _ _ _ _ _ _ (at_end before _ _) (at_stuck _ _ _ _ l s) = absurd (omega arith)
once source _ _ _ _ _ _ (after_piece _ _ _ _ _ k p r new after e n g l h) (at_end _ _ _) = absurd (some_byte _ k p r n.is_piece e)
once source _ _ _ _ _ _ (after_piece before names ts bytes a k p r new after e n g l h) (after_piece _ _ _ _ b k' p' r' new' after' e' n' g' l' h') =
    let c = same_cut (begins_line before) k k' p r p' r' bytes e e' n n' in
    let same = one_gift source names k before p new' new after' after (same_gift source names k k' before p r p' r' new' after' c g') g in
    let P : List ℕ → Type 0 = λ x. Reads source (before ++ x) after (ts ++ new) r b in
    let Q : List ℕ → Type 0 = λ x. Reads source (before ++ p') after (ts ++ new) x b in
    let R : List Token → Type 0 = λ x. Reads source (before ++ p') after (ts ++ x) r' b in
    let S : Names → Type 0 = λ x. Reads source (before ++ p') x (ts ++ new') r' b in
    once source _ _ _ _ _ _ h (subst P (sym c.piece) (subst Q (sym c.rest) (subst R same.tokens (subst S same.names h'))))
once source _ _ _ _ _ _ (after_piece before names ts bytes a k p r new after e n g l h) (at_too_many _ _ _ _ k' p' r' new' after' e' n' g' l') =
    let c = same_cut (begins_line before) k k' p r p' r' bytes e e' n n' in
    let same = one_gift source names k before p new' new after' after (same_gift source names k k' before p r p' r' new' after' c g') g in
    absurd (omega (arith, ap (λ x. length (ts ++ x)) same.tokens))
once source _ _ _ _ _ _ (after_piece before names ts bytes a k p r new after e n g l h) (at_fault _ _ _ _ k' p' r' e' n' none) =
    let c = same_cut (begins_line before) k' k p' r' p r bytes e' e n' n in
    absurd (none new after (same_gift source names k' k before p' r' p r new after c g))
once source _ _ _ _ _ _ (after_piece _ _ _ _ _ k p r new after e n g l h) (at_stuck _ _ _ _ l' s) = absurd (s k p r n.is_piece e)
once source _ _ _ _ _ _ (at_too_many _ _ _ _ k p r new after e n g l) (at_end _ _ _) = absurd (some_byte _ k p r n.is_piece e)
once source _ _ _ _ _ _ (at_too_many before names ts bytes k p r new after e n g l) (after_piece _ _ _ _ b k' p' r' new' after' e' n' g' l' h') =
    let c = same_cut (begins_line before) k k' p r p' r' bytes e e' n n' in
    let same = one_gift source names k before p new' new after' after (same_gift source names k k' before p r p' r' new' after' c g') g in
    absurd (omega (arith, ap (λ x. length (ts ++ x)) same.tokens))
once source _ _ _ _ _ _ (at_too_many _ _ _ _ k p r new after e n g l) (at_too_many _ _ _ _ _ _ _ _ _ _ _ _ _) = refl
once source _ _ _ _ _ _ (at_too_many before names ts bytes k p r new after e n g l) (at_fault _ _ _ _ k' p' r' e' n' none) =
    let c = same_cut (begins_line before) k' k p' r' p r bytes e' e n' n in
    absurd (none new after (same_gift source names k' k before p' r' p r new after c g))
once source _ _ _ _ _ _ (at_too_many _ _ _ _ k p r new after e n g l) (at_stuck _ _ _ _ l' s) = absurd (s k p r n.is_piece e)
once source _ _ _ _ _ _ (at_fault _ _ _ _ k p r e n none) (at_end _ _ _) = absurd (some_byte _ k p r n.is_piece e)
once source _ _ _ _ _ _ (at_fault before names ts bytes k p r e n none) (after_piece _ _ _ _ b k' p' r' new' after' e' n' g' l' h') =
    let c = same_cut (begins_line before) k k' p r p' r' bytes e e' n n' in
    absurd (none new' after' (same_gift source names k k' before p r p' r' new' after' c g'))
once source _ _ _ _ _ _ (at_fault before names ts bytes k p r e n none) (at_too_many _ _ _ _ k' p' r' new' after' e' n' g' l') =
    let c = same_cut (begins_line before) k k' p r p' r' bytes e e' n n' in
    absurd (none new' after' (same_gift source names k k' before p r p' r' new' after' c g'))
once source _ _ _ _ _ _ (at_fault before names ts bytes k p r e n none) (at_fault _ _ _ _ k' p' r' e' n' none') =
    let c = same_cut (begins_line before) k k' p r p' r' bytes e e' n n' in
    ap (λ x. Err (fault_of x (place_after before))) c.kind
once source _ _ _ _ _ _ (at_fault _ _ _ _ k p r e n none) (at_stuck _ _ _ _ l s) = absurd (s k p r n.is_piece e)
once source _ _ _ _ _ _ (at_stuck before _ _ _ l s) (at_end _ _ _) = absurd (omega arith)
once source _ _ _ _ _ _ (at_stuck _ _ _ _ l s) (after_piece _ _ _ _ _ k p r new after e n g _ h) = absurd (s k p r n.is_piece e)
once source _ _ _ _ _ _ (at_stuck _ _ _ _ l s) (at_too_many _ _ _ _ k p r new after e n g _) = absurd (s k p r n.is_piece e)
once source _ _ _ _ _ _ (at_stuck _ _ _ _ l s) (at_fault _ _ _ _ k p r e n none) = absurd (s k p r n.is_piece e)
once source _ _ _ _ _ _ (at_stuck _ _ _ _ _ _) (at_stuck _ _ _ _ _ _) = refl

pub one_outcome : HasOneOutcome
one_outcome source a b h k = once source [] no_names [] source a b h k

-- a source with a fault has no tokens
pub no_tokens : (source : List ℕ) (fault : LexFault) (ts : List Token) → Reads source [] no_names [] source (Err fault) → Reads source [] no_names [] source (Ok ts) → ⊥
no_tokens source fault ts h k =
    let e : Err fault ≡ Ok ts = once source [] no_names [] source _ _ h k in
    cc
