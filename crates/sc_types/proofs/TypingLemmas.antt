-- The typed functions of a source, by the positions of its parts.
use Rattle.std.proofs.Common.{◌≡◌, ℕ, zero, suc, List, [], ◌∷◌, ◌++◌, Some, None, refl, sym, subst}
use Rattle.std.specs.Prelude.{Option, MatchOption, IsSomeAnd}
use Rattle.sc_syntax.specs.declared.Source.{Source}
use Rattle.sc_syntax.specs.declared.Part.{Part}
use Rattle.sc_syntax.specs.declared.Part.TheVariants as part
use Rattle.sc_word.specs.Typed.{TypedWords, TypesFn}
use Rattle.sc_types.specs.Typing.{TypedSource, IsTyped, AreTyped, function_at, typed_at}

abbrev source_of : List Part → Source
source_of parts = record { parts = parts }

by_position : (ps : List Part) (ws : List (Option TypedWords)) (i : ℕ) → AreTyped ps ws
    → MatchOption (function_at (source_of ps) i) (typed_at ws i ≡ None) (λ f. IsSomeAnd (typed_at ws i) (TypesFn f))
by_position [] [] i h = refl
by_position [] (w ∷ ws) i h = absurd h
by_position (p ∷ ps) [] i h = absurd h
by_position (p ∷ ps) (w ∷ ws) (suc i) h = by_position ps ws i h.1
by_position (part.Module m ∷ ps) (None ∷ ws) zero h = refl
by_position (part.Module m ∷ ps) (Some t ∷ ws) zero h = absurd h.0
by_position (part.Words f ∷ ps) (None ∷ ws) zero h = absurd h.0
by_position (part.Words f ∷ ps) (Some t ∷ ws) zero h = h.0

-- the typed function that was found, of a source seen as t
pub typed_by_position : (inside t : TypedSource) (i : ℕ) (r : Option TypedWords) → inside ≡ t → AreTyped inside.source.parts inside.words → r ≡ typed_at inside.words i
    → MatchOption (function_at t.source i) (r ≡ None) (λ f. IsSomeAnd r (TypesFn f))
typed_by_position inside t i r e h is =
    subst (λ (u : TypedSource). MatchOption (function_at u.source i) (r ≡ None) (λ f. IsSomeAnd r (TypesFn f))) e
    (subst (λ (o : Option TypedWords). MatchOption (function_at inside.source i) (o ≡ None) (λ f. IsSomeAnd o (TypesFn f))) (sym is)
    (by_position inside.source.parts inside.words i h))

pub typed-push : (ps : List Part) (ws : List (Option TypedWords)) (p : Part) (w : Option TypedWords) → AreTyped ps ws → IsTyped p w → AreTyped (ps ++ p ∷ []) (ws ++ w ∷ [])
typed-push [] [] p w h k = (k, tt)
typed-push [] (x ∷ ws) p w h k = absurd h
typed-push (q ∷ ps) [] p w h k = absurd h
typed-push (q ∷ ps) (x ∷ ws) p w h k = (h.0, typed-push ps ws p w h.1 k)
