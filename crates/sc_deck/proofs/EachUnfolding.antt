-- What holds of the unfolding of each module of a deck, where it holds of a module whose callees it holds of.
use Rattle.std.proofs.Common.{◌≡◌, ℕ, ◌+◌, ◌<◌, ◌≤◌, List, [], ◌∷◌, ◌++◌, length, slice_get, Some, ◌⊎◌, inl, inr, refl, sym, ap, ◌∙◌, subst, append_assoc, append-nil, length-append}
use Rattle.std.specs.List.{AllByRecursion}
use Rattle.std.proofs.lemmas.Bool.{cases_lt}
use Rattle.std.proofs.lemmas.List.Elements.{recursion_from_All}
use Rattle.sc_deck.specs.Bodies.{IsBody}
use Rattle.sc_deck.specs.Decks.{CallsFit, CallEarlier, IsDeck}
use Rattle.sc_deck.specs.Modules.{Module, body_of, from_earlier}
use Rattle.sc_deck.specs.Unfolding.{Unfolding, unfolding_at, unfold_module, unfoldings}
use Rattle.sc_deck.proofs.ListLemmas.{slice_get_left, slice_get_last}
use Rattle.sc_deck.proofs.SequenceLaws.{unfolding_at-before, unfolding_at-seam}

-- each of these modules with its unfolding
pub record Each (Q : Module → Unfolding → Type 0) (us : List Unfolding) (modules : List Module) : Type 0 where
  pub long : length us ≡ length modules
  pub each : (i : ℕ) (m : Module) → slice_get modules i ≡ Some m → Q m (unfolding_at us i)

module _ (Q : Module → Unfolding → Type 0) where
  each_push : (us : List Unfolding) (before : List Module) → Each Q us before → (m : Module) (u : Unfolding) → Q m u → Each Q (us ++ u ∷ []) (before ++ m ∷ [])
  each_push us before can m u one = record {
    long = length-append us (u ∷ []) ∙ ap (λ (n : ℕ). n + 1) can.long ∙ sym (length-append before (m ∷ []));
    each = λ i k at. by i k at (cases_lt i (length before));
  }
    where
      by : (i : ℕ) (k : Module) → slice_get (before ++ m ∷ []) i ≡ Some k → (i < length before) ⊎ (length before ≤ i) → Q k (unfolding_at (us ++ u ∷ []) i)
      by i k at (inl early) =
          subst (Q k) (sym (unfolding_at-before us (u ∷ []) i (subst (λ (n : ℕ). i < n) (sym can.long) early)))
          (can.each i k (sym (slice_get_left before (m ∷ []) i early) ∙ at))
      by i k at (inr late) =
          let last = slice_get_last before m i k late at in
          subst (Q k) (sym (ap (unfolding_at (us ++ u ∷ [])) (last.0 ∙ sym can.long) ∙ unfolding_at-seam us u [])) (subst (λ (x : Module). Q x u) last.1 one)

  -- one module after another
  pub each_of : ((us : List Unfolding) (before : List Module) → Each Q us before → (m : Module) → IsBody (body_of m) → CallsFit before m.items → Q m (unfold_module us m)) →
      (us : List Unfolding) (before modules : List Module) → Each Q us before → AllByRecursion (λ (m : Module). IsBody (body_of m)) modules → CallEarlier before modules → Each Q (from_earlier unfold_module us modules) (before ++ modules)
  each_of step us before [] can bodies calls = subst (λ (ms : List Module). Each Q us ms) (sym (append-nil before)) can
  each_of step us before (m ∷ modules) can bodies calls =
      subst (λ (ms : List Module). Each Q (from_earlier unfold_module (us ++ unfold_module us m ∷ []) modules) ms) (append_assoc before (m ∷ []) modules)
      (each_of step (us ++ unfold_module us m ∷ []) (before ++ m ∷ []) modules
      (each_push us before can m (unfold_module us m) (step us before can m bodies.0 calls.0)) bodies.1 calls.1)

  -- EACH UNFOLDING OF A DECK
  pub each_unfolding : ((us : List Unfolding) (before : List Module) → Each Q us before → (m : Module) → IsBody (body_of m) → CallsFit before m.items → Q m (unfold_module us m)) →
      (modules : List Module) → IsDeck modules → Each Q (unfoldings modules) modules
  each_unfolding step modules deck =
      each_of step [] [] modules (record { long = refl; each = λ i m at. cc }) (recursion_from_All (λ (m : Module). IsBody (body_of m)) modules deck.bodies) deck.calls
