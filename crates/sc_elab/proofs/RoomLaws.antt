-- The keys of a deck are among those that were entered, so there are fewer where one more was entered.
use Rattle.std.proofs.Common.{◌≡◌, ℕ, zero, suc, ◌<◌, ◌≤◌, ◌⊎◌, inl, inr, List, [], ◌∷◌, length, get_or, Some, refl, sym, ap, ◌∙◌, subst, arith}
use Rattle.std.specs.Prelude.{slice_get}
use Rattle.std.proofs.lemmas.Bool.{cases_lt}
use Rattle.std.proofs.lemmas.Option.{slice_get-get_or}
use Rattle.indexmap.proofs.IndexTableLemmas.Probe.{pigeonhole}
use Rattle.sc_deck.specs.declared.key.Key.{Key}
use Rattle.sc_deck.specs.Modules.{Module}
use Rattle.sc_deck.specs.Decks.{IsDeck, IsNewKey}
use Rattle.sc_deck.proofs.CallLaws.{key_number}
use Rattle.sc_meaning.specs.Kept.{Seen}
use Rattle.sc_meaning.proofs.KeyNumbers.{first_in, first_below, first_same}
use Rattle.sc_elab.proofs.Adding.{IsNowhere, new_nowhere}

-- each key of the deck is among these
abbrev pub AreAmong : List Key → List Module → Type 0
AreAmong keys deck = (i : ℕ) (m : Module) → slice_get deck i ≡ Some m → Seen keys m.key

-- past the end it is the default
past_end : (deck : List Module) (i : ℕ) (d : Module) → length deck ≤ i → get_or deck i d ≡ d
past_end [] i d above = refl
past_end (m ∷ deck) zero d above = absurd (omega arith)
past_end (m ∷ deck) (suc i) d above = past_end deck i d (omega arith)

module _ (deck : List Module) (keys : List Key) (d : Module) (sound : IsDeck deck) (among : AreAmong keys deck) (here : Seen keys d.key) (new : IsNowhere deck d.key) where
  among_at : (i : ℕ) → (i < length deck) ⊎ (length deck ≤ i) → Seen keys (get_or deck i d).key
  among_at i (inl l) = among i (get_or deck i d) (slice_get-get_or deck i d l)
  among_at i (inr l) = subst (λ (m : Module). Seen keys m.key) (sym (past_end deck i d l)) here

  once_at : (i j : ℕ) → i < suc (length deck) → j < suc (length deck) → (i < length deck) ⊎ (length deck ≤ i) → (j < length deck) ⊎ (length deck ≤ j)
      → (get_or deck i d).key ≡ (get_or deck j d).key → i ≡ j
  once_at i j p q (inl l) (inl k) e = key_number deck sound i j (get_or deck i d) (get_or deck j d) (slice_get-get_or deck i d l) (slice_get-get_or deck j d k) e
  once_at i j p q (inl l) (inr k) e =
      absurd (new i (get_or deck i d) (slice_get-get_or deck i d l) (e ∙ ap (λ (m : Module). m.key) (past_end deck j d k)))
  once_at i j p q (inr l) (inl k) e =
      absurd (new j (get_or deck j d) (slice_get-get_or deck j d k) (sym e ∙ ap (λ (m : Module). m.key) (past_end deck i d l)))
  once_at i j p q (inr l) (inr k) e = omega arith

  -- with a key that is new there are fewer bodies than keys
  pub few_with : length deck < length keys
  few_with =
      let least : suc (length deck) ≤ length keys =
      pigeonhole (suc (length deck)) (length keys) (λ i. first_in keys (get_or deck i d).key)
      (λ i below. first_below keys (get_or deck i d).key (among_at i (cases_lt i (length deck))))
      (λ i j p q e. once_at i j p q (cases_lt i (length deck)) (cases_lt j (length deck))
      (first_same keys (get_or deck i d).key (get_or deck j d).key (among_at i (cases_lt i (length deck))) (among_at j (cases_lt j (length deck))) e)) in
      omega arith

-- ROOM FOR ONE MORE: a deck whose keys are among these, with another key that is among them
pub few_bodies : (deck : List Module) (keys : List Key) (key : Key) → IsDeck deck → AreAmong keys deck → Seen keys key → IsNewKey deck key → length deck < length keys
few_bodies deck keys key sound among here new = few_with deck keys (record { key = key; items = [] }) sound among here (new_nowhere deck key new)
