-- The instances of a source as a deck.
use Rattle.std.specs.Prelude.{◌≡◌, ℕ, ◌≤◌, None, All, List, length}
use Rattle.sc_deck.specs.Decks.{IsDeck, IsWhole}
use Rattle.sc_deck.specs.Hierarchical.{IsSound}
use Rattle.sc_deck.specs.Modules.{Module, heights_of}
use Rattle.sc_deck.specs.Turns.{folded_modules}
use Rattle.sc_types.specs.Typing.{TypedSource, IsChecked}
use Rattle.sc_meaning.specs.declared.choice.Choice.{Choice}
use Rattle.sc_meaning.specs.Meaning.{refusal, instances}

-- Where there is no refusal main is the last instance, and each other is called by a later one.
abbrev pub AllWhole : Type 0
AllWhole = (t : TypedSource) (main : ℕ) → IsChecked t main → refusal t ≡ None → (choice : Choice) → IsWhole (instances t choice)

-- And no height passes 256.
abbrev pub AllShallow : Type 0
AllShallow = (t : TypedSource) (main : ℕ) → IsChecked t main → refusal t ≡ None → (choice : Choice) → All (λ height. height ≤ 256) (heights_of (instances t choice))

-- And they are a deck: distinct keys in range, bodies whose gates and calls fit, of at most 65,536 wires, and no more than 65,536 of
-- them. So they are where they are folded.
abbrev pub AllDecks : Type 0
AllDecks =
    (t : TypedSource) (main : ℕ) → IsChecked t main → refusal t ≡ None → (choice : Choice) → IsDeck (instances t choice) × IsDeck (folded_modules (instances t choice))

-- no module has too many items for a hierarchical text, a repeated one counting once
abbrev pub AreShort : List Module → Type 0
AreShort modules = All (λ m. length m.items ≤ 1048576) modules

-- And a hierarchical text may hold the folded ones, where they are short.
abbrev pub AllSound : Type 0
AllSound =
    (t : TypedSource) (main : ℕ) → IsChecked t main → refusal t ≡ None → (choice : Choice) → AreShort (folded_modules (instances t choice)) → IsSound (folded_modules (instances t choice))
