-- How a deck is kept: a map from keys to bodies with their heights and reaches, and a mark for each body that is called.
use Rattle.std.specs.Prelude.{◌≡◌, ℕ, ◌<◌, List, map, length, Bool, slice_get, Some, All}
use Rattle.sc_deck.specs.declared.key.Key.{Key}
use Rattle.sc_deck.specs.declared.entry.Entry.{Entry}
use Rattle.sc_deck.specs.Keys.{params_of}
use Rattle.sc_deck.specs.Modules.{Module, heights_of, reaches_of, is_called}
use Rattle.sc_deck.specs.Decks.{IsDeck}

abbrev pub module_in : Key × Entry → Module
module_in p = record { key = p.0; items = p.1.body.items }

abbrev pub modules_in : List (Key × Entry) → List Module
modules_in entries = map module_in entries

abbrev pub height_in : Key × Entry → ℕ
height_in p = p.1.height

abbrev pub reach_in : Key × Entry → ℕ
reach_in p = p.1.reach

pub record KeepsDeck (entries : List (Key × Entry)) (marks : List Bool) : Type 0 where
  pub sound : IsDeck (modules_in entries)
  pub params : All (λ p. p.1.body.params ≡ params_of p.0) entries
  pub heights : map height_in entries ≡ heights_of (modules_in entries)
  pub reaches : map reach_in entries ≡ reaches_of (modules_in entries)
  pub marked : length marks ≡ length entries
  pub called : (i : ℕ) → i < length entries → slice_get marks i ≡ Some (is_called (modules_in entries) i)
