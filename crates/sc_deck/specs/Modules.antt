-- Keys with items, and what each has from those before it.
use Rattle.std.specs.Prelude.{◌≡◌, ℕ, ◌+◌, ◌<◌, length, max, List, [], ◌∷◌, ◌++◌, map, Bool, nat_eq, slice_index, drop}
use Rattle.std.specs.List.{AllByRecursion, list_any}
use Rattle.sc_deck.specs.declared.item.Item.{Item}
use Rattle.sc_deck.specs.declared.key.Key.{Key}
use Rattle.sc_deck.specs.Bodies.{Contents, wires_of}
use Rattle.sc_deck.specs.Items.{callees_of}
use Rattle.sc_deck.specs.Keys.{params_of}
use Rattle.sc_gate.specs.Numbers.{both}

-- a key with its items, which call earlier modules of a list by their numbers
pub record Module : Type 0 where
  pub key : Key
  pub items : List Item

abbrev pub key_of : Module → Key
key_of m = m.key

-- the body of a module, with the parameter wires of its key
abbrev pub body_of : Module → Contents
body_of m = record { params = params_of m.key; items = m.items }

-- a value for each module, made from the values of those before it
abbrev pub from_earlier : {A : Type 0} → (List A → Module → A) → List A → List Module → List A
from_earlier f done [] = done
from_earlier f done (m ∷ modules) = from_earlier f (done ++ f done m ∷ []) modules

-- f reads the values of callees alone: values that come later change nothing
abbrev pub ReadsCallees : (A : Type 0) → (List A → Module → A) → Type 0
ReadsCallees A f = (done more : List A) (m : Module) → AllByRecursion (λ j. j < length done) (callees_of m.items) → f (done ++ more) m ≡ f done m

abbrev pub greatest : List ℕ → ℕ
greatest [] = 0
greatest (n ∷ ns) = max n (greatest ns)

-- the greatest number among those of the bodies that items call
abbrev pub greatest_called : List ℕ → List Item → ℕ
greatest_called numbers items = greatest (map (slice_index numbers) (callees_of items))

-- 1 without calls, else 1 more than the greatest height called
abbrev pub height_over : List ℕ → Module → ℕ
height_over heights m = greatest_called heights m.items + 1

abbrev pub heights_of : List Module → List ℕ
heights_of modules = from_earlier height_over [] modules

-- the wires of a body, and the greatest reach called
abbrev pub reach_over : List ℕ → Module → ℕ
reach_over reaches m = greatest_called reaches m.items + both (wires_of (body_of m))

abbrev pub reaches_of : List Module → List ℕ
reaches_of modules = from_earlier reach_over [] modules

-- a module calls the one with this number
abbrev pub calls : ℕ → Module → Bool
calls number m = list_any (nat_eq number) (callees_of m.items)

-- a later module calls the one with this number
abbrev pub is_called : List Module → ℕ → Bool
is_called modules number = list_any (calls number) (drop (number + 1) modules)
