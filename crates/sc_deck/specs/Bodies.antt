-- Bodies: parameter wires and items.
use Rattle.std.specs.Prelude.{◌≡◌, ℕ, ◌≤◌, List, [], ◌∷◌, ◌++◌, All}
use Rattle.sc_deck.specs.declared.item.Item.{Item}
use Rattle.sc_deck.specs.Items.{after_item, ItemFits, ItemInRange}
use Rattle.sc_gate.specs.Numbers.{Numbers, both}

-- what contracts see of a body: the numbers of its parameter wires, and its items
pub record Contents : Type 0 where
  pub params : Numbers
  pub items : List Item

-- the wires after items, of so many before them
abbrev pub after_items : Numbers → List Item → Numbers
after_items numbers [] = numbers
after_items numbers (i ∷ items) = after_items (after_item numbers i) items

-- all wires of a body, its parameters and its fresh ones
abbrev pub wires_of : Contents → Numbers
wires_of body = after_items body.params body.items

-- each item may stand where it does
abbrev pub ItemsFit : Numbers → List Item → Type 0
ItemsFit numbers [] = Unit {0}
ItemsFit numbers (i ∷ items) = ItemFits numbers i × ItemsFit (after_item numbers i) items

-- what every body keeps
pub record IsBody (body : Contents) : Type 0 where
  pub fits : ItemsFit body.params body.items
  pub narrow : both (wires_of body) ≤ 65536
  -- angles and numbers of turns
  pub in_range : All ItemInRange body.items

abbrev pub with_item : Contents → Item → Contents
with_item body i = record body { items = body.items ++ i ∷ [] }

-- a body with so many parameter wires and no item
abbrev pub empty_body : ℕ → ℕ → Contents
empty_body qubits cbits = record { params = record { qubits = qubits; cbits = cbits }; items = [] }

-- the count of a body's wires is kept beside it
pub record Counts (body : Contents) (wires : Numbers) : Type 0 where
  pub counted : wires ≡ wires_of body
  pub sound : IsBody body
