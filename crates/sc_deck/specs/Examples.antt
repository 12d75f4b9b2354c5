-- A module `g(qbit a)` that declares a qubit t and has H(t) three times and CNOT(t, a), and a main that calls it twice on one qubit.
use Rattle.std.specs.Prelude.{ℕ, List, [], ◌∷◌, codes}
use Rattle.sc_base.specs.declared.names.Class.TheVariants.{Q}
use Rattle.sc_gate.specs.declared.gate.Kind.TheVariants as kind
use Rattle.sc_gate.specs.declared.gate.Gate.{Gate}
use Rattle.sc_gate.specs.Kinds.{qubit, on_one, on_two}
use Rattle.sc_deck.specs.declared.item.Item.{Item}
use Rattle.sc_deck.specs.declared.item.Item.TheVariants as item
use Rattle.sc_deck.specs.declared.key.Arg.TheVariants.{One}
use Rattle.sc_deck.specs.declared.key.Key.{Key}
use Rattle.sc_deck.specs.Keys.{main_key}
use Rattle.sc_deck.specs.Modules.{Module}

abbrev pub h : ℕ → Gate
h n = on_one kind.H (qubit n)

abbrev pub cnot : ℕ → ℕ → Gate
cnot n m = on_two kind.Cnot (qubit n) (qubit m)

abbrev pub g_key : Key
g_key = record { name = codes "g"; args = One Q ∷ [] }

abbrev pub g_items : List Item
g_items = item.Fresh Q 1 ∷ item.Gate (h 1) ∷ item.Gate (h 1) ∷ item.Gate (h 1) ∷ item.Gate (cnot 1 0) ∷ []

abbrev pub main_items : List Item
main_items = item.Fresh Q 1 ∷ item.Call 0 (qubit 0 ∷ []) ∷ item.Call 0 (qubit 0 ∷ []) ∷ []

abbrev pub g_twice : List Module
g_twice = record { key = g_key; items = g_items } ∷ record { key = main_key; items = main_items } ∷ []

-- the same with its runs as items with turns
abbrev pub g_repeated : List Module
g_repeated =
    record { key = g_key; items = item.Fresh Q 1 ∷ item.Gates (h 1) 3 ∷ item.Gate (cnot 1 0) ∷ [] }
    ∷ record { key = main_key; items = item.Fresh Q 1 ∷ item.Calls 0 (qubit 0 ∷ []) 2 ∷ [] }
    ∷ []

-- the gates of main with its calls written out: each call has a fresh qubit of its own
abbrev pub eight_gates : List Gate
eight_gates = h 1 ∷ h 1 ∷ h 1 ∷ cnot 1 0 ∷ h 2 ∷ h 2 ∷ h 2 ∷ cnot 2 0 ∷ []
