-- Path tables, and the decks whose tables are kept.
use Rattle.std.specs.Prelude.{◌≡◌, ℕ, ◌+◌, ◌-◌, ◌≤◌, ◌^◌, nat_lt, Bool, true, ◌&&◌, List, [], ◌∷◌, ◌++◌, map, length, slice_get, All, Option, Some, None, IsSomeAnd, if◌then◌else◌}
use Rattle.std.specs.List.{AllByRecursion}
use Rattle.std.specs.Option.{option_map, option_map_or}
use Rattle.sc_base.specs.declared.names.Class.TheVariants.{Q, C}
use Rattle.sc_gate.specs.declared.gate.Wire.{Wire}
use Rattle.sc_gate.specs.Chains.{Timed, timed, when, best, or_zero, critical_of}
use Rattle.sc_gate.specs.Numbers.{both}
use Rattle.sc_deck.specs.declared.item.Item.{Item}
use Rattle.sc_deck.specs.declared.item.Item.TheVariants as item
use Rattle.sc_deck.specs.Bodies.{Contents}
use Rattle.sc_deck.specs.Decks.{IsDeck}
use Rattle.sc_deck.specs.declared.key.Key.{Key}
use Rattle.sc_deck.specs.Keys.{params_of}
use Rattle.sc_deck.specs.Modules.{Module}
use Rattle.sc_deck.specs.Unfolding.{gates_of}
use Rattle.sc_path.specs.declared.row.Entry.{Entry}
use Rattle.sc_path.specs.declared.fault.PathFault.{PathFault}
use Rattle.sc_path.specs.declared.fault.PathFault.TheVariants.{CountTooLarge, Memory}
use Rattle.sc_path.specs.declared.table.Table.{Table}
use Rattle.sc_path.specs.Rows.{look, row_at, HaveWeights}

-- parameter wire u, where the first q parameter wires are qubits and the others classical bits
abbrev pub param : ℕ → ℕ → Wire
param q u = if nat_lt u q then record { class = Q; number = u } else record { class = C; number = u - q }

-- the wire of a parameter number; `None` stands for any wire
abbrev pub wire_of : ℕ → Option ℕ → Option Wire
wire_of q end = option_map (param q) end

-- one of k parameter wires, or any wire
abbrev pub within : ℕ → Option ℕ → Bool
within k None = true
within k (Some u) = nat_lt u k

-- the row for the chains that end at a parameter wire, and the last row for those that end anywhere
abbrev pub row_for : List (List Entry) → Option ℕ → List Entry
row_for rows None = row_at rows (length rows - 1)
row_for rows (Some w) = if nat_lt (w + 1) (length rows) then row_at rows w else []

-- what a table answers
abbrev pub get_of : List (List Entry) → Option ℕ → Option ℕ → Option ℕ
get_of rows from to = look (row_for rows to) from

-- The table of a gate list with k parameter wires, of which the first q are qubits: it answers the greatest weight of a chain
-- that starts and ends there, and `None` exactly where there is no such chain or no such parameter wire.
pub record IsTable (gates : List Timed) (q k : ℕ) (rows : List (List Entry)) : Type 0 where
  pub size : length rows ≡ k + 1
  pub answers : (from to : Option ℕ) → get_of rows from to ≡ when (within k from && within k to) (best gates (wire_of q from) (wire_of q to))

-- what chains see of the gates of module i with all its calls written out
abbrev pub timed_gates : List ℕ → List Module → ℕ → List Timed
timed_gates times modules i = map (timed times) (gates_of modules i)

-- the table of module i
abbrev pub IsTableOf : List ℕ → List Module → ℕ → Module → Table → Type 0
IsTableOf times modules i m table = IsTable (timed_gates times modules i) (params_of m.key).qubits (both (params_of m.key)) table.rows

-- ONE TABLE FOR EACH MODULE of the list, in order, by these durations
pub record StandsFor (tables : List Table) (times : List ℕ) (modules : List Module) : Type 0 where
  pub size : length tables ≡ length modules
  pub each : (i : ℕ) (m : Module) (table : Table) → slice_get modules i ≡ Some m → slice_get tables i ≡ Some table → IsTableOf times modules i m table

-- a call names a body whose table is there, and has as many wires as that table has parameters
abbrev pub CallKnown : List Table → ℕ → ℕ → Type 0
CallKnown tables callee wires = IsSomeAnd (slice_get tables callee) (λ table. length table.rows ≡ wires + 1)

abbrev pub ItemKnown : List Table → Item → Type 0
ItemKnown tables (item.Fresh class n) = Unit {0}
ItemKnown tables (item.Gate gate) = Unit {0}
ItemKnown tables (item.Call callee wires) = CallKnown tables callee (length wires)
ItemKnown tables (item.Gates gate turns) = Unit {0}
ItemKnown tables (item.Calls callee wires turns) = CallKnown tables callee (length wires)

abbrev pub CallsKnown : List Table → List Item → Type 0
CallsKnown tables items = AllByRecursion (ItemKnown tables) items

-- the modules and one more, a body under a key with its parameters, are a deck
pub record Extends (modules : List Module) (key : Key) (body : Contents) : Type 0 where
  pub params : params_of key ≡ body.params
  pub deck : IsDeck (modules ++ record { key = key; items = body.items } ∷ [])

-- one table more, with a row for each parameter wire of the body and the last row, and with no entry of weight 0
pub record HasTableMore (old new : List Table) (body : Contents) : Type 0 where
  pub table : Table
  pub appended : new ≡ old ++ table ∷ []
  pub size : length table.rows ≡ both body.params + 1
  pub weights : All HaveWeights table.rows

-- Why a body is refused: a chain of its expansion is too heavy.
abbrev pub WhyAdded : List Table → List ℕ → Contents → PathFault → Type 0
WhyAdded tables times body Memory = Unit {0}
WhyAdded tables times body CountTooLarge =
    (modules : List Module) (key : Key) → Extends modules key body → StandsFor tables times modules →
    2 ^ 128 ≤ critical_of (timed_gates times (modules ++ record { key = key; items = body.items } ∷ []) (length modules))

-- the greatest weight of a chain by the last table; 0 where there is none
abbrev pub critical_at : List Table → ℕ
critical_at tables = option_map_or (λ (table : Table). or_zero (get_of table.rows None None)) (slice_get tables (length tables - 1)) 0
