-- What the rows of a path table say.
use Rattle.std.specs.Prelude.{◌≡◌, ℕ, suc, ◌^◌, ◌<◌, ◌≤◌, ◌⊎◌, List, [], ◌∷◌, Bool, true, false, Option, Some, None, nat_eq, slice_index_or}
use Rattle.std.specs.List.{AllByRecursion}
use Rattle.sc_path.specs.declared.row.Entry.{Entry}
use Rattle.sc_path.specs.declared.fault.PathFault.{PathFault}
use Rattle.sc_path.specs.declared.fault.PathFault.TheVariants.{CountTooLarge, Memory}
use Rattle.sc_gate.specs.Chains.{more, plus, when}

-- the same start: anywhere, or the same parameter wire
abbrev pub same_start : Option ℕ → Option ℕ → Bool
same_start None None = true
same_start None (Some v) = false
same_start (Some u) None = false
same_start (Some u) (Some v) = nat_eq u v

-- where a start has its place among all starts: anywhere comes first
abbrev pub place : Option ℕ → ℕ
place None = 0
place (Some u) = suc u

-- each entry's start has its place before this one, or after it
abbrev pub AreBefore : ℕ → List Entry → Type 0
AreBefore p es = AllByRecursion (λ e. place e.start < p) es

abbrev pub AreAfter : ℕ → List Entry → Type 0
AreAfter p es = AllByRecursion (λ e. p < place e.start) es

-- ANYWHERE STANDS FIRST, and then the parameter wires ascend; so no start stands twice
abbrev pub Ascends : List Entry → Type 0
Ascends [] = Unit {0}
Ascends (e ∷ es) = AreAfter (place e.start) es × Ascends es

-- each entry has a weight above 0
abbrev pub HaveWeights : List Entry → Type 0
HaveWeights es = AllByRecursion (λ e. 0 < e.weight) es

-- an entry has this start
abbrev pub StartsIn : List Entry → Option ℕ → Type 0
StartsIn [] s = ⊥
StartsIn (e ∷ es) s = (e.start ≡ s) ⊎ StartsIn es s

-- each entry of the first list stands before each of the second
abbrev pub AreApart : List Entry → List Entry → Type 0
AreApart es fs = AllByRecursion (λ e. AreAfter (place e.start) fs) es

-- the greatest weight of an entry with this start
abbrev pub look : List Entry → Option ℕ → Option ℕ
look [] s = None
look (e ∷ es) s = more (when (same_start e.start s) (Some e.weight)) (look es s)

-- the row at a place; past the last one the row without entries
abbrev pub row_at : List (List Entry) → ℕ → List Entry
row_at rows w = slice_index_or rows w []

-- a row, each weight greater by `by`
abbrev pub shifted : List Entry → ℕ → Option ℕ → Option ℕ
shifted es by s = plus (Some by) (look es s)

-- what two rows say together, the second one with `by` added
abbrev pub both : List Entry → List Entry → ℕ → Option ℕ → Option ℕ
both a b by s = more (look a s) (shifted b by s)

-- a weight past the greatest one that is kept
abbrev pub Passes : Option ℕ → Type 0
Passes None = ⊥
Passes (Some n) = 2 ^ 128 ≤ n

-- some weight of a row passes it once `by` is added
pub record Heavy (b : List Entry) (by : ℕ) : Type 0 where
  pub start : Option ℕ
  pub passes : Passes (shifted b by start)

abbrev pub WhyHeavy : List Entry → ℕ → PathFault → Type 0
WhyHeavy b by Memory = Unit {0}
WhyHeavy b by CountTooLarge = Heavy b by
