-- Which counts are too large, and what is true of all counts.
use Rattle.std.specs.Prelude.{◌<◌, ◌≤◌, ◌^◌, ◌⊎◌, List}
use Rattle.std.specs.List.{AllByRecursion}
use Rattle.sc_count.specs.declared.counts.Counts.{Counts}
use Rattle.sc_count.specs.declared.running.Running.{Running}

-- the gates, the weight, the qubits or the classical bits pass 2^128 - 1
abbrev pub IsTooLarge : Counts → Type 0
IsTooLarge c = (2 ^ 128 ≤ c.gates) ⊎ ((2 ^ 128 ≤ c.weight) ⊎ ((2 ^ 128 ≤ c.qubits) ⊎ (2 ^ 128 ≤ c.cbits)))

-- none of them does
pub record IsWithin (c : Counts) : Type 0 where
  pub gates : c.gates < 2 ^ 128
  pub weight : c.weight < 2 ^ 128
  pub qubits : c.qubits < 2 ^ 128
  pub cbits : c.cbits < 2 ^ 128

-- these four numbers are at most those of another
pub record IsAtMost (c d : Counts) : Type 0 where
  pub gates : c.gates ≤ d.gates
  pub weight : c.weight ≤ d.weight
  pub qubits : c.qubits ≤ d.qubits
  pub cbits : c.cbits ≤ d.cbits

-- No kind has more gates than there are, and no more qubits are live than are made. So these numbers need no limit of their own.
pub record IsSound (c : Counts) : Type 0 where
  pub kinds : AllByRecursion (λ k. k ≤ c.gates) c.kinds
  pub peak : c.peak ≤ c.qubits

abbrev pub AreSound : List Counts → Type 0
AreSound counts = AllByRecursion IsSound counts

-- the same in the middle of a body, whose own qubits are among those that are made
pub record IsSoundSoFar (r : Running) : Type 0 where
  pub counts : IsSound r.counts
  pub own : r.own ≤ r.counts.qubits
