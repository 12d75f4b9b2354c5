-- Sizes from the counts of a tally.
use Rattle.std.specs.Prelude.{◌<◌, ◌^◌}
use Rattle.sc_count.specs.declared.counts.Counts.{Counts}
use Rattle.sc_flat.specs.declared.size.Size.{Size}

-- the gates have 64 bits, and the wires of each class 32
pub record IsSmall (c : Counts) : Type 0 where
  pub gates : c.gates < 2 ^ 64
  pub qubits : c.qubits < 2 ^ 32
  pub cbits : c.cbits < 2 ^ 32

abbrev pub size_in : Counts → Size
size_in c = record { gates = c.gates; qubits = c.qubits; cbits = c.cbits }
