-- What an expander keeps, and what stands where the flat text could not be written to its end.
use Rattle.std.specs.Prelude.{◌≡◌, ℕ, ◌-◌, ◌≤◌, ◌^◌, ◌⊎◌, Bool, List, [], ◌∷◌, ◌++◌, length, slice_index}
use Rattle.sc_gate.specs.declared.gate.Gate.{Gate}
use Rattle.sc_gate.specs.Lines.{gate_line, gate_lines}
use Rattle.sc_gate.specs.Numbers.{Numbers}
use Rattle.sc_base.specs.Output.{Wrote, WrotePrefix}
use Rattle.sc_deck.specs.Modules.{Module, reaches_of}
use Rattle.sc_flat.specs.declared.size.Size.{Size}
use Rattle.sc_flat.specs.Kept.{AreSizes}

-- What contracts see of an expander: the numbers of each body's expansion, and how many wires its frames have room for.
pub record Prepared : Type 0 where
  pub sizes : List Size
  pub room : ℕ

-- it is prepared for a deck of these modules
pub record FitsDeck (e : Prepared) (modules : List Module) : Type 0 where
  pub sizes : AreSizes modules e.sizes
  pub room : e.room ≡ slice_index (reaches_of modules) (length modules - 1)

-- The gates of a front were shown. The lines of all but the last of them stand whole, and behind them a prefix of its line.
pub record BrokeLine {S : Type 0} (tells : S → Bool) (bytes : S → List ℕ) (old new : S) (gates seen : List Gate) : Type 0 where
  pub others : List Gate
  pub front : gates ≡ seen ++ others
  pub whole : List Gate
  pub last : Gate
  pub parts : seen ≡ whole ++ last ∷ []
  pub mid : S
  pub lines : Wrote tells bytes old mid (gate_lines whole)
  pub cut : WrotePrefix tells bytes mid new (gate_line last)

-- The same behind a header, or no gate was shown and a prefix of the header stands.
pub data BrokeOff {S : Type 0} (tells : S → Bool) (bytes : S → List ℕ) (old new : S) (header : List ℕ) (gates : List Gate) : List Gate → Type 0 where
  in_header : WrotePrefix tells bytes old new header → BrokeOff tells bytes old new header gates []
  in_lines : (seen : List Gate) (mid : S) → Wrote tells bytes old mid header → BrokeLine tells bytes mid new gates seen → BrokeOff tells bytes old new header gates seen

-- more wires of a class than a flat list has
abbrev pub ManyWires : Numbers → Type 0
ManyWires fresh = (2 ^ 32 ≤ fresh.qubits) ⊎ (2 ^ 32 ≤ fresh.cbits)
