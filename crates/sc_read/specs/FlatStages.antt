-- Flat texts, line by line: which lines may stand where, and where the limit on gates is passed.
use Rattle.std.specs.Prelude.{◌≡◌, ℕ, suc, ◌<◌, ◌≤◌, List, [], ◌∷◌, ◌++◌, codes, ◌⊎◌}
use Rattle.std.specs.Str.Parse.{digits_value}
use Rattle.sc_base.specs.Limits.{most_gates, most_flat_wires}
use Rattle.sc_base.specs.Numerals.{IsWhole}
use Rattle.sc_gate.specs.declared.gate.Gate.{Gate}
use Rattle.sc_gate.specs.Lines.{gate_line, number_line}
use Rattle.sc_gate.specs.Numbers.{Numbers}
use Rattle.sc_read.specs.GateFronts.{counts, IsNextGate}

-- What was read so far, and with it which lines may stand next: one of the four at the front; or a gate line, where so many are
-- still to come behind these gates, or a line that is passed over.
pub data Stage : Type 0 where
  Title : Stage
  Qubits : Stage
  Cbits : ℕ → Stage
  Gates : Numbers → Stage
  Body : Numbers → ℕ → List Gate → Stage

-- the one limit: the number of gates
pub data Limit : Type 0 where
  TooManyGates : Limit

-- a line of this word and a number that is allowed
pub record CountLine (word : List ℕ) (After : ℕ → Stage) (line : List ℕ) (next : Stage) : Type 0 where
  pub number : ℕ
  pub allowed : number ≤ most_flat_wires
  pub line_is : line ≡ number_line word number
  pub next_is : next ≡ After number

-- the line of the number of gates, which may have any number of digits
pub record GatesLine (line : List ℕ) (number : ℕ) : Type 0 where
  pub digits : List ℕ
  pub whole : IsWhole digits
  pub line_is : line ≡ codes "gates " ++ digits ++ codes "\n"
  pub number_is : number ≡ digits_value 10 digits

-- this line, and its number is within the limit
pub record BeginsBody (wires : Numbers) (line : List ℕ) (next : Stage) : Type 0 where
  pub number : ℕ
  pub line_is : GatesLine line number
  pub within : number ≤ most_gates
  pub next_is : next ≡ Body wires number []

-- a line that begins with `#` is passed over
pub record PassesOver (wires : Numbers) (left : ℕ) (gates : List Gate) (line : List ℕ) (next : Stage) : Type 0 where
  pub more : List ℕ
  pub line_is : line ≡ codes "#" ++ more
  pub next_is : next ≡ Body wires left gates

-- one more gate
pub record AddsGate (wires : Numbers) (left : ℕ) (gates : List Gate) (line : List ℕ) (next : Stage) : Type 0 where
  pub fewer : ℕ
  pub gate : Gate
  pub left_is : left ≡ suc fewer
  pub gate_is : IsNextGate wires gate
  pub line_is : line ≡ gate_line gate
  pub next_is : next ≡ Body wires fewer (gates ++ gate ∷ [])

-- a line is in its place and within the limit, and this is the stage behind it
abbrev pub Goes : Stage → List ℕ → Stage → Type 0
Goes Title line next = (line ≡ codes "flat 1\n") × (next ≡ Qubits)
Goes Qubits line next = CountLine (codes "qbits") Cbits line next
Goes (Cbits qubits) line next = CountLine (codes "cbits") (λ cbits. Gates (counts qubits cbits)) line next
Goes (Gates wires) line next = BeginsBody wires line next
Goes (Body wires left gates) line next = PassesOver wires left gates line next ⊎ AddsGate wires left gates line next

-- the line of the number of gates is in its place, and its number passes the limit
abbrev pub Breaks : Stage → List ℕ → Limit → Type 0
Breaks (Gates wires) line limit = (number : ℕ) × GatesLine line number × (most_gates < number)
Breaks stage line limit = ⊥

-- a text may end where no gate is still to come
abbrev pub MayEnd : Stage → Type 0
MayEnd (Body wires left gates) = left ≡ 0
MayEnd stage = ⊥
