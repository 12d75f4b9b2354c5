-- What it means that the gates of a classical function are right: they xor its value into the output and leave all else.
use Rattle.std.specs.Prelude.{◌≡◌, ◌≢◌, ℕ, zero, suc, ◌+◌, ◌<◌, ◌≤◌, Bool, false, bit_xor, List, [], ◌∷◌, ◌++◌, length, map, take, drop, sum}
use Rattle.std.specs.List.{AllByRecursion}
use Rattle.sc_gate.specs.declared.gate.Wire.{Wire}
use Rattle.sc_gate.specs.Kinds.{qubit}
use Rattle.sc_gate.specs.Renaming.{rename_gate}
use Rattle.sc_gate.specs.Runs.{bit_at, bit_run, number, IsClassical}
use Rattle.sc_deck.specs.Items.{GateFits}
use Rattle.sc_word.specs.Scratch.{fn_scratch, fn_wires}
use Rattle.sc_word.specs.Typed.{TypedWords}
use Rattle.sc_word.specs.Value.{fn_value}
use Rattle.sc_rev.specs.Cells.{wires_from}
use Rattle.sc_rev.specs.Functions.{operands_of, gates_of}

-- the numbers of words of these widths, whose bits stand one after another
abbrev pub numbers_of : List ℕ → List Bool → List ℕ
numbers_of [] bits = []
numbers_of (w ∷ ws) bits = number (take w bits) ∷ numbers_of ws (drop w bits)

abbrev pub zeros : ℕ → List Bool
zeros zero = []
zeros (suc n) = false ∷ zeros n

-- for every assignment of the words and the output, and zero scratch: the words stay, the scratch is zero again, and the number of the
-- output is xored with the function's value
pub record IsReversible (t : TypedWords) : Type 0 where
  pub runs : (inputs outputs : List Bool) → length inputs ≡ sum t.params → length outputs ≡ t.returned.width →
      (left : List Bool)
      × (bit_run (gates_of t) (inputs ++ (outputs ++ zeros (fn_scratch t))) ≡ inputs ++ (left ++ zeros (fn_scratch t)))
      × (number left ≡ bit_xor (number outputs) (fn_value t (numbers_of t.params inputs)))

-- each gate is an X, a CNOT or a Toffoli and stands on distinct qubits of the function's own
pub record AreOwnGates (t : TypedWords) : Type 0 where
  pub classical : AllByRecursion IsClassical (gates_of t)
  pub fit : AllByRecursion (GateFits (record { qubits = fn_wires t; cbits = 0 })) (gates_of t)

-- ---- the same on other wires

-- the number of the wire for which the qubit k stands
abbrev pub placed : (Wire → Wire) → ℕ → ℕ
placed f k = (f (qubit k)).number

-- the number of the word of width w whose qubits are numbered from n on
abbrev pub word_in : (Wire → Wire) → List Bool → ℕ → ℕ → ℕ
word_in f bits n w = number (map (λ k. bit_at bits (placed f k)) (wires_from n w))

abbrev pub words_in : (Wire → Wire) → List Bool → ℕ → List ℕ → List ℕ
words_in f bits n [] = []
words_in f bits n (w ∷ ws) = word_in f bits n w ∷ words_in f bits (n + w) ws

-- the function's qubits stand for distinct wires that have truth values, and its scratch is zero
pub record IsPlaced (t : TypedWords) (f : Wire → Wire) (bits : List Bool) : Type 0 where
  pub there : (k : ℕ) → k < fn_wires t → placed f k < length bits
  pub distinct : (j k : ℕ) → j < fn_wires t → k < fn_wires t → placed f j ≡ placed f k → j ≡ k
  pub zero_scratch : (k : ℕ) → operands_of t ≤ k → k < fn_wires t → bit_at bits (placed f k) ≡ false

-- the run of the gates on those wires xors the function's value into the output, and every other truth value stays
pub record XorsValue (t : TypedWords) (f : Wire → Wire) (bits after : List Bool) : Type 0 where
  pub output : word_in f after (sum t.params) t.returned.width ≡ bit_xor (word_in f bits (sum t.params) t.returned.width) (fn_value t (words_in f bits 0 t.params))
  pub others : (w : ℕ) → ((k : ℕ) → sum t.params ≤ k → k < operands_of t → placed f k ≢ w) → bit_at after w ≡ bit_at bits w

abbrev pub RunsOnPlacedWires : TypedWords → Type 0
RunsOnPlacedWires t = (f : Wire → Wire) (bits : List Bool) → IsPlaced t f bits → XorsValue t f bits (bit_run (map (rename_gate f) (gates_of t)) bits)
