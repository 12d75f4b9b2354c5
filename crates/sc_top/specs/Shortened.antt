-- The stage from a deck to its list without the pairs of gates that undo each other, as it is written.
use Rattle.std.specs.Prelude.{ℕ, List, ◌++◌, Result, Ok, flat_map}
use Rattle.sc_cancel.specs.Cancelling.{shorter, gates_at}
use Rattle.sc_deck.specs.Modules.{Module}
use Rattle.sc_gate.specs.Lines.{flat_text}
use Rattle.sc_gate.specs.declared.gate.Gate.{Gate}
use Rattle.sc_read.specs.declared.flat.FlatText.{FlatText}
use Rattle.sc_top.specs.Expansions.{ones}
use Rattle.sc_top.specs.Listed.{IsListed}
use Rattle.sc_top.specs.Stages.{Then, Is}
use Rattle.sc_top.specs.Watching.{Watcher, comment_line, probe_lines}
use Rattle.sc_top.specs.declared.fault.Refusal.{Refusal}

-- the gates that stay when the pairs that undo each other are taken out
abbrev pub kept_gates : List Gate → List Gate
kept_gates gates = gates_at gates (shorter gates)

-- THE TEXT of a list without these pairs: the flat text of the gates that stay, with the numbers of wires of the whole list, and behind
-- it the lines of these probes
abbrev pub shortened_text : List Watcher → FlatText → List ℕ
shortened_text all list = flat_text list.qubits list.cbits (kept_gates list.gates) ++ probe_lines (kept_gates list.gates) all

-- the same, from the positions of the gates and what the probes tell
abbrev pub kept_text : FlatText → List ℕ → List (List ℕ) → List ℕ
kept_text list kept told = flat_text list.qubits list.cbits (gates_at list.gates kept) ++ flat_map comment_line told

-- the text of a deck
abbrev pub IsShortened : List Watcher → List Module → Result (List ℕ) Refusal → Type 0
IsShortened all modules = Then (IsListed ones modules) (λ list. Is (Ok (shortened_text all list)))
