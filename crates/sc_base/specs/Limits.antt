-- The limits of the compiler.
use Rattle.std.specs.Prelude.{ℕ, ◌-◌, ◌^◌}

-- the most gates of a list that is scheduled, checked or cancelled
abbrev pub most_gates : ℕ
most_gates = 4194304

-- the most tokens of a source
abbrev pub most_tokens : ℕ
most_tokens = 4194304

-- the most wires of one instance, of both classes together
abbrev pub most_wires : ℕ
most_wires = 65536

-- the most instances of a source and modules of a hierarchical text, main included
abbrev pub most_instances : ℕ
most_instances = 65536

-- the most items of one module
abbrev pub most_items : ℕ
most_items = 1048576

-- the most steps of one body
abbrev pub most_steps : ℕ
most_steps = 1048576

-- the most bytes of a source
abbrev pub most_source_bytes : ℕ
most_source_bytes = 16777216

-- the greatest reach of a deck: the wires of its chains of calls
abbrev pub most_reach : ℕ
most_reach = 16777216

-- the most bytes of a text that is read back
abbrev pub most_text_bytes : ℕ
most_text_bytes = 134217728

-- the greatest depth of calls, main included
abbrev pub most_depth : ℕ
most_depth = 256

-- the deepest nesting of phrases in a source
abbrev pub most_nesting : ℕ
most_nesting = 128

-- the most qubits, and the most cbits, of a flat list
abbrev pub most_flat_wires : ℕ
most_flat_wires = 4294967295

-- the greatest count of gates, weight, qubits or cbits
abbrev pub most_count : ℕ
most_count = 2 ^ 128 - 1
