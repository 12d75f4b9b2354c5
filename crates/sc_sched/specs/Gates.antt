-- What a schedule has to know of the gates of a list, by their positions from 0.
use Rattle.std.specs.Prelude.{ℕ, Bool, false, Option, Some, None, List, map, slice_get, slice_index}
use Rattle.sc_gate.specs.declared.gate.Kind.{Kind}
use Rattle.sc_gate.specs.declared.gate.Gate.{Gate}
use Rattle.sc_gate.specs.Gates.{name_of, qubits_of}
use Rattle.sc_gate.specs.Wires.{shares as share}

-- the number of qubits of a gate
abbrev pub arity_of : Gate → ℕ
arity_of gate = qubits_of (name_of gate.kind)

-- the number of qubits of the gate at a position; 0 past the end
abbrev pub arity_at : List Gate → ℕ → ℕ
arity_at gates x = slice_index (map arity_of gates) x

abbrev pub kind_of : Gate → Kind
kind_of gate = gate.kind

-- the kind of the gate at a position
abbrev pub kind_at : List Gate → ℕ → Option Kind
kind_at gates x = slice_get (map kind_of gates) x

abbrev pub both_share : Option Gate → Option Gate → Bool
both_share None h = false
both_share (Some g) None = false
both_share (Some g) (Some h) = share g h

-- the gates at two positions share a wire
abbrev pub shares : List Gate → ℕ → ℕ → Bool
shares gates x y = both_share (slice_get gates x) (slice_get gates y)
