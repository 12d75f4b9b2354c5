-- Boards, as contracts see them.
use Rattle.std.specs.Prelude.{ℕ, Bool, false, slice_index, slice_index_or}
use Rattle.sc_sched.specs.declared.board.Board.{Board}
use Rattle.sc_sched.specs.Layout.{Layout}

abbrev pub layout_of : Board → Layout
layout_of b = record { gate_at = b.gate_at.items; place = b.place.items; gate_in = b.gate_in.items; slot = b.slot.items; kind = b.kind.items; start = b.start.items }

-- the gate is ready
abbrev pub waits : Board → ℕ → Bool
waits b x = slice_index_or b.places (slice_index b.place.items x) false
