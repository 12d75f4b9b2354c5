-- Which gates are ready, by the gates that are placed.
use Rattle.std.specs.Prelude.{ℕ, ◌&&◌, not, Bool, false, slice_index_or}
use Rattle.sc_sched.specs.declared.waiting.Waiting.{Waiting}
use Rattle.sc_sched.specs.Neighbours.{each, neighbours_at}

abbrev pub is_placed : Waiting → ℕ → Bool
is_placed w x = slice_index_or w.placed.items x false

-- not placed, and each last gate before it on a wire is
abbrev pub is_ready : Waiting → ℕ → Bool
is_ready w x = not (is_placed w x) && each (is_placed w) (neighbours_at w.last.items x)
