-- What the map of a scope holds, by the bytes of its keys.
use Rattle.std.specs.Prelude.{ℕ, List, map}
use Rattle.std.specs.declared.alloc.Global.{Global}
use Rattle.std.specs.declared.vec.Vec.{Vec}
use Rattle.sc_value.specs.declared.Value.{Value}

abbrev pub byte_entries : List (Vec ℕ Global × Value) → List (List ℕ × Value)
byte_entries entries = map (λ entry. (entry.0.items, entry.1)) entries
