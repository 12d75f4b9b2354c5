-- What a walk keeps of the deck that it goes over.
use Rattle.std.specs.Prelude.{◌≡◌, ℕ, ◌+◌, ◌<◌, ◌≤◌, ◌^◌, List, [], ◌∷◌, length, take, drop, slice_get, slice_index, Some}
use Rattle.std.specs.Option.{option_map_or}
use Rattle.sc_deck.specs.Bodies.{after_items}
use Rattle.sc_deck.specs.Events.{after_events, fresh_in}
use Rattle.sc_deck.specs.Keys.{params_of}
use Rattle.sc_deck.specs.Modules.{Module, reaches_of}
use Rattle.sc_deck.specs.Turns.{turns_of}
use Rattle.sc_deck.specs.Unfolding.{expansion, gates_of}
use Rattle.sc_flat.specs.declared.frames.Frame.{Frame}
use Rattle.sc_flat.specs.declared.size.Size.{Size}
use Rattle.sc_flat.specs.declared.walk.Walk.{Walk}
use Rattle.sc_flat.specs.Frames.{lengths}
use Rattle.sc_flat.specs.Walks.{numbers, rest}

-- the numbers of a module's expansion: its gates, its fresh qubits and its fresh classical bits
abbrev pub IsSizeOf : List Module → ℕ → Size → Type 0
IsSizeOf modules i size =
    (size.gates ≡ length (gates_of modules i)) × (size.qubits ≡ (fresh_in (expansion modules i)).qubits) × (size.cbits ≡ (fresh_in (expansion modules i)).cbits)

pub record AreSizes (modules : List Module) (sizes : List Size) : Type 0 where
  pub count : length sizes ≡ length modules
  pub each : (i : ℕ) (size : Size) → slice_get sizes i ≡ Some size → IsSizeOf modules i size

-- a frame over so many others, with these wires of its own, where there is so much room
pub record FrameKept (modules : List Module) (room depth : ℕ) (f : Frame) (qubits cbits : List ℕ) : Type 0 where
  pub in_module : Module
  pub at : slice_get modules f.body ≡ Some in_module
  pub item : f.item ≤ length in_module.items
  pub done : f.done < option_map_or turns_of (slice_get in_module.items f.item) 1
  -- the parameters and the fresh wires of the items so far
  pub wires : lengths qubits cbits ≡ after_items (params_of in_module.key) (take f.item in_module.items)
  -- all wires of the longest chain of calls from here on have room
  pub reach : f.qubits + f.cbits + slice_index (reaches_of modules) f.body ≤ room
  -- callees come before callers
  pub deep : depth + f.body < length modules

abbrev pub FramesKept : List Module → ℕ → List Frame → List ℕ → List ℕ → Type 0
FramesKept modules room [] qubits cbits = Unit {0}
FramesKept modules room (f ∷ frames) qubits cbits =
    (f.qubits ≤ length qubits) × (f.cbits ≤ length cbits) × FrameKept modules room (length frames) f (drop f.qubits qubits) (drop f.cbits cbits)
    × FramesKept modules room frames (take f.qubits qubits) (take f.cbits cbits)

pub record WalkKept (modules : List Module) (w : Walk) : Type 0 where
  pub frames : FramesKept modules w.wires.room (w.top ∷ w.below.frames) w.wires.qubits w.wires.cbits
  pub depth : length modules ≤ w.below.room
  -- fresh numbers have 32 bits, to the end
  pub qubits : (after_events (numbers w) (rest modules w)).qubits < 2 ^ 32
  pub cbits : (after_events (numbers w) (rest modules w)).cbits < 2 ^ 32
