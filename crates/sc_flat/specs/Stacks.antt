-- What is held of frames.
use Rattle.std.specs.Prelude.{ℕ, List, ◌∷◌}
use Rattle.sc_flat.specs.declared.frames.Frame.{Frame}

-- frames, the innermost first, and how many of them there is room for
pub record Stack : Type 0 where
  pub frames : List Frame
  pub room : ℕ

abbrev pub with_frame : Frame → Stack → Stack
with_frame frame stack = record stack { frames = frame ∷ stack.frames }
