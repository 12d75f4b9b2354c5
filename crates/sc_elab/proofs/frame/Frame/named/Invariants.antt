use Rattle.std.proofs.Common.{◌≡◌, ◌≤◌, length, take}
use Rattle.sc_elab.specs.Frames.{names_of}
use Rattle.sc_meaning.specs.States.{wires_named}
use Rattle.sc_elab.proofs.Names.{names}
use Rattle.sc_elab.proofs.frame.Frame.named.Given as goal

abbrev pub invariant-loop-depth : goal.invariant-loop-depth
invariant-loop-depth l =
    (l.depth ≤ length l.self.wires.items)
    × (wires_named (names_of l.self) l.name ≡ wires_named (names (take l.depth l.self.wires.items)) l.name)

abbrev pub decreases-loop-depth : goal.decreases-loop-depth
decreases-loop-depth l = l.depth
