use Rattle.std.proofs.Common.{◌^◌}
use Rattle.sc_count.proofs.SoundCounts.{turns-within, all-below}
use Rattle.sc_count.proofs.running.Running.add_part.Goals as goal

pub add_kinds-kinds-requires : goal.add_kinds-kinds-requires
add_kinds-kinds-requires c =
    all-below _ (2 ^ 128) _ c.in_ok-gates.ensures.0
    (turns-within c.args.self.now.counts.gates c.args.part.now.gates c.args.turns c.args.self.now.counts.kinds c.args.part.now.kinds c.requires.sound.counts.kinds c.requires.part_sound.kinds)
