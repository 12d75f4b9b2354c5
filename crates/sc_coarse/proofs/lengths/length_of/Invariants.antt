use Rattle.std.proofs.Common.{◌≡◌, take}
use Rattle.sc_coarse.specs.Lengths.{blocks_length, length_at}
use Rattle.sc_coarse.proofs.lengths.length_of.Given as goal

abbrev pub invariant-loop-block : goal.invariant-loop-block
invariant-loop-block l = l.length ≡ blocks_length (length_at l.done) l.items (take l.block-index l.blocks)
