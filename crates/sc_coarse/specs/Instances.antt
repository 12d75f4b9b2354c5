-- The parts of an instance's coarse schedule.
use Rattle.std.specs.Prelude.{ℕ, List}
use Rattle.sc_coarse.specs.declared.block.Block.{Block}
use Rattle.sc_coarse.specs.declared.coarse.Instance.{Instance}

abbrev pub length_of : Instance → ℕ
length_of one = one.length

abbrev pub blocks_of : Instance → List Block
blocks_of one = one.blocks
