use Rattle.std.proofs.Common.{◌≡◌, map, take, slice_index}
use Rattle.sc_coarse.proofs.building.step_block.Given as goal

abbrev pub invariant-loop-region : goal.invariant-loop-region
invariant-loop-region l = l.regions ≡ map (map (slice_index l.items)) (take l.region-index l.step)
