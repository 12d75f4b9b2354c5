use Rattle.std.proofs.Common.{◌≡◌, map, take, slice_index}
use Rattle.sc_coarse.proofs.building.item_region.Given as goal

abbrev pub invariant-loop-x : goal.invariant-loop-x
invariant-loop-x l = l.there ≡ map (slice_index l.items) (take l.x-index l.region)
