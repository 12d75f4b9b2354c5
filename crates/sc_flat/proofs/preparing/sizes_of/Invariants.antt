use Rattle.std.proofs.Common.{◌≡◌, map, take}
use Rattle.sc_flat.specs.Sizes.{size_in}
use Rattle.sc_flat.proofs.preparing.sizes_of.Given as goal

abbrev pub invariant-loop-c : goal.invariant-loop-c
invariant-loop-c l = l.sizes ≡ map size_in (take l.c-index l.counts)
