use Rattle.std.proofs.Common.{◌≡◌, false, drop, length}
use Rattle.sc_coarse.specs.Building.{IsBuilt, CanEnd}
use Rattle.sc_coarse.specs.CoarseRule.{parts_from, parts_of}
use Rattle.sc_coarse.proofs.WideAndLong.{long_after}
use Rattle.sc_coarse.proofs.building.blocks_of.Given as goal

abbrev pub invariant-loop-at : goal.invariant-loop-at
invariant-loop-at g l = record {
  built : IsBuilt (g.P.Priority.comes l.order) l.k l.d (parts_of l.items) l.at (drop l.at l.items) l.building;
  can : CanEnd l.d l.building.gates.items;
  rest : long_after (length l.building.gates.items) (parts_from l.at (drop l.at l.items)) ≡ false;
}
