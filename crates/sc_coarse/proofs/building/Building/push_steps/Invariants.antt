use Rattle.std.proofs.Common.{◌≡◌, ◌++◌, map, take}
use Rattle.sc_coarse.specs.CoarseRule.{item_step}
use Rattle.sc_coarse.proofs.building.Building.push_steps.Given as goal

abbrev pub invariant-loop-step : goal.invariant-loop-step
invariant-loop-step l = record {
  blocks : l.self.blocks ≡ l.fn.self.blocks ++ map (item_step l.fn.self.items.items) (take l.step-index l.steps);
  items : l.self.items ≡ l.fn.self.items;
}
