use Rattle.std.proofs.Common.{sym, arith}
use Rattle.sc_check.proofs.Lowest.{none_passes_at}
use Rattle.sc_check.proofs.steps.step_is_wide.Goals as goal

pub returns : goal.returns
returns c = sym (none_passes_at _ c.args.step.now _ c.loop-region.region-index (omega arith) c.loop-region.invariant)
