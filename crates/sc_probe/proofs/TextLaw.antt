-- The text of each rule for a whole list.
use Rattle.std.proofs.Common.{◌<◌, ◌^◌, List, length}
use Rattle.sc_gate.specs.declared.gate.Gate.{Gate}
use Rattle.sc_probe.specs.declared.rule.Rule.{Rule}
use Rattle.sc_probe.specs.declared.rule.Rule.TheVariants as rule
use Rattle.sc_probe.specs.Rules.{start, folded, state_text}
use Rattle.sc_probe.specs.Watched.{IsTextOf}
use Rattle.sc_probe.proofs.KindsLaw.{kinds_law}
use Rattle.sc_probe.proofs.BurstLaw.{burst_law}
use Rattle.sc_probe.proofs.WindowLaw.{window_law}
use Rattle.sc_probe.proofs.ReachLaw.{reach_law}

pub text_law : (r : Rule) (gates : List Gate) → length gates < 2 ^ 128 → IsTextOf r gates (state_text r (folded r (start r) gates))
text_law rule.Kinds = kinds_law
text_law rule.Burst = burst_law
text_law rule.Window = window_law
text_law rule.Reach = reach_law
