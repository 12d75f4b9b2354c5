use Rattle.std.proofs.Common.{rules, ap, ◌∙◌}
use Rattle.sc_base.specs.GateNames.{place_of}
use Rattle.sc_probe.proofs.StateLemmas.{kinds_step}
use Rattle.sc_probe.proofs.kinds.KindsProbeProbe.see.Goals as goal

pub returns-clause-state : goal.returns-clause-state
returns-clause-state c =
    kinds_step c.args.self.now.counts c.args.gate.now c.place-place.result c.saturating_add.result (search rules) (c.place-place.ensures.place ∙ ap place_of c.name.ensures)
    c.saturating_add.ensures
