use Rattle.std.proofs.Common.{◌≡◌, map, take}
use Rattle.sc_probe.specs.Rules.{state_text}
use Rattle.sc_probe.proofs.showing.report_all.Given as goal

abbrev pub invariant-loop-probe : goal.invariant-loop-probe
invariant-loop-probe g l =
    l.texts ≡ map (λ b. state_text ((goal.Probe-dyn g (b.vtable, b.value)).rule b.value) ((goal.Probe-dyn g (b.vtable, b.value)).state b.value)) (take l.probe-index l.probes)
