use Rattle.sc_probe.proofs.SeenLemmas.{Seen}
use Rattle.sc_probe.proofs.showing.show.Given as goal

abbrev pub invariant-loop-probe : goal.invariant-loop-probe
invariant-loop-probe g l =
    Seen (λ b. (goal.Probe-dyn g (b.vtable, b.value)).rule b.value) (λ b. (goal.Probe-dyn g (b.vtable, b.value)).state b.value)
    l.gate l.probe-index l.probes l.fn.probes
