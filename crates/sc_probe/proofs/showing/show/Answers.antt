use Rattle.sc_probe.proofs.SeenLemmas.{seen_at}
use Rattle.sc_probe.proofs.showing.show.Goals as goal

pub loop-probe-preserved : goal.loop-probe-preserved
loop-probe-preserved g c =
    seen_at (λ b. (goal.Probe-dyn g (b.vtable, b.value)).rule b.value) (λ b. (goal.Probe-dyn g (b.vtable, b.value)).state b.value)
    c.args.gate.now c.loop-probe.probe-index c.loop-probe.probes c.args.probes.now c.probe-item.result c.show_one.new.probe
    c.loop-probe-test.true c.probe-item.is c.show_one.ensures.rule c.show_one.ensures.state c.loop-probe.invariant
