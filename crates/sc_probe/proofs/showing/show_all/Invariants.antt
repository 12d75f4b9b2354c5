use Rattle.std.proofs.Common.{◌≡◌, map, take}
use Rattle.sc_probe.specs.Rules.{folded}
use Rattle.sc_probe.proofs.showing.show_all.Given as goal

abbrev pub invariant-loop-gate : goal.invariant-loop-gate
invariant-loop-gate g l = record {
  rules : map (λ b. (goal.Probe-dyn g (b.vtable, b.value)).rule b.value) l.probes ≡ map (λ b. (goal.Probe-dyn g (b.vtable, b.value)).rule b.value) l.fn.probes;
  states : map (λ b. (goal.Probe-dyn g (b.vtable, b.value)).state b.value) l.probes
      ≡ map (λ b. folded ((goal.Probe-dyn g (b.vtable, b.value)).rule b.value) ((goal.Probe-dyn g (b.vtable, b.value)).state b.value) (take l.gate-index l.gates)) l.fn.probes;
}
