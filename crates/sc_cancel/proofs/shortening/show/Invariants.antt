use Rattle.std.proofs.Common.{◌≡◌, map, take}
use Rattle.sc_probe.specs.Rules.{folded}
use Rattle.sc_cancel.specs.Cancelling.{gates_at}
use Rattle.sc_cancel.proofs.shortening.show.Given as goal

abbrev pub invariant-loop-position : goal.invariant-loop-position
invariant-loop-position g l = record {
  rules : map (λ b. (goal.Probe-dyn g (b.vtable, b.value)).rule b.value) l.probes ≡ map (λ b. (goal.Probe-dyn g (b.vtable, b.value)).rule b.value) l.fn.probes;
  states : map (λ b. (goal.Probe-dyn g (b.vtable, b.value)).state b.value) l.probes
      ≡ map (λ b. folded ((goal.Probe-dyn g (b.vtable, b.value)).rule b.value) ((goal.Probe-dyn g (b.vtable, b.value)).state b.value) (gates_at l.gates (take l.position-index l.kept))) l.fn.probes;
}
