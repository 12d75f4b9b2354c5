use Rattle.std.proofs.Common.{◌∙◌}
use Rattle.std.proofs.lemmas.List.{take_more}
use Rattle.sc_probe.proofs.SeenLemmas.{all_more}
use Rattle.sc_probe.proofs.showing.show_all.Goals as goal

pub loop-gate-preserved : goal.loop-gate-preserved
loop-gate-preserved g c = record {
  rules = c.show.ensures.rules ∙ c.loop-gate.invariant.rules;
  states = all_more _ _ c.args.gates.now c.loop-gate.gate-index _ c.loop-gate.probes c.show.new.probes c.args.probes.now
      (take_more c.args.gates.now c.loop-gate.gate-index _ c.loop-gate-test.true) c.loop-gate.invariant.rules c.loop-gate.invariant.states c.show.ensures.states;
}
