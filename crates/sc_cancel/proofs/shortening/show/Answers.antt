use Rattle.std.proofs.Common.{◌∙◌, ◌+◌, take}
use Rattle.sc_cancel.specs.Cancelling.{gates_at}
use Rattle.sc_cancel.proofs.Stepping.{shown_more, gates_more}
use Rattle.sc_cancel.proofs.shortening.show.Goals as goal

pub loop-position-preserved : goal.loop-position-preserved
loop-position-preserved g c = record {
  rules = c.show.ensures.rules ∙ c.loop-position.invariant.rules;
  states = shown_more _ _ (gates_at c.args.gates.now (take c.loop-position.position-index c.args.kept.now)) (gates_at c.args.gates.now (take (c.loop-position.position-index + 1) c.args.kept.now)) _ c.loop-position.probes c.show.new.probes c.args.probes.now
      (gates_more c.args.gates.now c.args.kept.now c.loop-position.position-index _ c.requires c.loop-position-test.true)
      c.loop-position.invariant.rules c.loop-position.invariant.states c.show.ensures.states;
}
