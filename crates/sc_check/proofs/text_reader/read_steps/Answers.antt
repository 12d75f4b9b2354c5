use Rattle.std.proofs.Common.{◌≡◌, [], refl, length, ap, arith, rules}
use Rattle.std.proofs.Common.{length-append}
use Rattle.sc_check.proofs.LineLemmas.{steps_start, steps_more, no_step_line, no_end_line, past_end}
use Rattle.sc_check.proofs.text_reader.read_steps.Goals as goal

pub loop-begun-init : goal.loop-begun-init
loop-begun-init c =
    let none : c.from_vec-steps.result ≡ [] = search rules in
    rw none (record { many = refl; read = steps_start c.args.gates c.args.count c.args.text.now; empty = search rules })

pub loop-begun-preserved : goal.loop-begun-preserved
loop-begun-preserved c = rw (c.in-Ok-push.ensures.ok, c.len.ensures) (record {
  many = rw length-append (let e : length c.loop-begun.steps ≡ c.loop-begun.begun = c.loop-begun.invariant.many in omega (arith, e));
  read = steps_more c.args.gates c.args.count c.args.text.now c.loop-begun.steps c.loop-begun.rest.now c.loop-begun.line c.in-Ok-take_regions.step c.in-Some.after_line.now c.in-Ok-take_regions.after_step.now
      (omega arith) (omega (arith, c.loop-begun.invariant.many, c.loop-begun-test.true)) c.loop-begun.invariant.read c.in-Some.ensures.some c.in-Ok-take_regions.ensures.regions;
  empty = c.in-Ok-take_regions.ensures.empty;
})

pub returns-in-Some-take_text-clause-fault : goal.returns-in-Some-take_text-clause-fault
returns-in-Some-take_text-clause-fault c =
    past_end c.args.gates c.args.count c.args.text.now c.loop-begun.steps c.loop-begun.rest.now c.loop-begun.line c.in-Some-take_text.field-0.now
    (omega (arith, c.loop-begun.invariant.many, c.loop-begun-test.false)) c.loop-begun.invariant.read c.in-Some-take_text.ensures.some
    (λ e. absurd (omega (arith, c.in-Some-take_text.len_at_least, ap length e)))

pub returns-in_default-take_text-clause-fault : goal.returns-in_default-take_text-clause-fault
returns-in_default-take_text-clause-fault c =
    no_step_line c.args.gates c.args.count c.args.text.now c.loop-begun.steps c.loop-begun.rest.now c.loop-begun.line
    (omega (arith, c.loop-begun.invariant.many, c.loop-begun-test.true)) c.loop-begun.invariant.read c.in_default-take_text.ensures.none

pub returns-in-None-clause-fault : goal.returns-in-None-clause-fault
returns-in-None-clause-fault c =
    no_end_line c.args.gates c.args.count c.args.text.now c.loop-begun.steps c.loop-begun.rest.now c.loop-begun.line
    (omega (arith, c.loop-begun.invariant.many, c.loop-begun-test.false)) c.loop-begun.invariant.read c.in-None.ensures.none

pub take_regions-requires-clause-empty : goal.take_regions-requires-clause-empty
take_regions-requires-clause-empty c = c.loop-begun.invariant.empty
