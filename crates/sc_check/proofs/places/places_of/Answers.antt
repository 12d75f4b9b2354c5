use Rattle.std.proofs.Common.{◌≡◌, length, take, drop, ◌++◌, ◌∙◌, ap}
use Rattle.sc_check.proofs.Placing.{place_more, written_back}
use Rattle.sc_check.proofs.places.places_of.Goals as goal

pub loop-i-preserved : goal.loop-i-preserved
loop-i-preserved c =
    let now = c.mark_step.new.places in
    let len : length now ≡ c.loop-i.places.len = c.mark_step.auto.places ∙ c.deref_mut.ensures.len in
    let back : take c.loop-i.places.len (now ++ drop (length now) c.loop-i.places.items) ≡ now = written_back now _ _ len in
    rw back (record {
      len = c.mark_step.auto.places ∙ (ap length c.deref_mut.ensures.value ∙ c.loop-i.invariant.len);
      found = λ p below. place_more c.loop-i.places.items now p c.loop-i.i c.args.steps.now c.index-steps-i.result c.loop-i-test.true c.index-steps-i.is
          (rw (c.as_slice.ensures, c.deref_mut.ensures.value) at (c.mark_step.ensures p (rw (c.deref_mut.ensures.value, c.loop-i.invariant.len) below)))
          (c.loop-i.invariant.found p below);
    })
