use Rattle.std.proofs.Common.{◌≤◌, ℕ, List, ◌∷◌, ◌++◌, ◌∙◌, sym, ap, arith, length}
use Rattle.std.specs.Prelude.{decimal, codes, slice_index}
use Rattle.sc_base.proofs.OutputLemmas.{prefix_whole}
use Rattle.sc_base.proofs.LoopLemmas.{loop_step, loop_fault, loop_done}
use Rattle.sc_sched.proofs.text.write_positions.Goals as goal

pub returns-in_err-write_all-clause-prefix : goal.returns-in_err-write_all-clause-prefix
returns-in_err-write_all-clause-prefix g c =
    loop_fault (λ (x : ℕ). 32 ∷ decimal x) c.args.region.now c.loop-x.x-index 0 _ c.loop-x-test.true
    (sym (c.as_bytes.ensures ∙ (c.push_number.ensures.text ∙ ap (λ (z : List ℕ). z ++ decimal (slice_index c.args.region.now c.loop-x.x-index)) (c.push.ensures ∙ ap (λ (z : List ℕ). z ++ codes " ") c.new-line.ensures)))) c.loop-x.invariant.written c.write_all.ensures.prefix

pub loop-x-preserved : goal.loop-x-preserved
loop-x-preserved g c = record {
  open_still = c.in_ok-write_all.ensures.«open»;
  later = omega (arith, c.loop-x.invariant.later, c.in_ok-write_all.ensures.cause.later);
  written = loop_step (λ (x : ℕ). 32 ∷ decimal x) c.args.region.now c.loop-x.x-index 0 _ c.loop-x-test.true
      (sym (c.as_bytes.ensures ∙ (c.push_number.ensures.text ∙ ap (λ (z : List ℕ). z ++ decimal (slice_index c.args.region.now c.loop-x.x-index)) (c.push.ensures ∙ ap (λ (z : List ℕ). z ++ codes " ") c.new-line.ensures)))) c.loop-x.invariant.written c.in_ok-write_all.ensures.appended;
}

pub returns-clause-appended : goal.returns-clause-appended
returns-clause-appended g c =
    let over : length c.args.region.now ≤ c.loop-x.x-index = omega arith in
    loop_done (λ (x : ℕ). 32 ∷ decimal x) c.args.region.now c.loop-x.x-index over c.loop-x.invariant.written

pub returns-clause-prefix : goal.returns-clause-prefix
returns-clause-prefix g c =
    let over : length c.args.region.now ≤ c.loop-x.x-index = omega arith in
    prefix_whole (loop_done (λ (x : ℕ). 32 ∷ decimal x) c.args.region.now c.loop-x.x-index over c.loop-x.invariant.written)
