use Rattle.std.proofs.Common.{◌≤◌, ℕ, List, Bor, length, refl, arith}
use Rattle.sc_base.proofs.OutputLemmas.{prefix_whole}
use Rattle.sc_base.proofs.LoopLemmas.{loop_step, loop_fault, loop_done}
use Rattle.sc_base.proofs.parts.write_parts.Goals as goal

pub returns-in_err-write_all-clause-prefix : goal.returns-in_err-write_all-clause-prefix
returns-in_err-write_all-clause-prefix g c =
    loop_fault (λ (part : Bor (List ℕ)). part.now) c.args.parts.now c.loop-part.part-index _ _ c.loop-part-test.true refl c.loop-part.invariant.written c.write_all.ensures.prefix

pub loop-part-preserved : goal.loop-part-preserved
loop-part-preserved g c = record {
  open_still = c.in_ok-write_all.ensures.«open»;
  later = omega (arith, c.loop-part.invariant.later, c.in_ok-write_all.ensures.cause.later);
  written = loop_step (λ (part : Bor (List ℕ)). part.now) c.args.parts.now c.loop-part.part-index _ _ c.loop-part-test.true refl
      c.loop-part.invariant.written c.in_ok-write_all.ensures.appended;
}

pub returns-clause-appended : goal.returns-clause-appended
returns-clause-appended g c =
    let over : length c.args.parts.now ≤ c.loop-part.part-index = omega arith in
    loop_done (λ (part : Bor (List ℕ)). part.now) c.args.parts.now c.loop-part.part-index over c.loop-part.invariant.written

pub returns-clause-prefix : goal.returns-clause-prefix
returns-clause-prefix g c =
    let over : length c.args.parts.now ≤ c.loop-part.part-index = omega arith in
    prefix_whole (loop_done (λ (part : Bor (List ℕ)). part.now) c.args.parts.now c.loop-part.part-index over c.loop-part.invariant.written)
