use Rattle.std.proofs.Common.{◌∙◌, arith}
use Rattle.std.specs.Prelude.{slice_index}
use Rattle.std.proofs.lemmas.List.{length-set}
use Rattle.sc_sched.proofs.PlaceLemmas.{positions_moved, inverse_is, inverse_more}
use Rattle.sc_sched.proofs.places.inverse.Goals as goal

pub index_mut-requires : goal.index_mut-requires
index_mut-requires c = omega (arith, (positions_moved c.args.numbers.now c.requires.permutation).inside c.loop-i.i c.loop-i-test.true, c.loop-i.invariant.many)

pub loop-i-preserved : goal.loop-i-preserved
loop-i-preserved c = record {
  many = length-set c.loop-i.back.items (slice_index c.args.numbers.now c.loop-i.i) c.loop-i.i ∙ c.loop-i.invariant.many;
  known = inverse_more c.args.numbers.now c.loop-i.back.items c.loop-i.i c.requires.permutation c.loop-i-test.true c.loop-i.invariant.many c.loop-i.invariant.known;
}

pub returns : goal.returns
returns c = inverse_is c.args.numbers.now c.loop-i.back.items c.requires.permutation c.loop-i.invariant.many (λ i l. c.loop-i.invariant.known i (omega arith))
