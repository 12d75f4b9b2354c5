use Rattle.std.proofs.Common.{◌<◌, length, rules, arith, ap}
use Rattle.std.proofs.lemmas.Grind.{common_steps}
use Rattle.sc_rev.specs.Circuits.{Circuit, mul_piece}
use Rattle.sc_rev.proofs.Grows.{product_first, part_room, part_goes_on}
use Rattle.sc_rev.proofs.draft.Draft.put_product.Goals as goal

pub put_part-requires : goal.put_part-requires
put_part-requires c =
    let some : 0 < length c.args.f.now = first_of (search rules, grind (arith, common_steps)) in
    record { fits = product_first c.args.e.now c.args.f.now c.args.self.now.next some c.requires.fits }

pub put_part-requires-in-loop-i : goal.put_part-requires-in-loop-i
put_part-requires-in-loop-i c =
    let whole : Circuit = mul_piece c.args.e.now c.args.f.now c.args.self.now.next in
    record { fits = (part_room c.args.e.now whole c.args.self.now c.loop-i.self c.loop-i.word.items c.args.f.now c.loop-i.i 0 c.loop-i-test.true c.loop-i.invariant c.requires.fits).part }

pub put_sum-requires : goal.put_sum-requires
put_sum-requires c =
    let whole : Circuit = mul_piece c.args.e.now c.args.f.now c.args.self.now.next in
    let room = (part_room c.args.e.now whole c.args.self.now c.loop-i.self c.loop-i.word.items c.args.f.now c.loop-i.i 0 c.loop-i-test.true c.loop-i.invariant c.requires.fits).whole in
    record { fits = omega (arith, room, c.in_ok-part.ensures.next, ap length c.as_slice.ensures.value) }

pub loop-i-preserved : goal.loop-i-preserved
loop-i-preserved c =
    let whole : Circuit = mul_piece c.args.e.now c.args.f.now c.args.self.now.next in
    part_goes_on c.args.e.now whole c.args.self.now c.loop-i.self c.put_part-in-loop-i.new.self c.put_sum.new.self c.loop-i.word.items c.in_ok-part.part.items c.as_slice.result.now c.as_slice-in-loop-i.result.now c.in_ok-word-2.word.items c.args.f.now c.loop-i.i 0
    c.loop-i-test.true c.loop-i.invariant c.in_ok-part.ensures c.as_slice.ensures.value c.as_slice-in-loop-i.ensures.value c.in_ok-word-2.ensures
