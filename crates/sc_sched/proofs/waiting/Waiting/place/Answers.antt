use Rattle.std.proofs.Common.{◌<◌, length, refl, ◌∙◌, rules}
use Rattle.std.specs.Prelude.{slice_index}
use Rattle.std.proofs.lemmas.List.{length-set}
use Rattle.sc_sched.proofs.Open.{stands_at}
use Rattle.sc_sched.proofs.Freeing.{places_more}
use Rattle.sc_sched.proofs.waiting.Waiting.place.Goals as goal

pub index_mut-requires : goal.index_mut-requires
index_mut-requires c =
    let b : slice_index c.args.step.now c.loop-x.x-index < length c.loop-x.self.placed.items = rw c.loop-x.invariant.many (c.requires (slice_index c.args.step.now c.loop-x.x-index) (stands_at c.args.step.now c.loop-x.x-index c.loop-x-test.true)) in
    search rules

pub loop-x-preserved : goal.loop-x-preserved
loop-x-preserved c =
    let b : slice_index c.args.step.now c.loop-x.x-index < length c.loop-x.self.placed.items = rw c.loop-x.invariant.many (c.requires (slice_index c.args.step.now c.loop-x.x-index) (stands_at c.args.step.now c.loop-x.x-index c.loop-x-test.true)) in
    record {
      last = c.loop-x.invariant.last;
      next = c.loop-x.invariant.next;
      many = length-set c.loop-x.self.placed.items _ _ ∙ c.loop-x.invariant.many;
      placed = places_more c.args.self.now.placed.items c.loop-x.self.placed.items _ c.args.step.now c.loop-x.x-index c.loop-x-test.true b refl c.loop-x.invariant.placed;
    }
