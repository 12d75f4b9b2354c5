use Rattle.sc_rev.specs.Circuits.{Circuit}
use Rattle.sc_rev.specs.Functions.{shifted}
use Rattle.sc_rev.specs.Emitting.{only_word}
use Rattle.sc_rev.proofs.Grows.{shift_room}
use Rattle.sc_rev.proofs.draft.Draft.put_shifts.Goals as goal

pub put_shift-requires : goal.put_shift-requires
put_shift-requires c =
    let whole : Circuit = shifted (only_word c.args.word.items c.args.self.now.next) c.args.links.now in
    record { fits = shift_room whole c.args.self.now c.loop-link.self c.loop-link.now.items c.as_slice.result.now c.args.links.now c.loop-link.link-index _ c.loop-link-test.true c.loop-link.invariant c.requires.fits c.as_slice.ensures.value }
