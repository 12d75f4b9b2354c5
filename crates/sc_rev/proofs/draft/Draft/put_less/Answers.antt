use Rattle.sc_rev.proofs.Grows.{less_sum_room}
use Rattle.sc_rev.proofs.draft.Draft.put_less.Goals as goal

pub put_adder-requires : goal.put_adder-requires
put_adder-requires c = record { fits = less_sum_room c.args.e.now c.args.f.now c.args.self.now c.put_each.new.self c.in_ok-inverse.inverse.items c.as_slice.result.now c.in_ok-inverse.ensures c.as_slice.ensures.value c.requires.fits }
