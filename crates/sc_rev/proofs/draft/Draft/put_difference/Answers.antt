use Rattle.sc_rev.proofs.Grows.{ok_then, difference_drawn, difference_sum_room, difference_last_room}
use Rattle.sc_rev.proofs.draft.Draft.put_difference.Goals as goal

pub put_sum-requires : goal.put_sum-requires
put_sum-requires c = record { fits = difference_sum_room c.args.e.now c.args.f.now c.args.self.now c.put_each.new.self c.in_ok-inverse.inverse.items c.as_slice.result.now c.in_ok-inverse.ensures c.as_slice.ensures.value c.requires.fits }

pub put_each-requires-2 : goal.put_each-requires-2
put_each-requires-2 c = record { fits = difference_last_room c.args.e.now c.args.f.now c.args.self.now c.put_each.new.self c.put_sum.new.self c.in_ok-inverse.inverse.items c.as_slice.result.now c.in_ok-sum.sum.items c.as_slice-2.result.now c.in_ok-inverse.ensures c.as_slice.ensures.value c.in_ok-sum.ensures c.as_slice-2.ensures.value c.requires.fits }

pub returns : goal.returns
returns c =
    ok_then _ _ (λ r h. difference_drawn c.args.e.now c.args.f.now c.args.self.now c.put_each.new.self c.put_sum.new.self c.put_each-2.new.self c.in_ok-inverse.inverse.items c.as_slice.result.now c.in_ok-sum.sum.items c.as_slice-2.result.now c.as_slice-3.result.now r.items
    c.in_ok-inverse.ensures c.as_slice.ensures.value c.in_ok-sum.ensures c.as_slice-2.ensures.value c.as_slice-3.ensures.value h) c.put_each-2.result c.put_each-2.ensures
