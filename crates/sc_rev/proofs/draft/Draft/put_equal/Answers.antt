use Rattle.sc_rev.proofs.Grows.{ok_then, equal_drawn, equal_last_room}
use Rattle.sc_rev.proofs.draft.Draft.put_equal.Goals as goal

pub put_all-requires : goal.put_all-requires
put_all-requires c = record { fits = equal_last_room c.args.e.now c.args.f.now c.args.self.now c.put_each.new.self c.in_ok-same.same.items c.as_slice.result.now c.in_ok-same.ensures c.as_slice.ensures.value c.requires.fits }

pub returns : goal.returns
returns c =
    ok_then _ _ (λ r h. equal_drawn c.args.e.now c.args.f.now c.args.self.now c.put_each.new.self c.put_all.new.self c.in_ok-same.same.items c.as_slice.result.now r.items c.in_ok-same.ensures c.as_slice.ensures.value h) c.put_all.result c.put_all.ensures
