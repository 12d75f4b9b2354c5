use Rattle.sc_top.proofs.OtherLemmas.{shortened_is}
use Rattle.sc_top.proofs.shortened.shorten.Goals as goal

pub returns : goal.returns
returns g c =
    shortened_is _ _ c.args.list c.in_ok-kept.kept c.in_ok-told.told c.args.probes.now c.show.new.probes (rw c.as_slice.ensures at c.in_ok-kept.ensures.shorter) c.show.ensures.rules
    (rw (c.as_slice-2.ensures, c.as_slice-3.ensures) at c.show.ensures.states) c.in_ok-told.ensures
