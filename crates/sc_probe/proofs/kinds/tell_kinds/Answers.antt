use Rattle.std.proofs.Common.{◌<◌, length, arith}
use Rattle.sc_base.specs.GateNames.{all_names}
use Rattle.sc_probe.proofs.KindTexts.{kinds_more}
use Rattle.sc_probe.proofs.kinds.tell_kinds.Goals as goal

pub loop-name-preserved : goal.loop-name-preserved
loop-name-preserved c =
    let within : c.loop-name.name-index < length all_names = omega arith in
    kinds_more c.args.counts.now c.loop-name.name-index c.place.result _ c.loop-name.text c.tell_kind.new.text within c.place.ensures.place c.loop-name.invariant c.in_ok-tell_kind.ensures
