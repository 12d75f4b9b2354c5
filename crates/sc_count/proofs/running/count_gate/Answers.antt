use Rattle.std.proofs.Common.{◌∙◌, ap}
use Rattle.sc_base.specs.GateNames.{place_of}
use Rattle.sc_count.proofs.KindNumbers.{gate_counted}
use Rattle.sc_count.proofs.running.count_gate.Goals as goal

pub returns-clause-counts : goal.returns-clause-counts
returns-clause-counts c =
    gate_counted c.args.times.now c.args.gate.now c.no_counts-counts.result c.place.result c.from.result c.no_counts-counts.ensures
    (c.place.ensures.place ∙ ap place_of c.name.ensures) (c.from.ensures ∙ c.of.ensures.duration)
