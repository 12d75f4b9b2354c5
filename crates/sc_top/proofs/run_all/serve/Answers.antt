use Rattle.std.proofs.Common.{map}
use Rattle.std.specs.Rc.{rc_str_bytes}
use Rattle.sc_top.specs.Watching.{watchers}
use Rattle.sc_words.proofs.WordsRange.{in_range}
use Rattle.sc_top.proofs.RunLemmas.{carried_words}
use Rattle.sc_top.proofs.run_all.serve.Goals as goal

pub returns-in-Ok-clause-carried : goal.returns-in-Ok-clause-carried
returns-in-Ok-clause-carried g c =
    carried_words (watchers (λ b. (goal.Probe-dyn g (b.vtable, b.value)).rule b.value) (λ b. (goal.Probe-dyn g (b.vtable, b.value)).state b.value) c.args.probes.items) c.in-Ok.job c.carry.result (map rc_str_bytes c.args.words.now) c.in-Ok.ensures.asked c.carry.ensures

pub carry-requires-clause-range : goal.carry-requires-clause-range
carry-requires-clause-range g c = in_range (map rc_str_bytes c.args.words.now) c.in-Ok.job c.in-Ok.ensures.asked
