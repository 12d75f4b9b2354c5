use Rattle.std.proofs.Common.{refl}
use Rattle.sc_parse.proofs.make_words.push_shift.Goals as goal

pub returns-in-Ok-clause-ok : goal.returns-in-Ok-clause-ok
returns-in-Ok-clause-ok c = (record { left = c.args.left; by = c.args.by }, refl, refl, c.in-Ok.ensures.ok)
