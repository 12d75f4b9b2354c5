use Rattle.std.proofs.Common.{rules}
use Rattle.sc_elab.proofs.Lengths.{span_length}
use Rattle.sc_elab.proofs.callee.has_length.Goals as goal

pub returns : goal.returns
returns c = rw (span_length c.args.length c.args.one.now) (search rules)
