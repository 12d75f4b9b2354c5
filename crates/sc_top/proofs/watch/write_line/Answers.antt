use Rattle.std.specs.Prelude.{codes, ◌++◌}
use Rattle.sc_base.proofs.OutputLemmas.{prefix_more, prefix_then}
use Rattle.sc_top.proofs.watch.write_line.Goals as goal

pub returns-in_err-write_all-clause-prefix : goal.returns-in_err-write_all-clause-prefix
returns-in_err-write_all-clause-prefix g c = prefix_more (c.args.text.now ++ codes "\n") c.write_all.ensures.prefix

pub returns-in_err-write_all-2-clause-prefix : goal.returns-in_err-write_all-2-clause-prefix
returns-in_err-write_all-2-clause-prefix g c = prefix_then c.in_ok-write_all.ensures.appended (prefix_more (codes "\n") c.write_all-2.ensures.prefix)

pub returns-clause-prefix : goal.returns-clause-prefix
returns-clause-prefix g c = prefix_then c.in_ok-write_all.ensures.appended (prefix_then c.in_ok-write_all-2.ensures.appended c.write_all-3.ensures.prefix)
