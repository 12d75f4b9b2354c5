use Rattle.std.proofs.Common.{drop, arith}
use Rattle.std.proofs.lemmas.Grind.{common_steps}
use Rattle.sc_base.proofs.ReadLemmas.{read_splits}
use Rattle.sc_base.proofs.text.copy_front.Goals as goal

pub returns-clause-bytes : goal.returns-clause-bytes
returns-clause-bytes c =
    read_splits c.args.at c.min-count.result c.args.text.now c.copy_from_slice.new.self (drop c.min-count.result c.args.buf.now) (grind (arith, common_steps)) (grind (arith, common_steps))
