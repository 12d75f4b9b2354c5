use Rattle.std.proofs.Common.{arith}
use Rattle.std.proofs.lemmas.Fmt.{length-decimal-le}
use Rattle.sc_base.proofs.DecimalLemmas.{twelve_digits_is}
use Rattle.sc_base.proofs.decimal.decimals_of.Goals as goal

pub write_digits-requires : goal.write_digits-requires
write_digits-requires c = (length-decimal-le 12 c.args.units (omega arith) c.requires (omega arith), omega arith)

pub returns : goal.returns
returns c = twelve_digits_is c.args.units c.write_digits.result c.write_digits.new.buf c.write_digits.ensures.start c.write_digits.ensures.written c.write_digits.ensures.before
