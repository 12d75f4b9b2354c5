use Rattle.std.proofs.Common.{length}
use Rattle.sc_check.proofs.ReaderLemmas.{ReadsFront}
use Rattle.sc_check.proofs.reader.take_positions.Given as goal

abbrev pub invariant-loop-after_space : goal.invariant-loop-after_space
invariant-loop-after_space l = ReadsFront l.gates l.bytes l.region l.rest

abbrev pub decreases-loop-after_space : goal.decreases-loop-after_space
decreases-loop-after_space l = length l.rest
