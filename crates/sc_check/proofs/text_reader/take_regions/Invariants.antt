use Rattle.std.proofs.Common.{length}
use Rattle.sc_check.proofs.LineLemmas.{RegionsRead}
use Rattle.sc_check.proofs.text_reader.take_regions.Given as goal

abbrev pub invariant-loop-region : goal.invariant-loop-region
invariant-loop-region l = RegionsRead l.gates l.text l.found.items l.rest

abbrev pub decreases-loop-region : goal.decreases-loop-region
decreases-loop-region l = length l.rest
