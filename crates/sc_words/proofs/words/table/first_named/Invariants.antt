use Rattle.std.proofs.Common.{◌≡◌, length}
use Rattle.std.specs.Prelude.{find}
use Rattle.std.specs.Str.{bytes_eq}
use Rattle.sc_words.specs.Words.{mode_text}
use Rattle.sc_words.proofs.words.table.first_named.Given as goal

abbrev pub invariant-loop-modes : goal.invariant-loop-modes
invariant-loop-modes l = find (λ m. bytes_eq (mode_text m) l.word) l.modes ≡ find (λ m. bytes_eq (mode_text m) l.word) l.initial.modes

abbrev pub decreases-loop-modes : goal.decreases-loop-modes
decreases-loop-modes l = length l.modes
