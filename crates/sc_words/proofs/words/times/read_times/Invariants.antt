use Rattle.std.proofs.Common.{◌≡◌, ◌==◌, drop, length}
use Rattle.std.specs.List.{slice_split}
use Rattle.sc_words.specs.Words.{times_from, times_of}
use Rattle.sc_words.proofs.words.times.read_times.Given as goal

abbrev pub invariant-loop-entry : goal.invariant-loop-entry
invariant-loop-entry l =
    (goal.iterator-loop-entry).can_next l.entry-iterator × (goal.iterator-loop-entry).is_finite l.entry-iterator
    × (times_from (drop (length l.yielded) (slice_split (λ c. c == 44) l.text)) l.least l.times ≡ times_of l.text)
