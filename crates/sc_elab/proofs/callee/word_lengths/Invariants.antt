use Rattle.std.proofs.Common.{◌≡◌, [], ◌∷◌, ◌++◌, Some, drop}
use Rattle.std.specs.Prelude.{pos, map}
use Rattle.sc_meaning.specs.Arguments.{of_lengths}
use Rattle.sc_elab.specs.Evaluated.{all_passed}
use Rattle.sc_elab.proofs.callee.word_lengths.Given as goal

abbrev pub invariant-loop-width : goal.invariant-loop-width
invariant-loop-width l =
    of_lengths (map (λ w. Some (pos w)) (l.widths ++ l.function.returned.width ∷ [])) (all_passed l.evaluated)
    ≡ of_lengths (map (λ w. Some (pos w)) (drop l.width-index l.widths ++ l.function.returned.width ∷ [])) (all_passed l.rest)
