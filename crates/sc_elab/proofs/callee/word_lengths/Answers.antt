use Rattle.std.proofs.Common.{List, ℕ, [], ◌∷◌, ◌++◌, Some, drop, sym, ap, ◌∙◌}
use Rattle.std.specs.Prelude.{pos, map}
use Rattle.sc_elab.specs.declared.arguments.Evaluated.{Evaluated}
use Rattle.sc_meaning.specs.Arguments.{of_lengths}
use Rattle.sc_elab.specs.Evaluated.{all_passed}
use Rattle.sc_elab.proofs.Lengths.{short_by, none_left}
use Rattle.sc_elab.proofs.callee.word_lengths.Goals as goal

pub returns-in_default : goal.returns-in_default
returns-in_default c =
    let widths = c.widths-widths.result.now in
    let i = c.loop-width.width-index in
    let last : List ℕ = c.args.function.now.returned.width ∷ [] in
    sym (ap (λ (ws : List ℕ). of_lengths (map (λ w. Some (pos w)) (ws ++ last)) (all_passed c.args.evaluated.now)) (sym c.widths-widths.ensures)
    ∙ c.loop-width.invariant
    ∙ ap (λ (es : List Evaluated). of_lengths (map (λ w. Some (pos w)) (drop i widths ++ last)) (all_passed es)) (none_left c.loop-width.rest.now c.in_default.len_below)
    ∙ short_by (map (λ w. Some (pos w)) (drop i widths ++ last)))
