use Rattle.std.proofs.Common.{◌≡◌, ◌<◌, ◌^◌, subst, Some, ◌∙◌}
use Rattle.sc_count.specs.declared.counts.Counts.{Counts}
use Rattle.sc_coarse.proofs.make.gates_have_range.Goals as goal

pub returns-in-Some : goal.returns-in-Some
returns-in-Some c = λ counts at.
    let both : Some c.in-Some.counts.now ≡ Some counts = c.in-Some.ensures ∙ at in
    let same : c.in-Some.counts.now ≡ counts = cc in
    subst (λ (x : Counts). x.gates < 2 ^ 128) same c.has_range.ensures
