use Rattle.std.proofs.lemmas.Result.{err_from_is_err_and}
use Rattle.std.specs.Prelude.{ℕ, List, Option}
use Rattle.sc_base.specs.Limits.{most_text_bytes}
use Rattle.sc_top.proofs.StageLemmas.{took_stops, took_goes, took_ends}
use Rattle.sc_top.specs.Answers.{IsText}
use Rattle.sc_top.specs.Stages.{Then}
use Rattle.sc_top.specs.Verdicts.{IsVerdict}
use Rattle.sc_top.proofs.verdict.verdict_of.Goals as goal

pub returns-in_err-gates : goal.returns-in_err-gates
returns-in_err-gates g c = let p = err_from_is_err_and c.from_residual.result c.from_residual.ensures.1 in rw (p.1, p.2) (took_stops c.in_err-gates.ensures.text)

pub returns-in_err-plan : goal.returns-in_err-plan
returns-in_err-plan g c =
    let p = err_from_is_err_and c.from_residual-in_err-plan.result c.from_residual-in_err-plan.ensures.1 in
    let Next = λ (held : List ℕ → Option (List ℕ)) (gates : List ℕ). Then (IsText held most_text_bytes c.args.schedule.now) (λ plan. IsVerdict gates plan) in
    rw (p.1, p.2) (took_goes Next c.in_ok-gates.gates _ c.in_ok-gates.ensures.text (took_stops c.in_err-plan.ensures.text))

pub returns : goal.returns
returns g c =
    let Next = λ (held : List ℕ → Option (List ℕ)) (gates : List ℕ). Then (IsText held most_text_bytes c.args.schedule.now) (λ plan. IsVerdict gates plan) in
    took_goes Next c.in_ok-gates.gates c.judge.result c.in_ok-gates.ensures.text
    (took_ends c.in_ok-plan.plan c.judge.result c.in_ok-plan.ensures.text c.judge.ensures)
