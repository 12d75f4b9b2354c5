use Rattle.std.proofs.Common.{◌≡◌, ℕ, List, Option, length, ap, ◌∙◌, subst, drop}
use Rattle.std.specs.Prelude.{◌/◌}
use Rattle.sc_path.specs.declared.row.Entry.{Entry}
use Rattle.sc_path.specs.Rows.{look, both, WhyHeavy}
use Rattle.sc_path.specs.Fronts.{source, called, WhyCalled}
use Rattle.sc_path.proofs.CallCode.{if_ok, if_err, gathered_is, why_low, why_high, why_made}
use Rattle.sc_path.proofs.front.+gathered.Goals as goal

pub returns-in-Err-clause-err : goal.returns-in-Err-clause-err
returns-in-Err-clause-err t c =
    why_low c.args.rows.now c.args.wires.now (length c.args.callee.now / 2) c.args.callee.now c.in-Err.fault
    (subst (λ (es : List Entry). WhyCalled c.args.rows.now c.args.wires.now es c.in-Err.fault) c.split_at.ensures.front c.in-Err.ensures.err)

pub returns-in-Err-gathered-clause-err : goal.returns-in-Err-gathered-clause-err
returns-in-Err-gathered-clause-err t c =
    why_high c.args.rows.now c.args.wires.now (length c.args.callee.now / 2) c.args.callee.now c.in-Err-gathered.fault
    (subst (λ (es : List Entry). WhyCalled c.args.rows.now c.args.wires.now es c.in-Err-gathered.fault) c.split_at.ensures.back c.in-Err-gathered.ensures.err)

pub returns-clause-sums : goal.returns-clause-sums
returns-clause-sums t c =
    if_ok c.merge.result (λ row. (s : Option ℕ) → look row s ≡ both c.as_slice.result.now c.as_slice-2.result.now 0 s)
    (λ row. (s : Option ℕ) → look row s ≡ called (λ x. source c.args.rows.now c.args.wires.now x s) c.args.callee.now)
    c.merge.ensures.sums
    (λ row m. gathered_is (source c.args.rows.now c.args.wires.now) (length c.args.callee.now / 2) c.args.callee.now c.as_slice.result.now c.as_slice-2.result.now c.in-Ok.first c.in-Ok-gathered.second row
    c.as_slice.ensures.entries c.as_slice-2.ensures.entries
    (λ s. c.in-Ok.ensures.sums s ∙ ap (called (λ x. source c.args.rows.now c.args.wires.now x s)) c.split_at.ensures.front)
    (λ s. c.in-Ok-gathered.ensures.sums s ∙ ap (called (λ x. source c.args.rows.now c.args.wires.now x s)) c.split_at.ensures.back) m)

pub returns-clause-err : goal.returns-clause-err
returns-clause-err t c =
    if_err c.merge.result (WhyHeavy c.as_slice-2.result.now 0) (WhyCalled c.args.rows.now c.args.wires.now c.args.callee.now) c.merge.ensures.err
    (λ fault w. why_high c.args.rows.now c.args.wires.now (length c.args.callee.now / 2) c.args.callee.now fault
    (why_made c.args.rows.now c.args.wires.now (drop (length c.args.callee.now / 2) c.args.callee.now) c.as_slice-2.result.now c.in-Ok-gathered.second fault c.as_slice-2.ensures.entries
    (λ s. c.in-Ok-gathered.ensures.sums s ∙ ap (called (λ x. source c.args.rows.now c.args.wires.now x s)) c.split_at.ensures.back) w))
