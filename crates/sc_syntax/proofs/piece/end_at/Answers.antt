use Rattle.std.proofs.Common.{◌≡◌, ◌+◌, get_or, arith}
use Rattle.sc_syntax.proofs.Ends.{no_end_step}
use Rattle.sc_syntax.proofs.piece.end_at.Goals as goal
use Rattle.sc_syntax.proofs.piece.end_at.Goals.{else-text-at-eq42-via-then-text-at-eq42+else-text-at-eq47, else-text-at-eq42-via-else-text-at-eq42}

pub loop-at-preserved : goal.loop-at-preserved
loop-at-preserved c =
    let text = c.args.text.now in
    let i = c.loop-at.at in
    let not : get_or text i 0 ≡ 42 → get_or text (i + 1) 0 ≡ 47 → ⊥ = λ star slash.
    elim c.else-text-at-eq42.branch [ else-text-at-eq42-via-then-text-at-eq42+else-text-at-eq47 w ↦ absurd (omega arith) | else-text-at-eq42-via-else-text-at-eq42 w ↦ absurd (omega arith) ] in
    record { none = no_end_step text i c.loop-at-test.true c.loop-at.invariant.none not; within = omega arith }
