use Rattle.std.proofs.Common.{◌≡◌, ℕ, ◌+◌, ◌-◌, ◌++◌, ap, ◌∙◌, arith}
use Rattle.std.specs.Prelude.{flat_map}
use Rattle.std.specs.List.{range_with_len}
use Rattle.sc_top.specs.Drills.{call_line}
use Rattle.sc_top.proofs.DrillParts.{for_each, next_line, last_line}
use Rattle.sc_top.proofs.drill.push_calls.Goals as goal

pub loop-i-preserved : goal.loop-i-preserved
loop-i-preserved c = next_line call_line c.loop-i.text c.push_call.new.text (c.args.text.now ++ for_each call_line 1 (c.args.n + 1)) c.loop-i.i (c.args.n + 1) c.loop-i-test.true (c.in_ok-push_call.ensures) c.loop-i.invariant

pub returns : goal.returns
returns c =
    let lines : c.args.n + 1 - 1 ≡ c.args.n = omega arith in
    last_line call_line c.loop-i.text (c.args.text.now ++ for_each call_line 1 (c.args.n + 1)) c.loop-i.i (c.args.n + 1) c.loop-i-test.false c.loop-i.invariant
    ∙ ap (λ (k : ℕ). c.args.text.now ++ flat_map call_line (range_with_len 1 k)) lines
