use Rattle.std.proofs.Common.{◌≡◌, ℕ, ◌+◌, ◌-◌, ◌++◌, ap, ◌∙◌, arith}
use Rattle.std.specs.Prelude.{flat_map}
use Rattle.std.specs.List.{range_with_len}
use Rattle.sc_top.specs.Drills.{module_line}
use Rattle.sc_top.proofs.DrillParts.{for_each, next_line, last_line}
use Rattle.sc_top.proofs.drill.push_modules.Goals as goal

pub loop-i-preserved : goal.loop-i-preserved
loop-i-preserved c = next_line module_line c.loop-i.text c.push_module.new.text (c.args.text.now ++ for_each module_line 2 (c.args.n + 1)) c.loop-i.i (c.args.n + 1) c.loop-i-test.true (c.in_ok-push_module.ensures) c.loop-i.invariant

pub returns : goal.returns
returns c =
    let lines : c.args.n + 1 - 2 ≡ c.args.n - 1 = omega arith in
    last_line module_line c.loop-i.text (c.args.text.now ++ for_each module_line 2 (c.args.n + 1)) c.loop-i.i (c.args.n + 1) c.loop-i-test.false c.loop-i.invariant
    ∙ ap (λ (k : ℕ). c.args.text.now ++ flat_map module_line (range_with_len 2 k)) lines
