use Rattle.std.proofs.Common.{ℕ, ◌-◌, ◌≤◌, List, ◌++◌, length, sym, ap, ◌∙◌, subst}
use Rattle.std.specs.Prelude.{codes, flat_map}
use Rattle.std.specs.List.{range_with_len}
use Rattle.sc_base.specs.Limits.{most_source_bytes}
use Rattle.sc_top.specs.Drills.{first_line, module_line, call_line}
use Rattle.sc_top.proofs.DrillSizes.{drill_fits}
use Rattle.sc_top.proofs.drill.drill_source.Goals as goal

pub returns-clause-text : goal.returns-clause-text
returns-clause-text c =
    c.in_ok-push_bytes-3.ensures.ok
    ∙ ap (λ (t : List ℕ). t ++ codes "}\n")
    (c.in_ok-push_calls.ensures
    ∙ ap (λ (t : List ℕ). t ++ flat_map call_line (range_with_len 1 c.args.n))
    (c.in_ok-push_bytes-2.ensures.ok
    ∙ ap (λ (t : List ℕ). t ++ codes "int main() { qbit q[3];\n")
    (c.in_ok-push_modules.ensures ∙ ap (λ (t : List ℕ). t ++ flat_map module_line (range_with_len 2 (c.args.n - 1))) (c.in_ok-push_bytes.ensures.ok ∙ ap (λ (t : List ℕ). t ++ first_line) c.new-text.ensures))))

pub returns-clause-within : goal.returns-clause-within
returns-clause-within c = subst (λ (t : List ℕ). length t ≤ most_source_bytes) (sym (returns-clause-text c)) (drill_fits c.args.n c.requires.most)
