use Rattle.std.proofs.Common.{◌∙◌}
use Rattle.sc_gate.specs.Gates.{name_of}
use Rattle.sc_open.specs.Lowering.{back_line}
use Rattle.sc_open.proofs.StageLaws.{rest_of, begins_by_word, line_has_word}
use Rattle.sc_open.proofs.open_line.read_line.Goals as goal

pub returns-in_default-clause-none : goal.returns-in_default-clause-none
returns-in_default-clause-none c = λ l p same.
    c.in_default.ensures.none (name_of (back_line l).kind) (rest_of l) (line_has_word c.args.registers.spare l p.formed) (same ∙ begins_by_word c.args.registers.spare l p.formed)
