use Rattle.std.proofs.Common.{ℕ, ◌+◌, ◌<◌, ◌++◌, List, Some, map, ap, ◌∙◌}
use Rattle.std.specs.Prelude.{option_to_list}
use Rattle.sc_gate.specs.declared.gate.Wire.{Wire}
use Rattle.sc_path.specs.Places.{row_number}
use Rattle.sc_path.proofs.RowLists.{all_front, all_back, all_rest, three_rows}
use Rattle.sc_path.proofs.body.operand_rows.Goals as goal

pub push_row-requires-2 : goal.push_row-requires-2
push_row-requires-2 c =
    all_front (λ (w : Wire). c.args.qubits + w.number < 4294967296) (option_to_list c.args.gate.now.b) (option_to_list c.args.gate.now.c)
    (all_rest (λ (w : Wire). c.args.qubits + w.number < 4294967296) c.args.gate.now.a (option_to_list c.args.gate.now.b ++ option_to_list c.args.gate.now.c) c.requires)

pub push_row-requires-3 : goal.push_row-requires-3
push_row-requires-3 c =
    all_back (λ (w : Wire). c.args.qubits + w.number < 4294967296) (option_to_list c.args.gate.now.b) (option_to_list c.args.gate.now.c)
    (all_rest (λ (w : Wire). c.args.qubits + w.number < 4294967296) c.args.gate.now.a (option_to_list c.args.gate.now.b ++ option_to_list c.args.gate.now.c) c.requires)

pub returns-in-Ok-push_row-2-clause-rows : goal.returns-in-Ok-push_row-2-clause-rows
returns-in-Ok-push_row-2-clause-rows c =
    three_rows (row_number c.args.qubits) c.args.gate.now.a c.args.gate.now.b c.args.gate.now.c c.push_row.new.out.items c.push_row-2.new.out.items c.push_row-3.new.out.items
    (c.in-Ok.ensures.ok ∙ ap (λ (x : List ℕ). x ++ map (row_number c.args.qubits) (option_to_list (Some c.args.gate.now.a))) c.new-out.ensures.items) c.in-Ok-push_row.ensures.ok c.in-Ok-push_row-2.ensures.ok
