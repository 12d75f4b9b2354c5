use Rattle.std.proofs.Common.{ℕ, ◌+◌, ◌-◌, ◌<◌, List, All, length, refl, sym, ap, ◌∙◌, subst, arith}
use Rattle.sc_gate.specs.Gates.{operands}
use Rattle.sc_gate.specs.declared.gate.Wire.{Wire}
use Rattle.sc_deck.specs.declared.item.Item.TheVariants as item
use Rattle.sc_deck.specs.Bodies.{wires_of}
use Rattle.sc_gate.specs.Chains.{Timed}
use Rattle.sc_path.specs.declared.table.Table.{Table}
use Rattle.sc_path.specs.Places.{rows_for, WhyItem}
use Rattle.sc_path.specs.Powers.{AreTurns, WhyPower}
use Rattle.sc_path.specs.Tables.{IsTable}
use Rattle.sc_path.proofs.CallCode.{if_err}
use Rattle.sc_path.proofs.Gate.{on_ok}
use Rattle.sc_path.proofs.ItemSteps.{one_gate, gate_turns, gate_step, gate_why, fresh_step, call_step, call_why, calls_step, calls_why, why_power}
use Rattle.sc_path.proofs.Steps.{item_at, item_fits, item_known, gate_there, gates_there, call_there, calls_there, small, rows_small, call_small, callee_below, callee_rows, wires_few}
use Rattle.sc_path.proofs.body.add_item.Goals as goal

pub add_gates-requires-clause-fits : goal.add_gates-requires-clause-fits
add_gates-requires-clause-fits c =
    let e = item_at c.items.result.now c.args.body.now.items c.args.at c.index-items-at.result (item.Gate c.in-Gate.gate) c.items.ensures (sym c.index-items-at.is ∙ c.in-Gate.is) in
    small (wires_of c.args.body.now) c.count-qubits.result (operands c.in-Gate.gate) c.count-qubits.ensures c.requires.sound.narrow (gate_there c.args.body.now c.args.at c.index-items-at.result c.requires.sound c.requires.item c.in-Gate.gate e)

pub add_gates-requires-clause-below : goal.add_gates-requires-clause-below
add_gates-requires-clause-below c =
    let e = item_at c.items.result.now c.args.body.now.items c.args.at c.index-items-at.result (item.Gate c.in-Gate.gate) c.items.ensures (sym c.index-items-at.is ∙ c.in-Gate.is) in
    rows_small (wires_of c.args.body.now) c.count-qubits.result (length c.args.front.now.rows.items) (operands c.in-Gate.gate) c.count-qubits.ensures c.requires.rows (gate_there c.args.body.now c.args.at c.index-items-at.result c.requires.sound c.requires.item c.in-Gate.gate e)

pub returns-in-Gate-clause-stands : goal.returns-in-Gate-clause-stands
returns-in-Gate-clause-stands c =
    let e = item_at c.items.result.now c.args.body.now.items c.args.at c.index-items-at.result (item.Gate c.in-Gate.gate) c.items.ensures (sym c.index-items-at.is ∙ c.in-Gate.is) in
    on_ok c.add_gates.result c.add_gates.ensures.stands
    (λ step. gate_step c.args.tables.now c.args.times.now c.args.body.now c.args.at c.index-items-at.result (item.Gate c.in-Gate.gate) c.args.front.now.rows.items c.args.front.now.last.items c.requires.item e c.count-qubits.result c.count-qubits.ensures c.in-Gate.gate 1 (omega arith) (one_gate c.in-Gate.gate) (item_fits c.args.body.now c.args.at c.index-items-at.result (item.Gate c.in-Gate.gate) c.requires.sound c.requires.item e) c.add_gates.new.front.rows.items c.add_gates.new.front.last.items step)

pub returns-in-Gate-clause-err : goal.returns-in-Gate-clause-err
returns-in-Gate-clause-err c =
    let e = item_at c.items.result.now c.args.body.now.items c.args.at c.index-items-at.result (item.Gate c.in-Gate.gate) c.items.ensures (sym c.index-items-at.is ∙ c.in-Gate.is) in
    if_err c.add_gates.result _ (WhyItem c.args.tables.now c.args.times.now c.args.body.now c.args.at c.args.front.now.rows.items c.args.front.now.last.items) c.add_gates.ensures.err
    (λ fault why. gate_why c.args.tables.now c.args.times.now c.args.body.now c.args.at c.index-items-at.result (item.Gate c.in-Gate.gate) c.args.front.now.rows.items c.args.front.now.last.items c.requires.item e c.count-qubits.result c.count-qubits.ensures c.in-Gate.gate 1 (omega arith) (one_gate c.in-Gate.gate) (item_fits c.args.body.now c.args.at c.index-items-at.result (item.Gate c.in-Gate.gate) c.requires.sound c.requires.item e) fault why)

pub add_gates-requires-in-Gates-clause-fits : goal.add_gates-requires-in-Gates-clause-fits
add_gates-requires-in-Gates-clause-fits c =
    let e = item_at c.items.result.now c.args.body.now.items c.args.at c.index-items-at.result (item.Gates c.in-Gates.gate c.in-Gates.turns) c.items.ensures (sym c.index-items-at.is ∙ c.in-Gates.is) in
    small (wires_of c.args.body.now) c.count-qubits.result (operands c.in-Gates.gate) c.count-qubits.ensures c.requires.sound.narrow (gates_there c.args.body.now c.args.at c.index-items-at.result c.requires.sound c.requires.item c.in-Gates.gate c.in-Gates.turns e)

pub add_gates-requires-in-Gates-clause-below : goal.add_gates-requires-in-Gates-clause-below
add_gates-requires-in-Gates-clause-below c =
    let e = item_at c.items.result.now c.args.body.now.items c.args.at c.index-items-at.result (item.Gates c.in-Gates.gate c.in-Gates.turns) c.items.ensures (sym c.index-items-at.is ∙ c.in-Gates.is) in
    rows_small (wires_of c.args.body.now) c.count-qubits.result (length c.args.front.now.rows.items) (operands c.in-Gates.gate) c.count-qubits.ensures c.requires.rows (gates_there c.args.body.now c.args.at c.index-items-at.result c.requires.sound c.requires.item c.in-Gates.gate c.in-Gates.turns e)

pub returns-in-Gates-clause-stands : goal.returns-in-Gates-clause-stands
returns-in-Gates-clause-stands c =
    let e = item_at c.items.result.now c.args.body.now.items c.args.at c.index-items-at.result (item.Gates c.in-Gates.gate c.in-Gates.turns) c.items.ensures (sym c.index-items-at.is ∙ c.in-Gates.is) in
    let f = item_fits c.args.body.now c.args.at c.index-items-at.result (item.Gates c.in-Gates.gate c.in-Gates.turns) c.requires.sound c.requires.item e in
    let two = f.1 in
    on_ok c.add_gates-in-Gates.result c.add_gates-in-Gates.ensures.stands
    (λ step. gate_step c.args.tables.now c.args.times.now c.args.body.now c.args.at c.index-items-at.result (item.Gates c.in-Gates.gate c.in-Gates.turns) c.args.front.now.rows.items c.args.front.now.last.items c.requires.item e c.count-qubits.result c.count-qubits.ensures c.in-Gates.gate c.in-Gates.turns (omega arith) (gate_turns c.in-Gates.gate c.in-Gates.turns) f.0 c.add_gates-in-Gates.new.front.rows.items c.add_gates-in-Gates.new.front.last.items step)

pub returns-in-Gates-clause-err : goal.returns-in-Gates-clause-err
returns-in-Gates-clause-err c =
    let e = item_at c.items.result.now c.args.body.now.items c.args.at c.index-items-at.result (item.Gates c.in-Gates.gate c.in-Gates.turns) c.items.ensures (sym c.index-items-at.is ∙ c.in-Gates.is) in
    let f = item_fits c.args.body.now c.args.at c.index-items-at.result (item.Gates c.in-Gates.gate c.in-Gates.turns) c.requires.sound c.requires.item e in
    let two = f.1 in
    if_err c.add_gates-in-Gates.result _ (WhyItem c.args.tables.now c.args.times.now c.args.body.now c.args.at c.args.front.now.rows.items c.args.front.now.last.items) c.add_gates-in-Gates.ensures.err
    (λ fault why. gate_why c.args.tables.now c.args.times.now c.args.body.now c.args.at c.index-items-at.result (item.Gates c.in-Gates.gate c.in-Gates.turns) c.args.front.now.rows.items c.args.front.now.last.items c.requires.item e c.count-qubits.result c.count-qubits.ensures c.in-Gates.gate c.in-Gates.turns (omega arith) (gate_turns c.in-Gates.gate c.in-Gates.turns) f.0 fault why)

pub bounds-tables-callee : goal.bounds-tables-callee
bounds-tables-callee c =
    let e = item_at c.items.result.now c.args.body.now.items c.args.at c.index-items-at.result (item.Call c.in-Call.callee c.in-Call.wires) c.items.ensures (sym c.index-items-at.is ∙ c.in-Call.is) in
    callee_below c.args.tables.now c.in-Call.callee (length c.in-Call.wires) (item_known c.args.tables.now c.args.body.now.items c.args.at c.index-items-at.result (item.Call c.in-Call.callee c.in-Call.wires) c.requires.known c.requires.item e)

pub add_called-requires-clause-fits : goal.add_called-requires-clause-fits
add_called-requires-clause-fits c =
    let e = item_at c.items.result.now c.args.body.now.items c.args.at c.index-items-at.result (item.Call c.in-Call.callee c.in-Call.wires) c.items.ensures (sym c.index-items-at.is ∙ c.in-Call.is) in
    subst (All (λ (w : Wire). c.count-qubits.result + w.number < 4294967296)) (sym c.as_slice.ensures)
    (small (wires_of c.args.body.now) c.count-qubits.result c.in-Call.wires c.count-qubits.ensures c.requires.sound.narrow (call_there c.args.body.now c.args.at c.index-items-at.result c.requires.sound c.requires.item c.in-Call.callee c.in-Call.wires e))

pub add_called-requires-clause-below : goal.add_called-requires-clause-below
add_called-requires-clause-below c =
    let e = item_at c.items.result.now c.args.body.now.items c.args.at c.index-items-at.result (item.Call c.in-Call.callee c.in-Call.wires) c.items.ensures (sym c.index-items-at.is ∙ c.in-Call.is) in
    subst (λ (ws : List Wire). All (λ w. w < length c.args.front.now.rows.items) (rows_for c.count-qubits.result ws)) (sym c.as_slice.ensures)
    (call_small (wires_of c.args.body.now) c.count-qubits.result (length c.args.front.now.rows.items) c.in-Call.wires c.count-qubits.ensures c.requires.rows (call_there c.args.body.now c.args.at c.index-items-at.result c.requires.sound c.requires.item c.in-Call.callee c.in-Call.wires e))

pub add_called-requires-clause-many : goal.add_called-requires-clause-many
add_called-requires-clause-many c =
    let e = item_at c.items.result.now c.args.body.now.items c.args.at c.index-items-at.result (item.Call c.in-Call.callee c.in-Call.wires) c.items.ensures (sym c.index-items-at.is ∙ c.in-Call.is) in
    ap length c.as_slice-in-Call.ensures ∙ ap (λ (t : Table). length t.rows) c.index-tables-callee.is ∙ callee_rows c.args.tables.now c.in-Call.callee (length c.in-Call.wires) c.index-tables-callee.result (item_known c.args.tables.now c.args.body.now.items c.args.at c.index-items-at.result (item.Call c.in-Call.callee c.in-Call.wires) c.requires.known c.requires.item e) ∙ ap (λ (ws : List Wire). length ws + 1) (sym c.as_slice.ensures)

pub returns-in-Call-clause-stands : goal.returns-in-Call-clause-stands
returns-in-Call-clause-stands c =
    let e = item_at c.items.result.now c.args.body.now.items c.args.at c.index-items-at.result (item.Call c.in-Call.callee c.in-Call.wires) c.items.ensures (sym c.index-items-at.is ∙ c.in-Call.is) in
    on_ok c.add_called.result c.add_called.ensures.stands
    (λ step. call_step c.args.tables.now c.args.times.now c.args.body.now c.args.at c.index-items-at.result (item.Call c.in-Call.callee c.in-Call.wires) c.args.front.now.rows.items c.args.front.now.last.items c.requires.item e c.count-qubits.result c.count-qubits.ensures c.in-Call.callee c.in-Call.wires c.as_slice.result.now c.as_slice-in-Call.result.now c.index-tables-callee.result (item_fits c.args.body.now c.args.at c.index-items-at.result (item.Call c.in-Call.callee c.in-Call.wires) c.requires.sound c.requires.item e) (item_known c.args.tables.now c.args.body.now.items c.args.at c.index-items-at.result (item.Call c.in-Call.callee c.in-Call.wires) c.requires.known c.requires.item e) c.as_slice.ensures c.requires.rows c.requires.lasts refl (c.as_slice-in-Call.ensures ∙ ap (λ (t : Table). t.rows) c.index-tables-callee.is) c.add_called.new.front.rows.items c.add_called.new.front.last.items step)

pub returns-in-Call-clause-err : goal.returns-in-Call-clause-err
returns-in-Call-clause-err c =
    let e = item_at c.items.result.now c.args.body.now.items c.args.at c.index-items-at.result (item.Call c.in-Call.callee c.in-Call.wires) c.items.ensures (sym c.index-items-at.is ∙ c.in-Call.is) in
    if_err c.add_called.result _ (WhyItem c.args.tables.now c.args.times.now c.args.body.now c.args.at c.args.front.now.rows.items c.args.front.now.last.items) c.add_called.ensures.err
    (λ fault why. call_why c.args.tables.now c.args.times.now c.args.body.now c.args.at c.index-items-at.result (item.Call c.in-Call.callee c.in-Call.wires) c.args.front.now.rows.items c.args.front.now.last.items c.requires.item e c.count-qubits.result c.count-qubits.ensures c.in-Call.callee c.in-Call.wires c.as_slice.result.now c.as_slice-in-Call.result.now c.index-tables-callee.result (item_fits c.args.body.now c.args.at c.index-items-at.result (item.Call c.in-Call.callee c.in-Call.wires) c.requires.sound c.requires.item e) (item_known c.args.tables.now c.args.body.now.items c.args.at c.index-items-at.result (item.Call c.in-Call.callee c.in-Call.wires) c.requires.known c.requires.item e) c.as_slice.ensures c.requires.rows c.requires.lasts refl (c.as_slice-in-Call.ensures ∙ ap (λ (t : Table). t.rows) c.index-tables-callee.is) fault why)

pub bounds-tables-callee-in-Calls : goal.bounds-tables-callee-in-Calls
bounds-tables-callee-in-Calls c =
    let e = item_at c.items.result.now c.args.body.now.items c.args.at c.index-items-at.result (item.Calls c.in-Calls.callee c.in-Calls.wires c.in-Calls.turns) c.items.ensures (sym c.index-items-at.is ∙ c.in-Calls.is) in
    callee_below c.args.tables.now c.in-Calls.callee (length c.in-Calls.wires) (item_known c.args.tables.now c.args.body.now.items c.args.at c.index-items-at.result (item.Calls c.in-Calls.callee c.in-Calls.wires c.in-Calls.turns) c.requires.known c.requires.item e)

pub add_called-requires-in-Calls-clause-fits : goal.add_called-requires-in-Calls-clause-fits
add_called-requires-in-Calls-clause-fits c =
    let e = item_at c.items.result.now c.args.body.now.items c.args.at c.index-items-at.result (item.Calls c.in-Calls.callee c.in-Calls.wires c.in-Calls.turns) c.items.ensures (sym c.index-items-at.is ∙ c.in-Calls.is) in
    subst (All (λ (w : Wire). c.count-qubits.result + w.number < 4294967296)) (sym c.as_slice-in-Calls.ensures)
    (small (wires_of c.args.body.now) c.count-qubits.result c.in-Calls.wires c.count-qubits.ensures c.requires.sound.narrow (calls_there c.args.body.now c.args.at c.index-items-at.result c.requires.sound c.requires.item c.in-Calls.callee c.in-Calls.wires c.in-Calls.turns e))

pub add_called-requires-in-Calls-clause-below : goal.add_called-requires-in-Calls-clause-below
add_called-requires-in-Calls-clause-below c =
    let e = item_at c.items.result.now c.args.body.now.items c.args.at c.index-items-at.result (item.Calls c.in-Calls.callee c.in-Calls.wires c.in-Calls.turns) c.items.ensures (sym c.index-items-at.is ∙ c.in-Calls.is) in
    subst (λ (ws : List Wire). All (λ w. w < length c.args.front.now.rows.items) (rows_for c.count-qubits.result ws)) (sym c.as_slice-in-Calls.ensures)
    (call_small (wires_of c.args.body.now) c.count-qubits.result (length c.args.front.now.rows.items) c.in-Calls.wires c.count-qubits.ensures c.requires.rows (calls_there c.args.body.now c.args.at c.index-items-at.result c.requires.sound c.requires.item c.in-Calls.callee c.in-Calls.wires c.in-Calls.turns e))

pub add_called-requires-in-Calls-clause-many : goal.add_called-requires-in-Calls-clause-many
add_called-requires-in-Calls-clause-many c =
    let e = item_at c.items.result.now c.args.body.now.items c.args.at c.index-items-at.result (item.Calls c.in-Calls.callee c.in-Calls.wires c.in-Calls.turns) c.items.ensures (sym c.index-items-at.is ∙ c.in-Calls.is) in
    ap length c.as_slice-in-Calls-2.ensures ∙ c.in-Ok.ensures.size ∙ ap (λ (t : Table). length t.rows) c.index-tables-callee-in-Calls.is ∙ callee_rows c.args.tables.now c.in-Calls.callee (length c.in-Calls.wires) c.index-tables-callee-in-Calls.result (item_known c.args.tables.now c.args.body.now.items c.args.at c.index-items-at.result (item.Calls c.in-Calls.callee c.in-Calls.wires c.in-Calls.turns) c.requires.known c.requires.item e) ∙ ap (λ (ws : List Wire). length ws + 1) (sym c.as_slice-in-Calls.ensures)

pub power-requires-clause-some : goal.power-requires-clause-some
power-requires-clause-some c =
    let e = item_at c.items.result.now c.args.body.now.items c.args.at c.index-items-at.result (item.Calls c.in-Calls.callee c.in-Calls.wires c.in-Calls.turns) c.items.ensures (sym c.index-items-at.is ∙ c.in-Calls.is) in
    let f = item_fits c.args.body.now c.args.at c.index-items-at.result (item.Calls c.in-Calls.callee c.in-Calls.wires c.in-Calls.turns) c.requires.sound c.requires.item e in
    let two = f.1 in
    omega arith

pub power-requires-clause-rows : goal.power-requires-clause-rows
power-requires-clause-rows c =
    let e = item_at c.items.result.now c.args.body.now.items c.args.at c.index-items-at.result (item.Calls c.in-Calls.callee c.in-Calls.wires c.in-Calls.turns) c.items.ensures (sym c.index-items-at.is ∙ c.in-Calls.is) in
    let n = ap (λ (t : Table). length t.rows) c.index-tables-callee-in-Calls.is ∙ callee_rows c.args.tables.now c.in-Calls.callee (length c.in-Calls.wires) c.index-tables-callee-in-Calls.result (item_known c.args.tables.now c.args.body.now.items c.args.at c.index-items-at.result (item.Calls c.in-Calls.callee c.in-Calls.wires c.in-Calls.turns) c.requires.known c.requires.item e) in
    omega arith

pub power-requires-clause-few : goal.power-requires-clause-few
power-requires-clause-few c =
    let e = item_at c.items.result.now c.args.body.now.items c.args.at c.index-items-at.result (item.Calls c.in-Calls.callee c.in-Calls.wires c.in-Calls.turns) c.items.ensures (sym c.index-items-at.is ∙ c.in-Calls.is) in
    let f = item_fits c.args.body.now c.args.at c.index-items-at.result (item.Calls c.in-Calls.callee c.in-Calls.wires c.in-Calls.turns) c.requires.sound c.requires.item e in
    let n = ap (λ (t : Table). length t.rows) c.index-tables-callee-in-Calls.is ∙ callee_rows c.args.tables.now c.in-Calls.callee (length c.in-Calls.wires) c.index-tables-callee-in-Calls.result (item_known c.args.tables.now c.args.body.now.items c.args.at c.index-items-at.result (item.Calls c.in-Calls.callee c.in-Calls.wires c.in-Calls.turns) c.requires.known c.requires.item e) in
    let l = wires_few (wires_of c.args.body.now) c.in-Calls.wires c.requires.sound.narrow (calls_there c.args.body.now c.args.at c.index-items-at.result c.requires.sound c.requires.item c.in-Calls.callee c.in-Calls.wires c.in-Calls.turns e) f.0.distinct in
    omega arith

pub returns-in-Ok-clause-stands : goal.returns-in-Ok-clause-stands
returns-in-Ok-clause-stands c =
    let e = item_at c.items.result.now c.args.body.now.items c.args.at c.index-items-at.result (item.Calls c.in-Calls.callee c.in-Calls.wires c.in-Calls.turns) c.items.ensures (sym c.index-items-at.is ∙ c.in-Calls.is) in
    on_ok c.add_called-in-Calls.result c.add_called-in-Calls.ensures.stands
    (λ step. calls_step c.args.tables.now c.args.times.now c.args.body.now c.args.at c.index-items-at.result (item.Calls c.in-Calls.callee c.in-Calls.wires c.in-Calls.turns) c.args.front.now.rows.items c.args.front.now.last.items c.requires.item e c.count-qubits.result c.count-qubits.ensures c.in-Calls.callee c.in-Calls.wires c.as_slice-in-Calls.result.now c.as_slice-in-Calls-2.result.now c.index-tables-callee-in-Calls.result (item_fits c.args.body.now c.args.at c.index-items-at.result (item.Calls c.in-Calls.callee c.in-Calls.wires c.in-Calls.turns) c.requires.sound c.requires.item e).0 (item_known c.args.tables.now c.args.body.now.items c.args.at c.index-items-at.result (item.Calls c.in-Calls.callee c.in-Calls.wires c.in-Calls.turns) c.requires.known c.requires.item e) c.as_slice-in-Calls.ensures c.requires.rows c.requires.lasts c.in-Calls.turns c.in-Ok.table.rows refl c.requires.durations c.as_slice-in-Calls-2.ensures (subst (λ (t : Table). (q : ℕ) (turns : ℕ → List Timed) → AreTurns q (length t.rows - 1) turns → IsTable (turns 1) q (length t.rows - 1) t.rows → IsTable (turns c.in-Calls.turns) q (length t.rows - 1) c.in-Ok.table.rows) c.index-tables-callee-in-Calls.is c.in-Ok.ensures.turns) c.add_called-in-Calls.new.front.rows.items c.add_called-in-Calls.new.front.last.items step)

pub returns-in-Ok-clause-err : goal.returns-in-Ok-clause-err
returns-in-Ok-clause-err c =
    let e = item_at c.items.result.now c.args.body.now.items c.args.at c.index-items-at.result (item.Calls c.in-Calls.callee c.in-Calls.wires c.in-Calls.turns) c.items.ensures (sym c.index-items-at.is ∙ c.in-Calls.is) in
    if_err c.add_called-in-Calls.result _ (WhyItem c.args.tables.now c.args.times.now c.args.body.now c.args.at c.args.front.now.rows.items c.args.front.now.last.items) c.add_called-in-Calls.ensures.err
    (λ fault why. calls_why c.args.tables.now c.args.times.now c.args.body.now c.args.at c.index-items-at.result (item.Calls c.in-Calls.callee c.in-Calls.wires c.in-Calls.turns) c.args.front.now.rows.items c.args.front.now.last.items c.requires.item e c.count-qubits.result c.count-qubits.ensures c.in-Calls.callee c.in-Calls.wires c.as_slice-in-Calls.result.now c.as_slice-in-Calls-2.result.now c.index-tables-callee-in-Calls.result (item_fits c.args.body.now c.args.at c.index-items-at.result (item.Calls c.in-Calls.callee c.in-Calls.wires c.in-Calls.turns) c.requires.sound c.requires.item e).0 (item_known c.args.tables.now c.args.body.now.items c.args.at c.index-items-at.result (item.Calls c.in-Calls.callee c.in-Calls.wires c.in-Calls.turns) c.requires.known c.requires.item e) c.as_slice-in-Calls.ensures c.requires.rows c.requires.lasts c.in-Calls.turns c.in-Ok.table.rows refl c.requires.durations c.as_slice-in-Calls-2.ensures (subst (λ (t : Table). (q : ℕ) (turns : ℕ → List Timed) → AreTurns q (length t.rows - 1) turns → IsTable (turns 1) q (length t.rows - 1) t.rows → IsTable (turns c.in-Calls.turns) q (length t.rows - 1) c.in-Ok.table.rows) c.index-tables-callee-in-Calls.is c.in-Ok.ensures.turns) fault why)

pub returns-in-Err-clause-err : goal.returns-in-Err-clause-err
returns-in-Err-clause-err c =
    let e = item_at c.items.result.now c.args.body.now.items c.args.at c.index-items-at.result (item.Calls c.in-Calls.callee c.in-Calls.wires c.in-Calls.turns) c.items.ensures (sym c.index-items-at.is ∙ c.in-Calls.is) in
    why_power c.args.tables.now c.args.times.now c.args.body.now c.args.at c.index-items-at.result (item.Calls c.in-Calls.callee c.in-Calls.wires c.in-Calls.turns) c.args.front.now.rows.items c.args.front.now.last.items c.requires.item e c.count-qubits.result c.count-qubits.ensures c.in-Calls.callee c.in-Calls.wires c.in-Calls.turns c.index-tables-callee-in-Calls.result c.in-Err.fault
    (item_fits c.args.body.now c.args.at c.index-items-at.result (item.Calls c.in-Calls.callee c.in-Calls.wires c.in-Calls.turns) c.requires.sound c.requires.item e).0 (item_known c.args.tables.now c.args.body.now.items c.args.at c.index-items-at.result (item.Calls c.in-Calls.callee c.in-Calls.wires c.in-Calls.turns) c.requires.known c.requires.item e) refl c.requires.durations
    (subst (λ (t : Table). WhyPower t.rows c.in-Calls.turns c.in-Err.fault) c.index-tables-callee-in-Calls.is c.in-Err.ensures.err)

pub returns-in-Fresh-clause-stands : goal.returns-in-Fresh-clause-stands
returns-in-Fresh-clause-stands c =
    let e = item_at c.items.result.now c.args.body.now.items c.args.at c.index-items-at.result (item.Fresh c.in-Fresh.field-0 c.in-Fresh.field-1) c.items.ensures (sym c.index-items-at.is ∙ c.in-Fresh.is) in
    fresh_step c.args.tables.now c.args.times.now c.args.body.now c.args.at c.index-items-at.result (item.Fresh c.in-Fresh.field-0 c.in-Fresh.field-1) c.args.front.now.rows.items c.args.front.now.last.items c.requires.item e c.count-qubits.result c.count-qubits.ensures c.in-Fresh.field-0 c.in-Fresh.field-1 refl
