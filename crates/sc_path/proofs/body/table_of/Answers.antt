use Rattle.std.proofs.Common.{ℕ, ◌+◌, ◌<◌, ◌≤◌, All, length, sym, ap, ◌∙◌, subst, arith}
use Rattle.sc_deck.specs.Bodies.{wires_of}
use Rattle.sc_gate.specs.Numbers.{both}
use Rattle.sc_path.proofs.BodyTable.{body_table, ends_below, ends_many, ends_same, params_low}
use Rattle.sc_path.proofs.body.table_of.Goals as goal

pub start_of-requires-clause-params : goal.start_of-requires-clause-params
start_of-requires-clause-params c =
    let p = (params_low c.args.body.now).0 in
    let q = (params_low c.args.body.now).1 in
    omega arith

pub returns-in-Err-add_items-clause-large : goal.returns-in-Err-add_items-clause-large
returns-in-Err-add_items-clause-large c = c.in-Err-add_items.ensures.err (c.in-Ok.ensures.stands c.args.tables.now c.args.times.now)

pub param_rows-requires : goal.param_rows-requires
param_rows-requires c =
    let p = (params_low c.args.body.now).0 in
    let q = (params_low c.args.body.now).1 in
    let n : both (wires_of c.args.body.now) ≤ 65536 = c.wires-wires.ensures.sound.narrow in
    let a = c.params.ensures in
    let b = c.count.ensures in
    let d = c.params-2.ensures in
    record { fits = omega arith }

pub table-requires-clause-below : goal.table-requires-clause-below
table-requires-clause-below c =
    let e = ends_same c.args.body.now.params (wires_of c.args.body.now) c.params.result c.count.result c.params-2.result c.deref.result.now c.in-Ok-param_rows.ends.items c.deref.ensures.value c.in-Ok-param_rows.ensures.rows c.params.ensures c.count.ensures c.params-2.ensures in
    subst (All (λ w. w < length c.add_items.new.front.rows.items)) (sym e)
    (ends_below c.args.body.now.params (wires_of c.args.body.now) (length c.add_items.new.front.rows.items) (params_low c.args.body.now).0 (params_low c.args.body.now).1 c.in-Ok-add_items.ensures.rows)

pub table-requires-clause-few : goal.table-requires-clause-few
table-requires-clause-few c =
    let p = (params_low c.args.body.now).0 in
    let q = (params_low c.args.body.now).1 in
    let n : both (wires_of c.args.body.now) ≤ 65536 = c.wires-wires.ensures.sound.narrow in
    let l = c.in-Ok-add_items.ensures.lasts in
    omega arith

pub returns-in-Ok-table-clause-size : goal.returns-in-Ok-table-clause-size
returns-in-Ok-table-clause-size c =
    let e = ends_same c.args.body.now.params (wires_of c.args.body.now) c.params.result c.count.result c.params-2.result c.deref.result.now c.in-Ok-param_rows.ends.items c.deref.ensures.value c.in-Ok-param_rows.ensures.rows c.params.ensures c.count.ensures c.params-2.ensures in
    c.in-Ok-table.ensures.size ∙ ap (λ (n : ℕ). n + 1) (ap length e ∙ ends_many c.args.body.now.params (wires_of c.args.body.now))

pub returns-in-Ok-table-clause-table : goal.returns-in-Ok-table-clause-table
returns-in-Ok-table-clause-table c = λ modules key ext sf.
    let e = ends_same c.args.body.now.params (wires_of c.args.body.now) c.params.result c.count.result c.params-2.result c.deref.result.now c.in-Ok-param_rows.ends.items c.deref.ensures.value c.in-Ok-param_rows.ensures.rows c.params.ensures c.count.ensures c.params-2.ensures in
    body_table c.args.times.now c.of-one.ensures.in_range modules key c.args.body.now c.add_items.new.front.rows.items c.add_items.new.front.last.items c.deref.result.now c.in-Ok-table.table ext.params
    c.in-Ok-add_items.ensures.rows c.in-Ok-add_items.ensures.lasts c.in-Ok-add_items.ensures.bounded (c.in-Ok-add_items.ensures.stands (c.in-Ok.ensures.stands c.args.tables.now c.args.times.now) modules key ext sf) e
    c.in-Ok-table.ensures.size c.in-Ok-table.ensures.rows c.in-Ok-table.ensures.last
