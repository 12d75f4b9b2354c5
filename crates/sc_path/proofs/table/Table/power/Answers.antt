use Rattle.std.proofs.Common.{◌≡◌, ◌-◌, length, ap, arith, rules}
use Rattle.std.specs.Prelude.{unwrap_or}
use Rattle.sc_path.proofs.BodyTable.{critical_fits}
use Rattle.sc_path.proofs.TurnLemmas.{power_table, power_why}
use Rattle.sc_path.proofs.table.Table.power.Goals as goal

pub returns-in-Err-add_turns-clause-err : goal.returns-in-Err-add_turns-clause-err
returns-in-Err-add_turns-clause-err c =
    let l = c.len.ensures in
    let m = c.in-Ok.ensures.len in
    let a = ap length c.deref.ensures.value in
    let b = ap length c.deref-2.ensures.value in
    power_why c.args.n (length c.deref.result.now) (length c.deref-2.result.now) c.args.self.now.rows c.as_slice.result.now c.in-Ok-idle.front.rows.items c.in-Ok-idle.front.last.items c.in-Err-add_turns.fault
    (omega arith) (omega arith) c.as_slice.ensures c.in-Ok-idle.ensures.stands c.in-Err-add_turns.ensures.err

pub returns-in-Ok-finished-clause-turns : goal.returns-in-Ok-finished-clause-turns
returns-in-Ok-finished-clause-turns c =
    let l = c.len.ensures in
    let m = c.in-Ok.ensures.len in
    let a = ap length c.deref.ensures.value in
    let b = ap length c.deref-2.ensures.value in
    let d = ap length c.deref-3.ensures.value in
    power_table c.args.n (length c.args.self.now.rows - 1) (length c.deref.result.now) (length c.deref-2.result.now) (length c.deref-3.result.now) c.args.self.now.rows c.as_slice.result.now
    c.in-Ok-idle.front.rows.items c.add_turns.new.front.rows.items c.in-Ok-finished.table.rows c.in-Ok-idle.front.last.items c.add_turns.new.front.last.items (omega arith) (omega arith) (omega arith) c.as_slice.ensures
    c.in-Ok-idle.ensures.stands c.in-Ok-add_turns.ensures.stands c.in-Ok-finished.ensures.table

pub returns-in-Ok-finished-clause-fits : goal.returns-in-Ok-finished-clause-fits
returns-in-Ok-finished-clause-fits c = λ q turns are is.
    let l = c.len.ensures in
    let m = c.in-Ok.ensures.len in
    let a = ap length c.deref.ensures.value in
    let b = ap length c.deref-2.ensures.value in
    let d = ap length c.deref-3.ensures.value in
    let e : c.unwrap_or-greatest.result ≡ unwrap_or c.get.result 0 = search rules in
    critical_fits (turns c.args.n) q (length c.args.self.now.rows - 1) c.in-Ok-finished.table.rows c.get.result c.unwrap_or-greatest.result
    (power_table c.args.n (length c.args.self.now.rows - 1) (length c.deref.result.now) (length c.deref-2.result.now) (length c.deref-3.result.now) c.args.self.now.rows c.as_slice.result.now
    c.in-Ok-idle.front.rows.items c.add_turns.new.front.rows.items c.in-Ok-finished.table.rows c.in-Ok-idle.front.last.items c.add_turns.new.front.last.items (omega arith) (omega arith) (omega arith) c.as_slice.ensures
    c.in-Ok-idle.ensures.stands c.in-Ok-add_turns.ensures.stands c.in-Ok-finished.ensures.table q turns are is)
    c.get.ensures e c.unwrap_or-greatest.type_inv
