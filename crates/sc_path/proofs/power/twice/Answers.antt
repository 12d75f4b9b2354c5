use Rattle.std.proofs.Common.{◌≡◌, ℕ, ◌+◌, length, subst, arith}
use Rattle.sc_path.specs.declared.fault.PathFault.TheVariants.{Memory}
use Rattle.sc_path.specs.Powers.{WhyTwice}
use Rattle.sc_path.specs.Tables.{IsTable}
use Rattle.sc_path.proofs.CallCode.{if_ok, if_err}
use Rattle.sc_path.proofs.TurnLemmas.{first_why, second_why, memory_twice}
use Rattle.sc_path.proofs.power.twice.Goals as goal

pub returns-in-Err-clause-err : goal.returns-in-Err-clause-err
returns-in-Err-clause-err c = memory_twice c.args.rows.now (length c.args.wires.now) c.in-Err.fault c.in-Err.ensures.err

pub returns-in-Err-add_turn-clause-err : goal.returns-in-Err-add_turn-clause-err
returns-in-Err-add_turn-clause-err c =
    first_why c.in-Ok.front.rows.items c.in-Ok.front.last.items (length c.args.wires.now) c.args.rows.now c.in-Err-add_turn.fault c.in-Ok.ensures.stands c.in-Err-add_turn.ensures.err

pub returns-in-Err-add_turn-2-clause-err : goal.returns-in-Err-add_turn-2-clause-err
returns-in-Err-add_turn-2-clause-err c =
    second_why _ _ (length c.args.wires.now) c.args.rows.now c.in-Err-add_turn-2.fault
    (λ q b turns are is. c.in-Ok-add_turn.ensures.stands q 0 b turns are (c.in-Ok.ensures.stands q turns are) is) c.in-Err-add_turn-2.ensures.err

pub returns-clause-table : goal.returns-clause-table
returns-clause-table c =
    if_ok c.finished.result _ _ c.finished.ensures.table (λ table whole q b turns are is.
    let e : (0 + b) + b ≡ b + b = omega arith in
    subst (λ (x : ℕ). IsTable (turns x) q (length c.args.wires.now) table.rows) e
    (whole q ((0 + b) + b) turns are (c.in-Ok-add_turn-2.ensures.stands q (0 + b) b turns are (c.in-Ok-add_turn.ensures.stands q 0 b turns are (c.in-Ok.ensures.stands q turns are) is) is)))

pub returns-clause-err : goal.returns-clause-err
returns-clause-err c =
    if_err c.finished.result (λ fault. fault ≡ Memory) (WhyTwice c.args.rows.now (length c.args.wires.now)) c.finished.ensures.err (λ fault e. memory_twice c.args.rows.now (length c.args.wires.now) fault e)
