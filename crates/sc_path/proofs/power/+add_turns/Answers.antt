use Rattle.std.proofs.Common.{◌+◌, ◌*◌, ◌/◌, ◌%◌, length, sym, subst, arith}
use Rattle.sc_path.specs.Powers.{WhyTurns}
use Rattle.sc_path.specs.Tables.{IsTable}
use Rattle.sc_path.proofs.CallCode.{if_err}
use Rattle.sc_path.proofs.Gate.{on_ok}
use Rattle.sc_path.proofs.TurnLemmas.{twice_why, half_turns, half_why, last_turn, stands_at}
use Rattle.sc_path.proofs.power.+add_turns.Goals as goal

pub returns-in-Err-twice-clause-err : goal.returns-in-Err-twice-clause-err
returns-in-Err-twice-clause-err t c =
    twice_why c.args.front.now.rows.items c.args.front.now.last.items (length c.args.wires.now) c.args.rows.now c.args.n c.in-Err-twice.fault (omega arith) c.in-Err-twice.ensures.err

pub returns-clause-stands : goal.returns-clause-stands
returns-clause-stands t c =
    on_ok c.add_turns.result c.add_turns.ensures.stands (λ more q a b turns are st is.
    stands_at q ((a + c.args.n % 2 * b) + c.args.n / 2 * (b + b)) (a + c.args.n * b) turns _ _ (half_turns a b c.args.n)
    (more q (a + c.args.n % 2 * b) (b + b) turns are (c.in-Ok.ensures.stands q a b turns are st is)
    (subst (IsTable (turns (b + b)) q (length c.args.wires.now)) (sym c.as_slice.ensures) (c.in-Ok-twice.ensures.table q b turns are is))))

pub returns-clause-err : goal.returns-clause-err
returns-clause-err t c =
    if_err c.add_turns.result _ (WhyTurns c.args.front.now.rows.items c.args.front.now.last.items (length c.args.wires.now) c.args.rows.now c.args.n) c.add_turns.ensures.err
    (λ fault w. half_why c.args.front.now.rows.items _ c.args.front.now.last.items _ (length c.args.wires.now) c.args.rows.now c.as_slice.result.now c.args.n fault c.in-Ok.ensures.stands
    (λ q b turns are is. subst (IsTable (turns (b + b)) q (length c.args.wires.now)) (sym c.as_slice.ensures) (c.in-Ok-twice.ensures.table q b turns are is)) w)

pub returns-then-n-lt2-clause-stands : goal.returns-then-n-lt2-clause-stands
returns-then-n-lt2-clause-stands t c = λ q a b turns are st is.
    stands_at q (a + c.args.n % 2 * b) (a + c.args.n * b) turns c.add_odd.new.front.rows.items c.add_odd.new.front.last.items (last_turn a b c.args.n c.requires.some c.if-n-lt2.true) (c.in-Ok.ensures.stands q a b turns are st is)
