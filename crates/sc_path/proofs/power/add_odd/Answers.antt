use Rattle.std.proofs.Common.{◌≡◌, ℕ, ◌+◌, ◌*◌, ◌%◌, length, sym, subst, arith}
use Rattle.sc_path.specs.Fronts.{Stands}
use Rattle.sc_path.specs.Powers.{params_at, WhyTurn, WhyTurns}
use Rattle.sc_path.proofs.CallCode.{if_err}
use Rattle.sc_path.proofs.Gate.{on_ok}
use Rattle.sc_path.proofs.TurnLemmas.{turn_why, no_turn, odd_turn, stands_at}
use Rattle.sc_path.proofs.power.add_odd.Goals as goal

pub returns-then-n-eq0-clause-stands : goal.returns-then-n-eq0-clause-stands
returns-then-n-eq0-clause-stands c = λ q a b turns are st is.
    subst (λ (x : ℕ). Stands (turns x) (params_at q) c.args.front.now.rows.items c.args.front.now.last.items) (sym (no_turn a b c.args.n c.if-n-eq0.true)) st

pub returns-clause-stands : goal.returns-clause-stands
returns-clause-stands c =
    let o : c.args.n % 2 ≡ 1 = omega (arith, c.if-n-eq0.false) in
    on_ok c.add_turn.result c.add_turn.ensures.stands (λ more q a b turns are st is.
    stands_at q (a + b) (a + c.args.n % 2 * b) turns _ _ (odd_turn a b c.args.n o) (more q a b turns are st is))

pub returns-clause-err : goal.returns-clause-err
returns-clause-err c =
    if_err c.add_turn.result (WhyTurn c.args.front.now.rows.items c.args.front.now.last.items (length c.args.wires.now) c.args.rows.now)
    (WhyTurns c.args.front.now.rows.items c.args.front.now.last.items (length c.args.wires.now) c.args.rows.now c.args.n) c.add_turn.ensures.err
    (λ fault w. turn_why c.args.front.now.rows.items c.args.front.now.last.items (length c.args.wires.now) c.args.rows.now c.args.n fault c.requires.some w)
