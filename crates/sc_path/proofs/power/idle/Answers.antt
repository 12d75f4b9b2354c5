use Rattle.std.proofs.Common.{◌≡◌, length, arith}
use Rattle.sc_path.proofs.PowerLemmas.{bounded_idle, last_size}
use Rattle.sc_path.proofs.TurnLemmas.{stands_none}
use Rattle.sc_path.proofs.power.idle.Goals as goal

pub returns-in-Ok-clause-lasts : goal.returns-in-Ok-clause-lasts
returns-in-Ok-clause-lasts c = last_size (length c.args.wires.now) c.in-Ok.front.last.items c.in-Ok.ensures.last

pub returns-in-Ok-clause-bounded : goal.returns-in-Ok-clause-bounded
returns-in-Ok-clause-bounded c =
    let size : length c.in-Ok.front.rows.items ≡ length c.args.wires.now = omega (arith, c.in-Ok.ensures.rows) in
    bounded_idle (length c.args.wires.now) c.in-Ok.front.rows.items c.in-Ok.front.last.items size c.in-Ok.ensures.qubits c.in-Ok.ensures.last

pub returns-in-Ok-clause-stands : goal.returns-in-Ok-clause-stands
returns-in-Ok-clause-stands c = λ q turns are.
    let size : length c.in-Ok.front.rows.items ≡ length c.args.wires.now = omega (arith, c.in-Ok.ensures.rows) in
    stands_none q c.args.wires.now turns c.in-Ok.front.rows.items c.in-Ok.front.last.items are size c.in-Ok.ensures.qubits c.in-Ok.ensures.last
