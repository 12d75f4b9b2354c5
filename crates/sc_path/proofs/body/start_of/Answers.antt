use Rattle.sc_deck.specs.Bodies.{wires_of}
use Rattle.sc_deck.specs.Unfolding.{unfoldings}
use Rattle.sc_path.proofs.BodyRows.{Blank, blank_at, stands_blank, bounded_blank}
use Rattle.sc_path.proofs.body.start_of.Goals as goal
use Rattle.sc_path.proofs.body.start_of.Goals.{In-Ok}

blank : (c : In-Ok) → Blank c.args.body.now.params.qubits (wires_of c.args.body.now).qubits c.args.body.now.params.cbits (wires_of c.args.body.now).cbits c.in-Ok.front.rows.items c.in-Ok.front.last.items
blank c =
    blank_at c.params.result c.count.result c.params-2.result c.count-2.result c.args.body.now.params.qubits (wires_of c.args.body.now).qubits c.args.body.now.params.cbits (wires_of c.args.body.now).cbits
    c.in-Ok.front.rows.items c.in-Ok.front.last.items c.params.ensures c.count.ensures c.params-2.ensures c.count-2.ensures
    (record { size = c.in-Ok.ensures.rows; made = c.in-Ok.ensures.qubits; made_too = c.in-Ok.ensures.cbits; blank = c.in-Ok.ensures.last })

pub returns-in-Ok-clause-stands : goal.returns-in-Ok-clause-stands
unfolding blank
returns-in-Ok-clause-stands c = λ tables times modules key extends stands_for.
    stands_blank (unfoldings modules) key c.args.body.now.items c.args.body.now.params c.in-Ok.front.rows.items c.in-Ok.front.last.items extends.params (blank c)

pub returns-in-Ok-clause-bounded : goal.returns-in-Ok-clause-bounded
returns-in-Ok-clause-bounded c = bounded_blank c.args.body.now.params (wires_of c.args.body.now) c.in-Ok.front.rows.items c.in-Ok.front.last.items (blank c)
