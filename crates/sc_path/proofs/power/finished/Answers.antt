use Rattle.std.proofs.Common.{length, arith}
use Rattle.sc_path.proofs.TurnLemmas.{turns_table, in_range}
use Rattle.sc_path.proofs.power.finished.Goals as goal

pub table-requires-clause-below : goal.table-requires-clause-below
table-requires-clause-below c = in_range c.args.wires.now (length c.args.front.now.rows.items) c.requires.range (omega (arith, c.requires.rows))

pub returns-in-Ok-clause-table : goal.returns-in-Ok-clause-table
returns-in-Ok-clause-table c = λ q n turns are st.
    turns_table q n c.args.wires.now turns c.args.front.now.rows.items c.in-Ok.table.rows c.args.front.now.last.items are c.requires.range c.requires.rows c.requires.lasts c.requires.bounded st
    c.in-Ok.ensures.size c.in-Ok.ensures.rows c.in-Ok.ensures.last
