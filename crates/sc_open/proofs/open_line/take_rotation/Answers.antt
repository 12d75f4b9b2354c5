use Rattle.std.proofs.Common.{rules}
use Rattle.sc_open.proofs.Words.{turn_cut}
use Rattle.sc_open.proofs.open_line.take_rotation.Goals as goal

pub returns-in_default-take_text-clause-none : goal.returns-in_default-take_text-clause-none
returns-in_default-take_text-clause-none c = λ k rest p.
    c.in_default-take_text.ensures.none rest
    (turn_cut c.args.name c.args.bytes.now c.in-Some.after_angle.now c.in-Some.angle k rest c.requires (search rules) c.in-Some.ensures.some p)
