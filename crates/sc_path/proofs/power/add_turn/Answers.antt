use Rattle.std.proofs.Common.{length, ◌∙◌, arith}
use Rattle.sc_path.specs.Fronts.{WhyNoCall}
use Rattle.sc_path.specs.Powers.{WhyTurn}
use Rattle.sc_path.proofs.CallCode.{if_err}
use Rattle.sc_path.proofs.Gate.{on_ok}
use Rattle.sc_path.proofs.TurnLemmas.{one_turn, call_why, in_range}
use Rattle.sc_path.proofs.power.add_turn.Goals as goal

pub add_call-requires-clause-below : goal.add_call-requires-clause-below
add_call-requires-clause-below c = in_range c.args.wires.now (length c.args.front.now.rows.items) c.requires.range (omega (arith, c.requires.rows))

pub returns-clause-rows : goal.returns-clause-rows
returns-clause-rows c = on_ok c.add_call.result c.add_call.ensures.rows (λ e. e ∙ c.requires.rows)

pub returns-clause-lasts : goal.returns-clause-lasts
returns-clause-lasts c = on_ok c.add_call.result c.add_call.ensures.lasts (λ e. e ∙ c.requires.lasts)

pub returns-clause-stands : goal.returns-clause-stands
returns-clause-stands c =
    on_ok c.add_call.result c.add_call.ensures.stands (λ call q a b turns are st is.
    one_turn q a b c.args.wires.now turns c.args.front.now.rows.items c.args.rows.now _ c.args.front.now.last.items _ c.requires.rows c.requires.lasts c.requires.range call are st is)

pub returns-clause-err : goal.returns-clause-err
returns-clause-err c =
    if_err c.add_call.result (WhyNoCall c.args.front.now.rows.items c.args.front.now.last.items c.args.wires.now c.args.rows.now)
    (WhyTurn c.args.front.now.rows.items c.args.front.now.last.items (length c.args.wires.now) c.args.rows.now) c.add_call.ensures.err
    (λ fault w. call_why c.args.front.now.rows.items c.args.front.now.last.items c.args.wires.now c.args.rows.now fault c.requires.rows c.requires.lasts c.requires.range w)
