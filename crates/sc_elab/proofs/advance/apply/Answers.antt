use Rattle.std.proofs.Common.{refl}
use Rattle.std.proofs.lemmas.Result.{on_ok_weaker}
use Rattle.sc_meaning.specs.Instances.{chosen}
use Rattle.sc_elab.proofs.GateLaws.{gate_runs}
use Rattle.sc_elab.proofs.PushedGates.{gates_view, adds_gates}
use Rattle.sc_elab.proofs.TurnRoom.{turns_chosen}
use Rattle.sc_elab.proofs.advance.apply.Goals as goal

pub returns-clause-runs : goal.returns-clause-runs
returns-clause-runs c =
    on_ok_weaker c.push_chosen.result (λ body.
    gate_runs c.args.choice c.args.gate c.args.frame.now (record c.args.frame.now { body = c.push_chosen.new.body }) c.requires.folded body refl) c.push_chosen.ensures

pub returns-clause-view : goal.returns-clause-view
returns-clause-view c =
    on_ok_weaker c.push_chosen.result (λ body.
    gates_view c.args.frame.now (record c.args.frame.now { body = c.push_chosen.new.body }) (chosen c.args.choice c.args.gate) body refl) c.push_chosen.ensures

pub returns-clause-adds : goal.returns-clause-adds
returns-clause-adds c =
    on_ok_weaker c.push_chosen.result (adds_gates c.args.frame.now.body c.push_chosen.new.body (chosen c.args.choice c.args.gate)) c.push_chosen.ensures

pub returns-clause-turns : goal.returns-clause-turns
returns-clause-turns c = on_ok_weaker c.push_chosen.result (turns_chosen c.args.choice c.args.gate c.args.frame.now.body c.push_chosen.new.body) c.push_chosen.ensures
