use Rattle.std.proofs.Common.{◌-◌, ◌++◌, refl, sym, ◌∙◌, subst, arith}
use Rattle.std.proofs.lemmas.Result.{err_from_is_err_and}
use Rattle.sc_deck.specs.Modules.{Module}
use Rattle.sc_read.specs.HierStages.{Between}
use Rattle.sc_read.specs.HierSteps.{Begins, EndsWithMain, ItemsRead, module_of}
use Rattle.sc_read.proofs.HierLoops.{fault_here, module_read, module_fault}
use Rattle.sc_read.proofs.HierModules.{main_last_key, last_main_key}
use Rattle.sc_read.proofs.hier.read_module.Goals as goal

pub returns-in_err-key-clause-fault : goal.returns-in_err-key-clause-fault
returns-in_err-key-clause-fault c =
    let p = err_from_is_err_and c.from_residual.result c.from_residual.ensures.1 in
    rw (p.1, p.2) (fault_here (Between c.args.turns c.args.deck.now) c.args.line.now c.args.lines.now.rest.now (c.args.line.now ++ c.args.lines.now.rest.now) (c.args.lines.now.number - 1) c.in_err-key.field-0.0
    c.requires.line refl (c.in_err-key.ensures.fault c.args.turns))

pub read_items-requires : goal.read_items-requires
read_items-requires c = record { room = c.requires.room; begun = c.in_ok-key.ensures.ok.begun }

pub returns-in_err-read_items-clause-fault : goal.returns-in_err-read_items-clause-fault
returns-in_err-read_items-clause-fault c =
    let b : Begins c.args.deck.now c.args.line.now c.in_ok-key.key c.in_ok-key.body = c.in_ok-key.ensures.ok in
    let p = err_from_is_err_and c.from_residual-in_err-read_items.result c.from_residual-in_err-read_items.ensures.1 in
    rw (p.1, p.2) (module_fault c.args.turns c.args.deck.now c.args.line.now c.args.lines.now.rest.now (c.args.lines.now.number - 1) c.args.lines.now.number c.in_ok-key.key c.in_ok-key.body
    c.in_err-read_items.field-0.0 c.requires.line b (omega (arith, c.requires.number)) (c.in_err-read_items.ensures.fault c.in_ok-key.key b.params))

pub push_body-requires : goal.push_body-requires
push_body-requires c =
    let b : Begins c.args.deck.now c.args.line.now c.in_ok-key.key c.in_ok-key.body = c.in_ok-key.ensures.ok in
    let r : ItemsRead c.args.turns c.args.deck.now c.in_ok-key.body c.read_items.new.body c.args.lines.now c.read_items.new.lines = c.in_ok-read_items.ensures.ok in
    record { new = b.new; lengths = b.lengths; params = r.params ∙ b.params; room = r.begun.room; calls = r.begun.calls }

pub returns-clause-ok : goal.returns-clause-ok
returns-clause-ok c =
    let b : Begins c.args.deck.now c.args.line.now c.in_ok-key.key c.in_ok-key.body = c.in_ok-key.ensures.ok in
    let r : ItemsRead c.args.turns c.args.deck.now c.in_ok-key.body c.read_items.new.body c.args.lines.now c.read_items.new.lines = c.in_ok-read_items.ensures.ok in (
      module_of c.in_ok-key.key c.read_items.new.body,
      module_read c.args.turns c.args.deck.now c.push_body.new.self c.args.line.now (c.args.lines.now.number - 1) c.args.lines.now c.read_items.new.lines c.in_ok-key.key c.in_ok-key.body c.read_items.new.body
          c.requires.line b r (omega (arith, c.requires.number)) c.in_ok-push_body.ensures.pushed,
    )

pub returns-clause-main : goal.returns-clause-main
returns-clause-main c =
    let m : Module = module_of c.in_ok-key.key c.read_items.new.body in (
      (λ t. subst EndsWithMain (sym c.in_ok-push_body.ensures.pushed) (last_main_key c.args.deck.now m (c.is_main-last.ensures.0 t))),
      (λ e. c.is_main-last.ensures.1 (main_last_key c.args.deck.now m (subst EndsWithMain c.in_ok-push_body.ensures.pushed e))),
    )
