use Rattle.std.proofs.Common.{◌≡◌, ◌+◌, ◌*◌, ◌<◌, length}
use Rattle.sc_deck.specs.Decks.{CallsFit}
use Rattle.sc_syntax.specs.Alike.{pure_stmt_list}
use Rattle.sc_elab.specs.Folding.{IsFolded, HasRoom}
use Rattle.sc_elab.specs.Frames.{view}
use Rattle.sc_meaning.specs.Local.{local}
use Rattle.sc_elab.specs.Machines.{KeepsBodies, GrowsTo}
use Rattle.sc_elab.specs.Pending.{leaves}
use Rattle.sc_elab.specs.Typings.{IsTypedBody}
use Rattle.sc_meaning.specs.Programs.{program_of}
use Rattle.sc_meaning.specs.Run.{acts}
use Rattle.sc_elab.proofs.Executing.{Comes}
use Rattle.sc_elab.proofs.elaborator.+calls.Given as goal

abbrev pub decreases-call : goal.decreases-call
decreases-call l = 4 * l.depth

abbrev pub decreases-call_from : goal.decreases-call_from
decreases-call_from l = 4 * l.depth + 1

abbrev pub decreases-exec : goal.decreases-exec
decreases-exec l = 4 * l.depth + 2

abbrev pub decreases-body_of : goal.decreases-body_of
decreases-body_of l = 4 * l.depth + 3

abbrev pub invariant-exec-pending : goal.invariant-exec-pending
invariant-exec-pending l = record {
  kept : KeepsBodies l.given.checked.now l.machine;
  grows : GrowsTo l.fn.machine.deck l.machine.deck;
  typed : IsTypedBody l.given.checked.now l.frame l.todo.items;
  turns : HasRoom l.frame;
  folded : IsFolded l.frame.body.items;
  calls : CallsFit l.machine.deck l.frame.body.items;
  params : l.frame.body.params ≡ l.fn.frame.body.params;
  nested : leaves l.todo.items < length l.frame.numbers;
  comes : Comes l.given.choice (program_of l.given.checked.now) (local (program_of l.given.checked.now) l.depth)
      (acts (program_of l.given.checked.now) (local (program_of l.given.checked.now) l.depth) (pure_stmt_list l.stmts) (view l.fn.frame))
      l.fn.machine l.fn.frame l.machine l.frame l.todo.items;
}

abbrev pub decreases-exec-pending : goal.decreases-exec-pending
decreases-exec-pending l = 6 * l.frame.steps + length l.todo.items
