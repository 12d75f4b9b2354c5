-- What has become of the list and of the body, once a statement has begun.
use Rattle.std.specs.Prelude.{◌≡◌, ◌+◌, ◌≤◌, List, length}
use Rattle.sc_deck.specs.Bodies.{Contents}
use Rattle.sc_deck.specs.Decks.{CallsFit}
use Rattle.sc_deck.specs.Modules.{Module}
use Rattle.sc_elab.specs.declared.frame.Frame.{Frame}
use Rattle.sc_elab.specs.declared.todo.Todo.{Todo}
use Rattle.sc_elab.specs.Folding.{IsFolded}
use Rattle.sc_elab.specs.Pending.{leaves}

-- No step was taken, at most three parts were put on the list, and each scope that was entered is left by one of them.
pub record Begun (f : Frame) (todo : List Todo) (g : Frame) (todo' : List Todo) : Type 0 where
  pub steps : g.steps ≡ f.steps
  pub few : length todo' ≤ length todo + 3
  pub scopes : leaves todo' + length f.numbers ≡ leaves todo + length g.numbers

-- A body has got gates and fresh wires alone: its parameters are the same, its calls fit where they fitted, and it stays folded.
pub record AddsNoCall (body body' : Contents) : Type 0 where
  pub params : body'.params ≡ body.params
  pub calls : (deck : List Module) → CallsFit deck body.items → CallsFit deck body'.items
  pub folded : IsFolded body.items → IsFolded body'.items
