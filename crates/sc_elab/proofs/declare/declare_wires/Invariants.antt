use Rattle.std.proofs.Common.{◌+◌, ◌≤◌, drop}
use Rattle.std.specs.Prelude.{map}
use Rattle.sc_syntax.specs.Alike.{pure_decl}
use Rattle.sc_deck.specs.Turns.{last_turns}
use Rattle.sc_meaning.specs.declared.choice.Choice.{Choice}
use Rattle.sc_elab.specs.Beginnings.{AddsNoCall}
use Rattle.sc_elab.specs.Frames.{view}
use Rattle.sc_meaning.specs.Run.{declare_wires}
use Rattle.sc_elab.proofs.Going.{Goes}
use Rattle.sc_elab.proofs.declare.declare_wires.Given as goal

abbrev pub invariant-loop-decl : goal.invariant-loop-decl
invariant-loop-decl l = record {
  goes : (choice : Choice) → Goes choice (declare_wires l.class (map pure_decl l.decls) (view l.fn.frame)) l.fn.frame
      (declare_wires l.class (map pure_decl (drop l.decl-index l.decls)) (view l.frame)) l.frame;
  adds : AddsNoCall l.fn.frame.body l.frame.body;
  turns : last_turns l.frame.body.items ≤ last_turns l.fn.frame.body.items + 1;
}
