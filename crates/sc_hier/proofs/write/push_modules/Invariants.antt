use Rattle.std.proofs.Common.{◌≡◌, ◌≤◌, false, take}
use Rattle.sc_deck.specs.Hierarchical.{modules_text}
use Rattle.sc_hier.specs.Gathering.{Gathers}
use Rattle.sc_hier.proofs.write.push_modules.Given as goal

abbrev pub invariant-loop-number : goal.invariant-loop-number
invariant-loop-number g l = record {
  open_still : g.O.Sink.is_ended l.out ≡ false;
  later : g.O.Sink.faults l.fn.out ≤ g.O.Sink.faults l.out;
  gathered : Gathers g.O.Sink.tells g.O.Sink.bytes l.fn.out l.out l.fn.held l.held (modules_text 0 (take l.number l.deck));
}
