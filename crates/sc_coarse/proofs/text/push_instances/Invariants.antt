use Rattle.std.proofs.Common.{◌≡◌, ◌≤◌, false, take, map}
use Rattle.sc_deck.specs.Modules.{key_of}
use Rattle.sc_hier.specs.Gathering.{Gathers}
use Rattle.sc_coarse.specs.CoarseText.{instances_text}
use Rattle.sc_coarse.proofs.text.push_instances.Given as goal

abbrev pub invariant-loop-number : goal.invariant-loop-number
invariant-loop-number g l = record {
  open_still : g.O.Sink.is_ended l.out ≡ false;
  later : g.O.Sink.faults l.fn.out ≤ g.O.Sink.faults l.out;
  gathered : Gathers g.O.Sink.tells g.O.Sink.bytes l.fn.out l.out l.fn.held l.held (instances_text 0 (take l.number (map key_of l.deck)) (take l.number l.c));
}
