use Rattle.std.proofs.Common.{◌≡◌, ◌≤◌, List, ℕ, ◌++◌, IsTrue, false, length}
use Rattle.sc_base.proofs.sink.write_all.Given as goal

abbrev pub invariant-loop-rest : goal.invariant-loop-rest
invariant-loop-rest g l = record {
  tells : g.O.Sink.tells l.out ≡ g.O.Sink.tells l.fn.out;
  open_still : g.O.Sink.is_ended l.out ≡ false;
  later : g.O.Sink.faults l.fn.out ≤ g.O.Sink.faults l.out;
  taken : IsTrue (g.O.Sink.tells l.fn.out) → ((front : List ℕ) × (l.fn.bytes ≡ front ++ l.rest) × (g.O.Sink.bytes l.out ≡ g.O.Sink.bytes l.fn.out ++ front));
}

abbrev pub decreases-loop-rest : goal.decreases-loop-rest
decreases-loop-rest g l = length l.rest
