use Rattle.std.proofs.Common.{◌≡◌, ◌≤◌, ◌-◌, ◌++◌, IsTrue, length}
use Rattle.sc_base.proofs.shelf.read_rest.Given as goal

abbrev pub invariant-loop-text : goal.invariant-loop-text
invariant-loop-text g l = record {
  held : g.F.Shelf.held l.shelf ≡ g.F.Shelf.held l.fn.shelf;
  tells_held : g.F.Shelf.tells_held l.shelf ≡ g.F.Shelf.tells_held l.fn.shelf;
  tells_rest : g.F.Shelf.tells_rest l.shelf ≡ g.F.Shelf.tells_rest l.fn.shelf;
  later : g.F.Shelf.faults l.fn.shelf ≤ g.F.Shelf.faults l.shelf;
  within : length l.text ≤ l.limit;
  whole : IsTrue (g.F.Shelf.tells_rest l.fn.shelf) → g.F.Shelf.rest l.fn.shelf ≡ l.text ++ g.F.Shelf.rest l.shelf;
}

abbrev pub decreases-loop-text : goal.decreases-loop-text
decreases-loop-text g l = l.limit - length l.text
