use Rattle.std.proofs.Common.{◌≡◌, map, take}
use Rattle.sc_deck.specs.Unfolding.{placed}
use Rattle.sc_flat.specs.Walks.{places_of}
use Rattle.sc_flat.proofs.PassLemmas.{passing}
use Rattle.sc_flat.proofs.walk.Walk.pass.Given as goal

abbrev pub invariant-loop-wire : goal.invariant-loop-wire
invariant-loop-wire l = l.self ≡ passing (map (placed (places_of l.fn.self)) (take l.wire-index l.wires)) l.fn.self
