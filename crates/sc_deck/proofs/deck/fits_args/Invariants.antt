use Rattle.std.proofs.Common.{◌≡◌, take, map, ◌++◌}
use Rattle.std.specs.Prelude.{flat_map}
use Rattle.sc_gate.specs.Gates.{class_of}
use Rattle.sc_deck.specs.Keys.{arg_classes}
use Rattle.sc_deck.proofs.deck.fits_args.Given as goal

abbrev pub invariant-loop-arg : goal.invariant-loop-arg
invariant-loop-arg l = map class_of l.wires ≡ flat_map arg_classes (take l.arg-index l.args) ++ map class_of l.rest
