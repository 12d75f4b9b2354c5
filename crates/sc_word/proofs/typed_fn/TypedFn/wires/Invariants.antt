use Rattle.std.proofs.Common.{◌≡◌, ◌+◌, drop, sum}
use Rattle.sc_word.specs.Scratch.{fn_wires}
use Rattle.sc_word.proofs.typed_fn.TypedFn.wires.Given as goal

abbrev pub invariant-loop-width : goal.invariant-loop-width
invariant-loop-width l = l.count + sum (drop l.width-index l.width-items) ≡ fn_wires l.self
