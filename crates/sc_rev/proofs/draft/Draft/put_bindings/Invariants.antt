use Rattle.std.proofs.Common.{drop, map}
use Rattle.sc_word.specs.Pure.{pure_typed_expr}
use Rattle.sc_rev.specs.Functions.{circuit_all}
use Rattle.sc_rev.specs.Emitting.{InAll, wires_of}
use Rattle.sc_rev.proofs.draft.Draft.put_bindings.Given as goal

abbrev pub invariant-loop-bind : goal.invariant-loop-bind
invariant-loop-bind l =
    InAll (circuit_all (wires_of l.fn.words.items) l.initial.self.next (map pure_typed_expr l.binds) (pure_typed_expr l.returned)) l.initial.self l.self (wires_of l.known.items) (drop l.bind-index l.binds) l.returned
