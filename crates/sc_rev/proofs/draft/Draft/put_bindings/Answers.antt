use Rattle.std.proofs.Common.{ℕ, List, ◌≤◌, map, sym, ap, ◌∙◌, subst}
use Rattle.std.specs.declared.vec.Vec.{Vec}
use Rattle.std.specs.declared.alloc.Global.{Global}
use Rattle.sc_word.specs.Pure.{pure_typed_expr}
use Rattle.sc_rev.specs.Circuits.{Circuit}
use Rattle.sc_rev.specs.Functions.{circuit, circuit_all}
use Rattle.sc_rev.specs.Emitting.{wires_of, Draws}
use Rattle.sc_rev.proofs.Grows.{all_room, all_more, wires_append}
use Rattle.sc_rev.proofs.draft.Draft.put_bindings.Goals as goal

pub emit-requires : goal.emit-requires
emit-requires c =
    let whole : Circuit = circuit_all (wires_of c.args.words.items) c.args.self.now.next (map pure_typed_expr c.args.binds.now) (pure_typed_expr c.args.returned.now) in
    record {
      room = subst (λ (ws : List (Vec ℕ Global)). (circuit (wires_of ws) c.loop-bind.self.next (pure_typed_expr c.bind-item.result)).next ≤ 65536) (sym c.as_slice.ensures.value)
          (all_room whole c.args.self.now c.loop-bind.self (wires_of c.loop-bind.known.items) c.args.binds.now c.loop-bind.bind-index c.bind-item.result c.args.returned.now c.loop-bind-test.true c.bind-item.is c.loop-bind.invariant c.requires.room);
    }

pub loop-bind-preserved : goal.loop-bind-preserved
loop-bind-preserved c =
    let whole : Circuit = circuit_all (wires_of c.args.words.items) c.args.self.now.next (map pure_typed_expr c.args.binds.now) (pure_typed_expr c.args.returned.now) in
    all_more whole c.args.self.now c.loop-bind.self c.emit.new.self (wires_of c.loop-bind.known.items) (wires_of c.push.new.self.items) c.args.binds.now c.loop-bind.bind-index c.bind-item.result c.args.returned.now c.in_ok-word.word.items
    c.loop-bind-test.true c.bind-item.is c.loop-bind.invariant
    (subst (λ (ws : List (Vec ℕ Global)). Draws (circuit (wires_of ws) c.loop-bind.self.next (pure_typed_expr c.bind-item.result)) c.loop-bind.self c.emit.new.self c.in_ok-word.word.items) c.as_slice.ensures.value c.in_ok-word.ensures)
    (ap wires_of c.in_ok-push.ensures.items ∙ wires_append c.loop-bind.known.items c.in_ok-word.word)
