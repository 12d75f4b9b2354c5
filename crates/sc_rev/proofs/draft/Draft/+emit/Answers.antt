use Rattle.std.proofs.Common.{ℕ, ◌≤◌, List, rules, arith, sym, subst}
use Rattle.std.proofs.lemmas.Grind.{common_steps}
use Rattle.std.specs.declared.alloc.Global.{Global}
use Rattle.std.specs.declared.vec.Vec.{Vec}
use Rattle.sc_word.specs.declared.tree.TypedExpr.{TypedExpr}
use Rattle.sc_word.specs.declared.tree.TypedNode.TheViews.{the_lemmas}
use Rattle.sc_word.specs.Pure.{pure_typed_expr}
use Rattle.sc_rev.specs.Circuits.{Circuit}
use Rattle.sc_rev.specs.Functions.{circuit, shifted}
use Rattle.sc_rev.specs.Emitting.{Draws, InChain, only_word, wires_of}
use Rattle.sc_rev.proofs.Grows.{ok_then, chain_first, chain_begins, link_room, op_has_room, shift_first, shifts_room, shifts_drawn, pick_test, pick_first}
use Rattle.sc_rev.proofs.draft.Draft.+emit.Goals as goal

pub emit-requires-in-Chain : goal.emit-requires-in-Chain
emit-requires-in-Chain t c =
    let words : List (List ℕ) = wires_of c.args.words.now in
    let n : ℕ = c.args.self.now.next in (
      first_of (search (rules, the_lemmas), grind (arith, common_steps, the_lemmas)),
      subst (λ (e : TypedExpr). (circuit words n (pure_typed_expr e)).next ≤ 65536) (sym c.deref-in-Chain.ensures)
          (chain_first words n c.args.expr.now.width c.in-Chain.first c.in-Chain.links c.args.expr.now.node c.in-Chain.is c.requires.room),
    )

pub loop-link-init : goal.loop-link-init
loop-link-init t c =
    let words : List (List ℕ) = wires_of c.args.words.now in
    let n : ℕ = c.args.self.now.next in
    let whole : Circuit = circuit words n (pure_typed_expr c.args.expr.now) in
    let word : List ℕ = c.in_ok-word-in-Chain.word.items in
    subst (InChain words whole c.args.self.now c.emit-in-Chain.new.self word) (sym c.deref-link-items.ensures.value)
    (chain_begins words n c.args.expr.now.width c.in-Chain.first c.in-Chain.links c.args.expr.now.node c.args.self.now c.emit-in-Chain.new.self word c.in-Chain.is
    (subst (λ (e : TypedExpr). Draws (circuit words n (pure_typed_expr e)) c.args.self.now c.emit-in-Chain.new.self word) c.deref-in-Chain.ensures c.in_ok-word-in-Chain.ensures))

pub emit-requires-in-loop-link : goal.emit-requires-in-loop-link
emit-requires-in-loop-link t c =
    let words : List (List ℕ) = wires_of c.args.words.now in
    let whole : Circuit = circuit words c.args.self.now.next (pure_typed_expr c.args.expr.now) in (
      first_of (search (rules, the_lemmas), grind (arith, common_steps, the_lemmas)),
      (link_room words whole c.args.self.now c.loop-link.self c.loop-link.word.items c.deref-link-items.result.now c.loop-link.link-index c.link-item.result c.loop-link-test.true c.link-item.is c.loop-link.invariant c.requires.room).right,
    )

pub put_op-requires : goal.put_op-requires
put_op-requires t c =
    let words : List (List ℕ) = wires_of c.args.words.now in
    let whole : Circuit = circuit words c.args.self.now.next (pure_typed_expr c.args.expr.now) in
    op_has_room words c.loop-link.self c.emit-in-loop-link.new.self c.loop-link.word.items c.in_ok-right-in-Chain.right.items c.as_slice-in-loop-link.result.now c.as_slice-in-loop-link-2.result.now c.link-item.result
    (link_room words whole c.args.self.now c.loop-link.self c.loop-link.word.items c.deref-link-items.result.now c.loop-link.link-index c.link-item.result c.loop-link-test.true c.link-item.is c.loop-link.invariant c.requires.room)
    c.in_ok-right-in-Chain.ensures c.as_slice-in-loop-link.ensures.value c.as_slice-in-loop-link-2.ensures.value

pub emit-requires-in-Shift : goal.emit-requires-in-Shift
emit-requires-in-Shift t c =
    let words : List (List ℕ) = wires_of c.args.words.now in
    let n : ℕ = c.args.self.now.next in (
      first_of (search (rules, the_lemmas), grind (arith, common_steps, the_lemmas)),
      subst (λ (e : TypedExpr). (circuit words n (pure_typed_expr e)).next ≤ 65536) (sym c.deref-in-Shift.ensures)
          (shift_first words n c.args.expr.now.width c.in-Shift.inner c.in-Shift.links c.args.expr.now.node c.in-Shift.is c.requires.room),
    )

pub put_shifts-requires : goal.put_shifts-requires
put_shifts-requires t c =
    let words : List (List ℕ) = wires_of c.args.words.now in
    let n : ℕ = c.args.self.now.next in
    let word : List ℕ = c.in_ok-word-in-Shift.word.items in
    record {
      fits = shifts_room words n c.args.expr.now.width c.in-Shift.inner c.in-Shift.links c.as_slice-in-Shift.result.now c.args.expr.now.node c.args.self.now c.emit-in-Shift.new.self word c.in-Shift.is c.as_slice-in-Shift.ensures
          (subst (λ (e : TypedExpr). Draws (circuit words n (pure_typed_expr e)) c.args.self.now c.emit-in-Shift.new.self word) c.deref-in-Shift.ensures c.in_ok-word-in-Shift.ensures) c.requires.room;
    }

pub returns-in_ok-word-in-Shift : goal.returns-in_ok-word-in-Shift
returns-in_ok-word-in-Shift t c =
    let words : List (List ℕ) = wires_of c.args.words.now in
    let n : ℕ = c.args.self.now.next in
    let word : List ℕ = c.in_ok-word-in-Shift.word.items in
    ok_then (λ (v : Vec ℕ Global). Draws (shifted (only_word word c.emit-in-Shift.new.self.next) c.as_slice-in-Shift.result.now) c.emit-in-Shift.new.self c.put_shifts.new.self v.items)
    (λ (v : Vec ℕ Global). Draws (circuit words n (pure_typed_expr c.args.expr.now)) c.args.self.now c.put_shifts.new.self v.items)
    (λ v h. shifts_drawn words n c.args.expr.now.width c.in-Shift.inner c.in-Shift.links c.as_slice-in-Shift.result.now c.args.expr.now.node c.args.self.now c.emit-in-Shift.new.self c.put_shifts.new.self word v.items c.in-Shift.is c.as_slice-in-Shift.ensures
    (subst (λ (e : TypedExpr). Draws (circuit words n (pure_typed_expr e)) c.args.self.now c.emit-in-Shift.new.self word) c.deref-in-Shift.ensures c.in_ok-word-in-Shift.ensures) h)
    c.put_shifts.result c.put_shifts.ensures

pub emit-requires-in-Pick : goal.emit-requires-in-Pick
emit-requires-in-Pick t c =
    let words : List (List ℕ) = wires_of c.args.words.now in
    let n : ℕ = c.args.self.now.next in (
      first_of (search (rules, the_lemmas), grind (arith, common_steps, the_lemmas)),
      subst (λ (e : TypedExpr). (circuit words n (pure_typed_expr e)).next ≤ 65536) (sym c.deref-in-Pick.ensures)
          (pick_test words n c.args.expr.now.width c.in-Pick.test c.in-Pick.yes c.in-Pick.no c.args.expr.now.node c.in-Pick.is c.requires.room),
    )

pub emit-requires-in-Pick-2 : goal.emit-requires-in-Pick-2
emit-requires-in-Pick-2 t c =
    let words : List (List ℕ) = wires_of c.args.words.now in
    let n : ℕ = c.args.self.now.next in
    let drawn : Draws (circuit words n (pure_typed_expr c.in-Pick.test.value)) c.args.self.now c.emit-in-Pick.new.self c.in_ok-test-in-Pick.test.items =
    subst (λ (e : TypedExpr). Draws (circuit words n (pure_typed_expr e)) c.args.self.now c.emit-in-Pick.new.self c.in_ok-test-in-Pick.test.items) c.deref-in-Pick.ensures c.in_ok-test-in-Pick.ensures in (
      first_of (search (rules, the_lemmas), grind (arith, common_steps, the_lemmas)),
      subst (λ (e : TypedExpr). (circuit words c.emit-in-Pick.new.self.next (pure_typed_expr e)).next ≤ 65536) (sym c.deref-in-Pick-2.ensures)
          (subst (λ k. (circuit words k (pure_typed_expr c.in-Pick.yes.value)).next ≤ 65536) (sym drawn.next)
          (pick_first words n c.args.expr.now.width c.in-Pick.test c.in-Pick.yes c.in-Pick.no c.args.expr.now.node c.in-Pick.is c.requires.room)),
    )
