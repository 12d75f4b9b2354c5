use Rattle.std.proofs.Common.{◌≡◌, ℕ, ◌+◌, map, arith, ap, ◌∙◌}
use Rattle.std.specs.Prelude.{sum}
use Rattle.sc_word.specs.Pure.{PureTypedExpr, pure_typed_expr}
use Rattle.sc_rev.specs.Functions.{words_from}
use Rattle.sc_rev.specs.Emitting.{wires_of}
use Rattle.sc_rev.proofs.Whole.{Prepared, drawn_room, copies_room}
use Rattle.sc_rev.proofs.function.steps.Goals as goal

pub put_bindings-requires : goal.put_bindings-requires
put_bindings-requires c =
    let t = c.args.f.now in
    let n : ℕ = c.put_words.new.self.next + c.returned-returned.result.now.width in
    let p : Prepared t (wires_of c.in_ok-words.words.items) n (map pure_typed_expr c.bindings.result.now) (pure_typed_expr c.returned-returned.result.now) = record {
      typed = c.returned-returned.ensures.well_typed;
      words_are = c.in_ok-words.ensures.words ∙ ap (words_from 0) c.widths.ensures;
      next = omega (arith, c.in_ok-words.ensures.next, ap sum c.widths.ensures, ap (λ (e : PureTypedExpr). e.width) c.returned-returned.ensures.value);
      binds_are = c.bindings.ensures;
      returned_is = c.returned-returned.ensures.value;
    } in
    record { room = drawn_room t (wires_of c.in_ok-words.words.items) n (map pure_typed_expr c.bindings.result.now) (pure_typed_expr c.returned-returned.result.now) p c.requires }

pub put_copies-requires : goal.put_copies-requires
put_copies-requires c =
    let t = c.args.f.now in
    let n : ℕ = c.put_words.new.self.next + c.returned-returned.result.now.width in
    let o : c.put_words.new.self.next ≡ sum t.params = omega (arith, c.in_ok-words.ensures.next, ap sum c.widths.ensures) in
    let p : Prepared t (wires_of c.in_ok-words.words.items) n (map pure_typed_expr c.bindings.result.now) (pure_typed_expr c.returned-returned.result.now) = record {
      typed = c.returned-returned.ensures.well_typed;
      words_are = c.in_ok-words.ensures.words ∙ ap (words_from 0) c.widths.ensures;
      next = omega (arith, o, ap (λ (e : PureTypedExpr). e.width) c.returned-returned.ensures.value);
      binds_are = c.bindings.ensures;
      returned_is = c.returned-returned.ensures.value;
    } in
    copies_room t (wires_of c.in_ok-words.words.items) n (map pure_typed_expr c.bindings.result.now) (pure_typed_expr c.returned-returned.result.now) _ c.put_bindings.new.self c.in_ok-word.word.items c.as_slice.result.now c.put_words.new.self.next p c.requires c.in_ok-word.ensures c.as_slice.ensures.value o
