use Rattle.std.proofs.Common.{◌≡◌, ◌+◌, ◌++◌, ◌∷◌, [], take, get_or, sym, ap, ◌∙◌, append_assoc, arith}
use Rattle.std.proofs.lemmas.List.{take_more, take_all}
use Rattle.sc_syntax.specs.Lexing.{place_after}
use Rattle.sc_syntax.proofs.lexing.place_behind.Goals as goal

pub loop-c-preserved : goal.loop-c-preserved
loop-c-preserved c =
    let text = c.args.text.now in
    let i = c.loop-c.c-index in
    record {
      value = λ before e.
          let joined : (before ++ take i text) ++ get_or text i 0 ∷ [] ≡ before ++ take (i + 1) text =
          append_assoc before (take i text) (get_or text i 0 ∷ []) ∙ ap (λ t. before ++ t) (sym (take_more text i 0 c.loop-c-test.true)) in
          c.next_place-place.ensures.value (before ++ take i text) (c.loop-c.invariant.value before e) ∙ ap place_after joined;
      line = omega (arith, c.next_place-place.ensures.line);
      column = omega (arith, c.next_place-place.ensures.column);
    }

pub returns : goal.returns
returns c = λ before e.
    c.loop-c.invariant.value before e ∙ ap (λ t. place_after (before ++ t)) (take_all c.loop-c.c-index c.args.text.now (omega arith))
