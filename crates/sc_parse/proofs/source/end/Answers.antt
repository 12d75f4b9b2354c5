use Rattle.std.proofs.Common.{take, sym, ap, ◌∙◌, arith}
use Rattle.std.proofs.lemmas.List.{take_more, take_all}
use Rattle.sc_syntax.specs.Lexing.{place_after}
use Rattle.sc_parse.proofs.source.end.Goals as goal

pub loop-byte-preserved : goal.loop-byte-preserved
loop-byte-preserved c =
    let text = c.args.source.now in
    let i = c.loop-byte.byte-index in
    record {
      value = c.next_place-place.ensures.value (take i text) c.loop-byte.invariant.value ∙ ap place_after (sym (take_more text i 0 c.loop-byte-test.true));
      line = omega (arith, c.next_place-place.ensures.line);
      column = omega (arith, c.next_place-place.ensures.column);
    }

pub returns : goal.returns
returns c = c.loop-byte.invariant.value ∙ ap place_after (take_all c.loop-byte.byte-index c.args.source.now (omega arith))
