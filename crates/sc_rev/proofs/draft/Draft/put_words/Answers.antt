use Rattle.std.proofs.Common.{ℕ, List, ◌++◌, get_or, arith, ap, ◌∙◌}
use Rattle.sc_rev.specs.Cells.{wires_from}
use Rattle.sc_rev.proofs.Grows.{words_more, sum_more}
use Rattle.sc_rev.proofs.draft.Draft.put_words.Goals as goal

pub loop-width-preserved : goal.loop-width-preserved
loop-width-preserved c =
    let ps = c.args.widths.now in
    let i = c.loop-width.width-index in
    record {
      words = words_more ps i 0 c.loop-width.self.next c.push_fresh.new.self.next c.loop-width.words.items c.push.new.self.items c.push_fresh.new.word _ c.loop-width-test.true c.in_ok-push_fresh.ensures.next
          (c.in_ok-push_fresh.ensures.word ∙ ap (λ (x : List ℕ). x ++ wires_from c.loop-width.self.next (get_or ps i 0)) c.new-word.ensures.items) c.in_ok-push.ensures.items c.loop-width.invariant.words;
      gates = c.in_ok-push_fresh.ensures.gates ∙ c.loop-width.invariant.gates;
      next = omega (arith, sum_more ps i 0 c.loop-width-test.true, c.in_ok-push_fresh.ensures.next, c.loop-width.invariant.next);
    }
