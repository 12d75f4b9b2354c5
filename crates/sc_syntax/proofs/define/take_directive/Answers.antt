use Rattle.std.proofs.Common.{◌≡◌, refl, ◌∙◌, codes, arith}
use Rattle.sc_syntax.specs.Directives.{directive_word}
use Rattle.sc_syntax.proofs.Definitions.{LineAt, directs_define, defines_from, same_text, word_from}
use Rattle.sc_syntax.proofs.Outcomes.{on_ok, if_err}
use Rattle.sc_syntax.proofs.define.take_directive.Goals as goal

pub returns-clause-ok : goal.returns-clause-ok
returns-clause-ok c =
    let line : LineAt c.args.source.now c.part-line.result.now c.args.start c.args.end c.run_end-to.result = record {
      ordered = omega arith;
      ends = c.requires.within;
      line_is = c.part-line.ensures;
      to_is = rw (c.run_end-to.ensures.value, c.run_end-from.ensures.value) refl;
      within = c.run_end-to.ensures.within;
    } in
    let text = same_text c.part-word.result.now c.as_slice-2.result.now c.if-ne.ensures ∙ c.as_slice-2.ensures in
    let word : directive_word c.part-line.result.now ≡ codes "define" = word_from _ _ c.run_end-from.result c.run_end-to.result c.part-word.ensures c.run_end-from.ensures.value line.to_is ∙ text in
    on_ok c.define.result _ _ c.define.ensures.ok (directs_define _ _ _ _ _ _ _ _ line word)

pub returns-clause-none : goal.returns-clause-none
returns-clause-none c =
    let line : LineAt c.args.source.now c.part-line.result.now c.args.start c.args.end c.run_end-to.result = record {
      ordered = omega arith;
      ends = c.requires.within;
      line_is = c.part-line.ensures;
      to_is = rw (c.run_end-to.ensures.value, c.run_end-from.ensures.value) refl;
      within = c.run_end-to.ensures.within;
    } in
    let text = same_text c.part-word.result.now c.as_slice-2.result.now c.if-ne.ensures ∙ c.as_slice-2.ensures in
    let word : directive_word c.part-line.result.now ≡ codes "define" = word_from _ _ c.run_end-from.result c.run_end-to.result c.part-word.ensures c.run_end-from.ensures.value line.to_is ∙ text in
    if_err c.define.result _ _ c.define.ensures.none (λ f h n after d. h n after (defines_from _ _ _ after _ _ _ _ line word d))
