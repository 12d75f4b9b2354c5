use Rattle.std.proofs.Common.{Some, sym, ap, ◌∙◌}
use Rattle.sc_types.proofs.PartLemmas.{words_fine, words_fail, other_than_memory}
use Rattle.sc_types.proofs.parts.type_words.Goals as goal

pub returns-in-Ok-clause-none : goal.returns-in-Ok-clause-none
returns-in-Ok-clause-none c = words_fine c.args.function.now c.in-Ok.ensures.none

pub returns-in-Err-clause-err : goal.returns-in-Err-clause-err
returns-in-Err-clause-err c = λ free.
    words_fail c.args.function.now c.in-Err.fault (c.in-Err.ensures.fault (other_than_memory c.in-Err.fault (λ e. free (c.of_word.ensures ∙ e))))
    ∙ ap Some (sym c.of_word.ensures)
