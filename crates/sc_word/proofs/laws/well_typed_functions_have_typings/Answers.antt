use Rattle.sc_word.specs.Pure.{pure_word_fn}
use Rattle.sc_word.proofs.Existence.{fn_has}
use Rattle.sc_word.proofs.laws.well_typed_functions_have_typings.Goals as goal

pub returns : goal.returns
returns c = λ f none. fn_has (pure_word_fn f) none
