use Rattle.std.proofs.Common.{sym, ap, subst}
use Rattle.sc_word.specs.Pure.{PureWordFn, pure_word_fn}
use Rattle.sc_word.specs.Checks.{first_fault, checks_fn}
use Rattle.sc_word.specs.Typed.{TypesPureFn}
use Rattle.sc_word.proofs.Uniqueness.{fn_once}
use Rattle.sc_word.proofs.laws.one_typing.Goals as goal

pub returns : goal.returns
returns c = record {
  fault = λ f g same. ap (λ (x : PureWordFn). first_fault (checks_fn x)) same;
  typed = λ f g t u same h k. fn_once (pure_word_fn f) t u h (subst (λ (x : PureWordFn). TypesPureFn x u) (sym same) k);
}
