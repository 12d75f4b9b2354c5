use Rattle.std.proofs.Common.{◌≡◌, sym, ap, subst}
use Rattle.sc_syntax.specs.declared.WordFn.{WordFn}
use Rattle.sc_word.specs.Pure.{PureWordFn, pure_word_fn}
use Rattle.sc_word.specs.Scratch.{fn_scratch}
use Rattle.sc_word.specs.Typed.{TypedWords, TypesFn, TypesPureFn}
use Rattle.sc_word.proofs.Uniqueness.{fn_once}
use Rattle.sc_rev.specs.Functions.{gates_of}
use Rattle.sc_rev.proofs.laws.alike_functions_have_one_body.Goals as goal

one : (f g : WordFn) (t u : TypedWords) → pure_word_fn f ≡ pure_word_fn g → TypesFn f t → TypesFn g u → t ≡ u
one f g t u same h k = fn_once (pure_word_fn f) t u h (subst (λ (x : PureWordFn). TypesPureFn x u) (sym same) k)

pub returns-clause-gates : goal.returns-clause-gates
returns-clause-gates c = λ f g t u same h k. ap gates_of (one f g t u same h k)

pub returns-clause-scratch : goal.returns-clause-scratch
returns-clause-scratch c = λ f g t u same h k. ap fn_scratch (one f g t u same h k)
