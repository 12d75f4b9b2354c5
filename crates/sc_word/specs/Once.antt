-- A well typed classical function has a typing, and one alone.
use Rattle.std.specs.Prelude.{◌≡◌, None}
use Rattle.sc_syntax.specs.declared.WordFn.{WordFn}
use Rattle.sc_word.specs.Pure.{pure_word_fn}
use Rattle.sc_word.specs.Checks.{fault}
use Rattle.sc_word.specs.Typed.{TypedWords, TypesFn}

-- two functions that differ only in where their boxes and lists lie in memory have one fault, or none, and at most one typed function
pub record HasOneTyping : Type 0 where
  pub fault : (f g : WordFn) → pure_word_fn f ≡ pure_word_fn g → fault f ≡ fault g
  pub typed : (f g : WordFn) (t u : TypedWords) → pure_word_fn f ≡ pure_word_fn g → TypesFn f t → TypesFn g u → t ≡ u

-- a function in which no check fails has a typed function
abbrev pub HaveTypings : Type 0
HaveTypings = (f : WordFn) → fault f ≡ None → (t : TypedWords) × TypesFn f t
