-- What reaches a sink, and what is still held back from it.
use Rattle.std.specs.Prelude.{◌≡◌, ℕ, Bool, List, ◌++◌}
use Rattle.sc_base.specs.Output.{Wrote}

-- what was held before and the text, joined, is what the sink got and what is held after
pub record Gathers {S : Type 0} (tells : S → Bool) (bytes : S → List ℕ) (old new : S) (before after text : List ℕ) : Type 0 where
  pub taken : List ℕ
  pub whole : before ++ text ≡ taken ++ after
  pub wrote : Wrote tells bytes old new taken

-- the sink got a prefix of what was held before and the text, joined, and the rest is left out
pub record GathersPrefix {S : Type 0} (tells : S → Bool) (bytes : S → List ℕ) (old new : S) (before text : List ℕ) : Type 0 where
  pub left : List ℕ
  pub gathers : Gathers tells bytes old new before left text
