-- What a name is.
use Rattle.std.specs.Prelude.{ℕ, List}
use Rattle.sc_base.specs.NameTexts.{IsNameText}
use Rattle.sc_syntax.specs.Reserved.{IsReserved}

-- a name: a word that is not reserved
pub record IsName (text : List ℕ) : Type 0 where
  pub word : IsNameText text
  pub free : IsReserved text → ⊥
