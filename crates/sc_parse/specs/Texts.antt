-- Trees of texts.
use Rattle.std.specs.Prelude.{ℕ, List}
use Rattle.sc_syntax.specs.declared.Token.{Token}
use Rattle.sc_syntax.specs.declared.Source.{Source}
use Rattle.sc_syntax.specs.Alike.{Alike}
use Rattle.sc_syntax.specs.Formed.{IsFormedSource}
use Rattle.sc_syntax.specs.Lexing.{IsLexed}
use Rattle.sc_parse.specs.Grammar.{IsTreeOf}

-- the text is one of the grammar, and stands for this tree
pub record HasTree (text : List ℕ) (tree : Source) : Type 0 where
  pub tokens : List Token
  pub lexed : IsLexed text tokens
  pub derives : IsTreeOf text tokens tree

-- a text has at most one tree, wherever it lies in memory, and that one is formed
pub record HasOneFormedTree : Type 0 where
  pub one : (text : List ℕ) (a b : Source) → HasTree text a → HasTree text b → Alike a b
  pub formed : (text : List ℕ) (tree : Source) → HasTree text tree → IsFormedSource tree
