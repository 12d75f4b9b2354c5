-- Formed classical functions.
use Rattle.std.specs.Prelude.{ℕ, ◌≤◌, List, [], ◌∷◌, length}
use Rattle.std.specs.List.{All}
use Rattle.sc_syntax.specs.declared.tree.WordOp.{WordOp}
use Rattle.sc_syntax.specs.declared.tree.Width.{Width}
use Rattle.sc_syntax.specs.declared.tree.ShiftLink.{ShiftLink}
use Rattle.sc_syntax.specs.declared.tree.WordExpr.{WordExpr}
use Rattle.sc_syntax.specs.declared.tree.WordLink.{WordLink}
use Rattle.sc_syntax.specs.declared.tree.WordNode.{WordNode, Int, Name, Paren', Not', Chain', Shift', Pick', Ext', Low', Row_of-WordLink, end_of-WordLink, more_of-WordLink}
use Rattle.sc_syntax.specs.declared.tree.WordParam.{WordParam}
use Rattle.sc_syntax.specs.declared.tree.Bind.{Bind}
use Rattle.sc_syntax.specs.declared.tree.WordFn.{WordFn}
use Rattle.sc_syntax.specs.Count.{count_fn_words}
use Rattle.sc_syntax.specs.Levels.{word_level, IsOneLevel}
use Rattle.sc_syntax.specs.Names.{IsName}
use Rattle.sc_syntax.specs.Written.{IsWritten}

-- the most items of a list, and the most word expressions of a classical function
abbrev pub max_items : ℕ
max_items = 4194304

-- a list of at most that many items, each of which is formed
pub record AreFormed {X : Type 0} (IsFormed : X → Type 0) (items : List X) : Type 0 where
  pub short : length items ≤ max_items
  pub each : All IsFormed items

abbrev pub IsFormedWidth : Width → Type 0
IsFormedWidth w = IsWritten w.value

abbrev pub IsFormedShift : ShiftLink → Type 0
IsFormedShift l = IsFormedWidth l.by

-- the operators of a chain
abbrev pub word_operators : {m : _} → Row_of-WordLink m → List WordOp
word_operators end_of-WordLink = []
word_operators (more_of-WordLink op at place node rest) = op ∷ word_operators rest

-- numbers and widths are such that may be written, names are names, and a chain holds one level of the grammar
abbrev mutual
  pub IsFormedWordNode : WordNode → Type 0
  IsFormedWordNode (Int n) = IsWritten n
  IsFormedWordNode (Name t) = IsName t
  IsFormedWordNode (Paren' b p n) = IsFormedWordNode n
  IsFormedWordNode (Not' b p n) = IsFormedWordNode n
  IsFormedWordNode (Chain' b p n shape row) =
      IsFormedWordNode n × IsOneLevel word_level (word_operators row) × (length (word_operators row) ≤ max_items) × AreFormedWordLinks row
  IsFormedWordNode (Shift' b p n links) = IsFormedWordNode n × AreFormed IsFormedShift links
  IsFormedWordNode (Pick' b1 p1 n1 b2 p2 n2 b3 p3 n3) = IsFormedWordNode n1 × IsFormedWordNode n2 × IsFormedWordNode n3
  IsFormedWordNode (Ext' b p n w) = IsFormedWordNode n × IsFormedWidth w
  IsFormedWordNode (Low' b p n w) = IsFormedWordNode n × IsFormedWidth w

  pub AreFormedWordLinks : {m : _} → Row_of-WordLink m → Type 0
  AreFormedWordLinks end_of-WordLink = Unit {0}
  AreFormedWordLinks (more_of-WordLink op at place node rest) = IsFormedWordNode node × AreFormedWordLinks rest

abbrev pub IsFormedWordExpr : WordExpr → Type 0
IsFormedWordExpr e = IsFormedWordNode e.node

abbrev pub IsFormedWordLink : WordLink → Type 0
IsFormedWordLink l = IsFormedWordExpr l.right

abbrev pub IsFormedWordParam : WordParam → Type 0
IsFormedWordParam p = IsName p.name.text × IsFormedWidth p.width

abbrev pub IsFormedBind : Bind → Type 0
IsFormedBind b = IsName b.name.text × IsFormedWordExpr b.value

pub record IsFormedWordFn (f : WordFn) : Type 0 where
  pub name : IsName f.name.text
  pub params : AreFormed IsFormedWordParam f.params
  pub width : IsFormedWidth f.width
  pub binds : AreFormed IsFormedBind f.binds
  pub result : IsFormedWordExpr f.result
  -- all its word expressions together
  pub small : count_fn_words f ≤ max_items
