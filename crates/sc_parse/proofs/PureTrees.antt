-- The parts of phrases, wherever they lie in memory.
use Rattle.std.proofs.Common.{◌≡◌, refl, sym, ◌∙◌, ap, List, [], ◌∷◌, map}
use Rattle.sc_base.specs.declared.Class.{Class}
use Rattle.sc_base.specs.declared.GateName.{GateName}
use Rattle.sc_base.specs.declared.Place.{Place}
use Rattle.sc_syntax.specs.declared.Name.{Name}
use Rattle.sc_syntax.specs.declared.NumSort.{NumSort}
use Rattle.sc_syntax.specs.declared.Width.{Width}
use Rattle.sc_syntax.specs.declared.WordParam.{WordParam}
use Rattle.sc_syntax.specs.Alike.{PureExpr, PureNamed, PureStmt, PureParam, PurePart, PureWordExpr, PureBind, pure_expr, pure_decl, pure_init, pure_operand, pure_stmt, pure_param, pure_part, pure_word_expr, pure_bind}
use Rattle.sc_parse.specs.Pieces.{Piece}
use Rattle.sc_parse.specs.Trees as tree
use Rattle.sc_parse.specs.Trees.{Tree, kept}

-- a part of a phrase without its addresses; `junk` is no part
pub data PureTree : Type 0 where
  junk : PureTree
  token : Piece → PureTree
  name : Name → PureTree
  width : Width → PureTree
  wire : Class → Place → PureTree
  num : NumSort → Place → PureTree
  expr : PureExpr → PureTree
  decl : PureNamed → PureTree
  init : PureNamed → PureTree
  stmt : PureStmt → PureTree
  meas : GateName → PureNamed → PureTree
  param : PureParam → PureTree
  part : PurePart → PureTree
  word_expr : PureWordExpr → PureTree
  word_param : WordParam → PureTree
  bind : PureBind → PureTree

-- a part without its addresses
abbrev pub pure_tree : Tree → PureTree
pure_tree (tree.token t) = token t
pure_tree (tree.name n) = name n
pure_tree (tree.width w) = width w
pure_tree (tree.wire c p) = wire c p
pure_tree (tree.num n p) = num n p
pure_tree (tree.expr e) = expr (pure_expr e)
pure_tree (tree.decl d) = decl (pure_decl d)
pure_tree (tree.init i) = init (pure_init i)
pure_tree (tree.stmt s) = stmt (pure_stmt s)
pure_tree (tree.meas g o) = meas g (pure_operand o)
pure_tree (tree.param p) = param (pure_param p)
pure_tree (tree.part p) = part (pure_part p)
pure_tree (tree.word_expr e) = word_expr (pure_word_expr e)
pure_tree (tree.word_param p) = word_param p
pure_tree (tree.bind b) = bind (pure_bind b)

-- parts without their addresses
abbrev pub pure : List Tree → List PureTree
pure vs = map pure_tree vs

-- the parts that are no tokens
abbrev pub keep : List PureTree → List PureTree
keep [] = []
keep (token p ∷ vs) = keep vs
keep (v ∷ vs) = v ∷ keep vs

-- the parts that are no tokens stay the same without their addresses
pub kept_pure : (vs : List Tree) → keep (pure vs) ≡ pure (kept vs)
kept_pure [] = refl
kept_pure (tree.token t ∷ vs) = kept_pure vs
kept_pure (tree.name n ∷ vs) = ap (λ (l : List PureTree). name n ∷ l) (kept_pure vs)
kept_pure (tree.width w ∷ vs) = ap (λ (l : List PureTree). width w ∷ l) (kept_pure vs)
kept_pure (tree.wire c p ∷ vs) = ap (λ (l : List PureTree). wire c p ∷ l) (kept_pure vs)
kept_pure (tree.num n p ∷ vs) = ap (λ (l : List PureTree). num n p ∷ l) (kept_pure vs)
kept_pure (tree.expr e ∷ vs) = ap (λ (l : List PureTree). expr (pure_expr e) ∷ l) (kept_pure vs)
kept_pure (tree.decl d ∷ vs) = ap (λ (l : List PureTree). decl (pure_decl d) ∷ l) (kept_pure vs)
kept_pure (tree.init i ∷ vs) = ap (λ (l : List PureTree). init (pure_init i) ∷ l) (kept_pure vs)
kept_pure (tree.stmt s ∷ vs) = ap (λ (l : List PureTree). stmt (pure_stmt s) ∷ l) (kept_pure vs)
kept_pure (tree.meas g o ∷ vs) = ap (λ (l : List PureTree). meas g (pure_operand o) ∷ l) (kept_pure vs)
kept_pure (tree.param p ∷ vs) = ap (λ (l : List PureTree). param (pure_param p) ∷ l) (kept_pure vs)
kept_pure (tree.part p ∷ vs) = ap (λ (l : List PureTree). part (pure_part p) ∷ l) (kept_pure vs)
kept_pure (tree.word_expr e ∷ vs) = ap (λ (l : List PureTree). word_expr (pure_word_expr e) ∷ l) (kept_pure vs)
kept_pure (tree.word_param p ∷ vs) = ap (λ (l : List PureTree). word_param p ∷ l) (kept_pure vs)
kept_pure (tree.bind b ∷ vs) = ap (λ (l : List PureTree). bind (pure_bind b) ∷ l) (kept_pure vs)

-- what is read off the kept parts is read off what they are
pub by_kept : {A : Type 0} (read : List PureTree → A) (vs : List Tree) {us : List Tree} → kept vs ≡ us → read (pure us) ≡ read (keep (pure vs))
by_kept read vs e = sym (ap read (kept_pure vs ∙ ap pure e))
