-- Trees that are alike: one tree, wherever its boxes and lists lie in memory. Addresses say nothing of a source.
use Rattle.std.specs.Prelude.{◌≡◌, ℕ, ℤ, List, [], ◌∷◌, map, Option, option_map}
use Rattle.sc_base.specs.declared.Class.{Class}
use Rattle.sc_base.specs.declared.Fixed.{Fixed}
use Rattle.sc_base.specs.declared.GateName.{GateName}
use Rattle.sc_base.specs.declared.Place.{Place}
use Rattle.sc_syntax.specs.declared.tree.BinOp.{BinOp}
use Rattle.sc_syntax.specs.declared.tree.UnOp.{UnOp}
use Rattle.sc_syntax.specs.declared.tree.SetOp.{SetOp}
use Rattle.sc_syntax.specs.declared.tree.NumSort.{NumSort}
use Rattle.sc_syntax.specs.declared.tree.WordOp.{WordOp}
use Rattle.sc_syntax.specs.declared.tree.Name.{Name}
use Rattle.sc_syntax.specs.declared.tree.Expr.{Expr}
use Rattle.sc_syntax.specs.declared.tree.Link.{Link}
use Rattle.sc_syntax.specs.declared.tree.Node as node
use Rattle.sc_syntax.specs.declared.tree.Node.{Node, Index', Paren', Unary', Chain', Pick', Row_of-Link, end_of-Link, more_of-Link}
use Rattle.sc_syntax.specs.declared.tree.Stmt.{Stmt}
use Rattle.sc_syntax.specs.declared.tree.Act as act
use Rattle.sc_syntax.specs.declared.tree.Act.{Act, If', While', For', Block', Held-Act-If-2, None', Some', Row_of-Stmt, end_of-Stmt, more_of-Stmt}
use Rattle.sc_syntax.specs.declared.tree.Decl.{Decl}
use Rattle.sc_syntax.specs.declared.tree.Init.{Init}
use Rattle.sc_syntax.specs.declared.tree.Operand.{Operand}
use Rattle.sc_syntax.specs.declared.tree.Callee.{Callee}
use Rattle.sc_syntax.specs.declared.tree.Sort.{Sort}
use Rattle.sc_syntax.specs.declared.tree.Sort.TheVariants as sort
use Rattle.sc_syntax.specs.declared.tree.Param.{Param}
use Rattle.sc_syntax.specs.declared.tree.Part.{Part}
use Rattle.sc_syntax.specs.declared.tree.Part.TheVariants as part
use Rattle.sc_syntax.specs.declared.tree.Source.{Source}
use Rattle.sc_syntax.specs.declared.tree.Width.{Width}
use Rattle.sc_syntax.specs.declared.tree.ShiftLink.{ShiftLink}
use Rattle.sc_syntax.specs.declared.tree.WordParam.{WordParam}
use Rattle.sc_syntax.specs.declared.tree.Bind.{Bind}
use Rattle.sc_syntax.specs.declared.tree.WordExpr.{WordExpr}
use Rattle.sc_syntax.specs.declared.tree.WordLink.{WordLink}
use Rattle.sc_syntax.specs.declared.tree.WordNode as word
use Rattle.sc_syntax.specs.declared.tree.WordNode.{WordNode, Not', Shift', Ext', Low', Row_of-WordLink, end_of-WordLink, more_of-WordLink}

-- ---- expressions; the place of a part stands before the part

mutual
  pub data PureNode : Type 0 where
    int : ℤ → PureNode
    decimal : Fixed → PureNode
    name : List ℕ → PureNode
    index : List ℕ → Place → PureNode → PureNode
    paren : Place → PureNode → PureNode
    unary : UnOp → Place → PureNode → PureNode
    chain : Place → PureNode → PureLinks → PureNode
    pick : Place → PureNode → Place → PureNode → Place → PureNode → PureNode

  -- the operators of a chain with their places and right operands
  pub data PureLinks : Type 0 where
    no_links : PureLinks
    link : BinOp → Place → Place → PureNode → PureLinks → PureLinks

pub record PureExpr : Type 0 where
  pub place : Place
  pub node : PureNode

abbrev mutual
  pub pure_node : Node → PureNode
  pure_node (node.Int n) = int n
  pure_node (node.Decimal d) = decimal d
  pure_node (node.Name t) = name t
  pure_node (Index' t b p n) = index t p (pure_node n)
  pure_node (Paren' b p n) = paren p (pure_node n)
  pure_node (Unary' o b p n) = unary o p (pure_node n)
  pure_node (Chain' b p n shape row) = chain p (pure_node n) (pure_links row)
  pure_node (Pick' b1 p1 n1 b2 p2 n2 b3 p3 n3) = pick p1 (pure_node n1) p2 (pure_node n2) p3 (pure_node n3)

  pub pure_links : {m : _} → Row_of-Link m → PureLinks
  pure_links end_of-Link = no_links
  pure_links (more_of-Link o at p n rest) = link o at p (pure_node n) (pure_links rest)

-- the same of links in a list
abbrev pub pure_link_list : List Link → PureLinks
pure_link_list [] = no_links
pure_link_list (l ∷ ls) = link l.op l.place l.right.place (pure_node l.right.node) (pure_link_list ls)

abbrev pub pure_expr : Expr → PureExpr
pure_expr e = record { place = e.place; node = pure_node e.node }

-- ---- statements

-- a name with a size, a start value or an index, where there is one
pub record PureNamed : Type 0 where
  pub name : Name
  pub value : Option PureExpr

abbrev pub pure_decl : Decl → PureNamed
pure_decl d = record { name = d.name; value = option_map pure_expr d.size }

abbrev pub pure_init : Init → PureNamed
pure_init d = record { name = d.name; value = option_map pure_expr d.start }

abbrev pub pure_operand : Operand → PureNamed
pure_operand o = record { name = o.name; value = option_map pure_expr o.index }

mutual
  pub data PureAct : Type 0 where
    wires : Class → List PureNamed → PureAct
    numbers : NumSort → List PureNamed → PureAct
    set : Name → SetOp → Place → Option PureExpr → PureAct
    -- the gate, and where the measured bit goes, and what is measured
    measure : GateName → PureNamed → PureNamed → PureAct
    call : Callee → Place → List PureExpr → PureAct
    -- the condition, and what is done where it holds, and the `else`
    if_else : PureExpr → Place → PureAct → PureHeld → PureAct
    while_loop : PureExpr → Place → PureAct → PureAct
    -- the start, the condition, the advance and the body
    for_loop : PureHeld → Option PureExpr → PureHeld → Place → PureAct → PureAct
    block : PureStmts → PureAct
    empty : PureAct

  -- a statement that may be absent
  pub data PureHeld : Type 0 where
    absent : PureHeld
    held : Place → PureAct → PureHeld

  pub data PureStmts : Type 0 where
    no_stmts : PureStmts
    stmt : Place → PureAct → PureStmts → PureStmts

abbrev mutual
  pub pure_act : Act → PureAct
  pure_act (act.Wires c ds) = wires c (map pure_decl ds)
  pure_act (act.Numbers s ds) = numbers s (map pure_init ds)
  pure_act (act.Set s) = set s.name s.op s.place (option_map pure_expr s.value)
  pure_act (act.Measure m) = measure m.gate (pure_operand m.into) (pure_operand m.from)
  pure_act (act.Call c) = call c.callee c.place (map pure_expr c.args)
  pure_act (If' e b p a other) = if_else (pure_expr e) p (pure_act a) (pure_held other)
  pure_act (While' e b p a) = while_loop (pure_expr e) p (pure_act a)
  pure_act (For' start test advance b p a) = for_loop (pure_held start) (option_map pure_expr test) (pure_held advance) p (pure_act a)
  pure_act (Block' shape row) = block (pure_row row)
  pure_act act.Empty = empty

  pub pure_held : Held-Act-If-2 → PureHeld
  pure_held None' = absent
  pure_held (Some' b p a) = held p (pure_act a)

  pub pure_row : {m : _} → Row_of-Stmt m → PureStmts
  pure_row end_of-Stmt = no_stmts
  pure_row (more_of-Stmt p a rest) = stmt p (pure_act a) (pure_row rest)

pub record PureStmt : Type 0 where
  pub place : Place
  pub act : PureAct

abbrev pub pure_stmt : Stmt → PureStmt
pure_stmt s = record { place = s.place; act = pure_act s.act }

-- statements of a list, as those of a block
abbrev pub in_row : List PureStmt → PureStmts
in_row [] = no_stmts
in_row (s ∷ ss) = stmt s.place s.act (in_row ss)

abbrev pub pure_stmt_list : List Stmt → PureStmts
pure_stmt_list ss = in_row (map pure_stmt ss)

-- ---- classical functions

mutual
  pub data PureWord : Type 0 where
    int : ℤ → PureWord
    name : List ℕ → PureWord
    paren : Place → PureWord → PureWord
    not : Place → PureWord → PureWord
    chain : Place → PureWord → PureWordLinks → PureWord
    shift : Place → PureWord → List ShiftLink → PureWord
    pick : Place → PureWord → Place → PureWord → Place → PureWord → PureWord
    ext : Place → PureWord → Width → PureWord
    low : Place → PureWord → Width → PureWord

  pub data PureWordLinks : Type 0 where
    no_links : PureWordLinks
    link : WordOp → Place → Place → PureWord → PureWordLinks → PureWordLinks

pub record PureWordExpr : Type 0 where
  pub place : Place
  pub node : PureWord

abbrev mutual
  pub pure_word : WordNode → PureWord
  pure_word (word.Int n) = PureWord.int n
  pure_word (word.Name t) = PureWord.name t
  pure_word (word.Paren' b p n) = PureWord.paren p (pure_word n)
  pure_word (Not' b p n) = not p (pure_word n)
  pure_word (word.Chain' b p n shape row) = PureWord.chain p (pure_word n) (pure_word_links row)
  pure_word (Shift' b p n links) = shift p (pure_word n) links
  pure_word (word.Pick' b1 p1 n1 b2 p2 n2 b3 p3 n3) = PureWord.pick p1 (pure_word n1) p2 (pure_word n2) p3 (pure_word n3)
  pure_word (Ext' b p n w) = ext p (pure_word n) w
  pure_word (Low' b p n w) = low p (pure_word n) w

  pub pure_word_links : {m : _} → Row_of-WordLink m → PureWordLinks
  pure_word_links end_of-WordLink = PureWordLinks.no_links
  pure_word_links (more_of-WordLink o at p n rest) = PureWordLinks.link o at p (pure_word n) (pure_word_links rest)

-- the same of links in a list
abbrev pub pure_word_link_list : List WordLink → PureWordLinks
pure_word_link_list [] = PureWordLinks.no_links
pure_word_link_list (l ∷ ls) = PureWordLinks.link l.op l.place l.right.place (pure_word l.right.node) (pure_word_link_list ls)

abbrev pub pure_word_expr : WordExpr → PureWordExpr
pure_word_expr e = record { place = e.place; node = pure_word e.node }

pub record PureBind : Type 0 where
  pub name : Name
  pub value : PureWordExpr

abbrev pub pure_bind : Bind → PureBind
pure_bind b = record { name = b.name; value = pure_word_expr b.value }

-- ---- sources

pub data PureSort : Type 0 where
  one : Class → PureSort
  many : Class → Option PureExpr → PureSort
  int : PureSort
  double : PureSort

abbrev pub pure_sort : Sort → PureSort
pure_sort (sort.One c) = one c
pure_sort (sort.Many c e) = many c (option_map pure_expr e)
pure_sort sort.Int = PureSort.int
pure_sort sort.Double = double

pub record PureParam : Type 0 where
  pub name : Name
  pub sort : PureSort

abbrev pub pure_param : Param → PureParam
pure_param p = record { name = p.name; sort = pure_sort p.sort }

pub data PurePart : Type 0 where
  of_module : Name → List PureParam → List PureStmt → PurePart
  of_words : Name → List WordParam → Width → List PureBind → PureWordExpr → PurePart

abbrev pub pure_part : Part → PurePart
pure_part (part.Module m) = of_module m.name (map pure_param m.params) (map pure_stmt m.body)
pure_part (part.Words f) = of_words f.name f.params f.width (map pure_bind f.binds) (pure_word_expr f.result)

abbrev pub pure_source : Source → List PurePart
pure_source s = map pure_part s.parts

-- two trees that are alike
abbrev pub Alike : Source → Source → Type 0
Alike a b = pure_source a ≡ pure_source b
