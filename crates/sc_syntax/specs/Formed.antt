-- Formed trees: what every tree keeps beside its type.
use Rattle.std.specs.Prelude.{ℕ, suc, ◌≤◌, List, [], ◌∷◌, length, Option, Some, None}
use Rattle.sc_base.specs.declared.GateName.{GateName}
use Rattle.sc_base.specs.declared.GateName.TheVariants as gate
use Rattle.sc_syntax.specs.declared.tree.BinOp.{BinOp}
use Rattle.sc_syntax.specs.declared.tree.SetOp.{SetOp}
use Rattle.sc_syntax.specs.declared.tree.SetOp.TheVariants as set
use Rattle.sc_syntax.specs.declared.tree.Expr.{Expr}
use Rattle.sc_syntax.specs.declared.tree.Link.{Link}
use Rattle.sc_syntax.specs.declared.tree.Node.{Node, Int, Decimal, Name, Index', Paren', Unary', Chain', Pick', Row_of-Link, end_of-Link, more_of-Link}
use Rattle.sc_syntax.specs.declared.tree.Stmt.{Stmt}
use Rattle.sc_syntax.specs.declared.tree.Act.{Act, Wires, Numbers, Set, Measure, Call, If', While', For', Block', Empty, Held-Act-If-2, None', Some', Row_of-Stmt, end_of-Stmt, more_of-Stmt}
use Rattle.sc_syntax.specs.declared.tree.Decl.{Decl}
use Rattle.sc_syntax.specs.declared.tree.Init.{Init}
use Rattle.sc_syntax.specs.declared.tree.Operand.{Operand}
use Rattle.sc_syntax.specs.declared.tree.Callee.{Callee}
use Rattle.sc_syntax.specs.declared.tree.Callee.TheVariants.{Gate, Named}
use Rattle.sc_syntax.specs.declared.tree.Sort.{Sort}
use Rattle.sc_syntax.specs.declared.tree.Sort.TheVariants as sort
use Rattle.sc_syntax.specs.declared.tree.Param.{Param}
use Rattle.sc_syntax.specs.declared.tree.Module.{Module}
use Rattle.sc_syntax.specs.declared.tree.Part.{Part}
use Rattle.sc_syntax.specs.declared.tree.Part.TheVariants as part
use Rattle.sc_syntax.specs.declared.tree.Source.{Source}
use Rattle.sc_syntax.specs.Levels.{level, IsOneLevel}
use Rattle.sc_syntax.specs.Names.{IsName}
use Rattle.sc_syntax.specs.FormedWords.{max_items, AreFormed, IsFormedWordFn}
use Rattle.sc_syntax.specs.Written.{IsWritten}

-- ---- expressions

-- the operators of a chain
abbrev pub operators : {m : _} → Row_of-Link m → List BinOp
operators end_of-Link = []
operators (more_of-Link op at place node rest) = op ∷ operators rest

-- numbers are such that may be written, names are names, and a chain holds one level of the grammar
abbrev mutual
  pub IsFormedNode : Node → Type 0
  IsFormedNode (Int n) = IsWritten n
  IsFormedNode (Decimal d) = IsWritten d.0
  IsFormedNode (Name t) = IsName t
  IsFormedNode (Index' t b p n) = IsName t × IsFormedNode n
  IsFormedNode (Paren' b p n) = IsFormedNode n
  IsFormedNode (Unary' op b p n) = IsFormedNode n
  IsFormedNode (Chain' b p n shape row) =
      IsFormedNode n × IsOneLevel level (operators row) × (length (operators row) ≤ max_items) × AreFormedLinks row
  IsFormedNode (Pick' b1 p1 n1 b2 p2 n2 b3 p3 n3) = IsFormedNode n1 × IsFormedNode n2 × IsFormedNode n3

  pub AreFormedLinks : {m : _} → Row_of-Link m → Type 0
  AreFormedLinks end_of-Link = Unit {0}
  AreFormedLinks (more_of-Link op at place node rest) = IsFormedNode node × AreFormedLinks rest

abbrev pub IsFormedExpr : Expr → Type 0
IsFormedExpr e = IsFormedNode e.node

abbrev pub IsFormedLink : Link → Type 0
IsFormedLink l = IsFormedExpr l.right

abbrev pub IsFormedOption : Option Expr → Type 0
IsFormedOption None = Unit {0}
IsFormedOption (Some e) = IsFormedExpr e

-- ---- statements

abbrev pub IsFormedDecl : Decl → Type 0
IsFormedDecl d = IsName d.name.text × IsFormedOption d.size

abbrev pub IsFormedInit : Init → Type 0
IsFormedInit d = IsName d.name.text × IsFormedOption d.start

-- the value is absent exactly for `++` and `--`
abbrev pub HasItsValue : SetOp → Option Expr → Type 0
HasItsValue set.Up None = Unit {0}
HasItsValue set.Up (Some e) = ⊥
HasItsValue set.Down None = Unit {0}
HasItsValue set.Down (Some e) = ⊥
HasItsValue _ None = ⊥
HasItsValue _ (Some e) = IsFormedExpr e

abbrev pub IsMeasuring : GateName → Type 0
IsMeasuring gate.MeasX = Unit {0}
IsMeasuring gate.MeasZ = Unit {0}
IsMeasuring _ = ⊥

abbrev pub IsFormedOperand : Operand → Type 0
IsFormedOperand o = IsName o.name.text × IsFormedOption o.index

abbrev pub IsFormedCallee : Callee → Type 0
IsFormedCallee (Gate g) = Unit {0}
IsFormedCallee (Named t) = IsName t

-- what may advance a `for`: it sets a name, and declares none
abbrev pub IsSetting : Act → Type 0
IsSetting (Set s) = Unit {0}
IsSetting (Measure m) = Unit {0}
IsSetting _ = ⊥

-- what may start a `for`
abbrev pub IsStart : Act → Type 0
IsStart (Numbers s l) = Unit {0}
IsStart act = IsSetting act

abbrev pub IsStartOption : Held-Act-If-2 → Type 0
IsStartOption None' = Unit {0}
IsStartOption (Some' b p act) = IsStart act

abbrev pub IsSettingOption : Held-Act-If-2 → Type 0
IsSettingOption None' = Unit {0}
IsSettingOption (Some' b p act) = IsSetting act

abbrev pub count_stmts : {m : _} → Row_of-Stmt m → ℕ
count_stmts end_of-Stmt = 0
count_stmts (more_of-Stmt place act rest) = suc (count_stmts rest)

abbrev mutual
  pub IsFormedAct : Act → Type 0
  IsFormedAct (Wires c l) = AreFormed IsFormedDecl l
  IsFormedAct (Numbers s l) = AreFormed IsFormedInit l
  IsFormedAct (Set s) = IsName s.name.text × HasItsValue s.op s.value
  IsFormedAct (Measure m) = IsMeasuring m.gate × IsFormedOperand m.into × IsFormedOperand m.from
  IsFormedAct (Call c) = IsFormedCallee c.callee × AreFormed IsFormedExpr c.args
  IsFormedAct (If' e b p act other) = IsFormedExpr e × IsFormedAct act × IsFormedActOption other
  IsFormedAct (While' e b p act) = IsFormedExpr e × IsFormedAct act
  IsFormedAct (For' start test advance b p act) =
      IsStartOption start × IsFormedActOption start × IsFormedOption test
      × IsSettingOption advance × IsFormedActOption advance × IsFormedAct act
  IsFormedAct (Block' shape row) = (count_stmts row ≤ max_items) × AreFormedStmts row
  IsFormedAct Empty = Unit {0}

  pub IsFormedActOption : Held-Act-If-2 → Type 0
  IsFormedActOption None' = Unit {0}
  IsFormedActOption (Some' b p act) = IsFormedAct act

  pub AreFormedStmts : {m : _} → Row_of-Stmt m → Type 0
  AreFormedStmts end_of-Stmt = Unit {0}
  AreFormedStmts (more_of-Stmt place act rest) = IsFormedAct act × AreFormedStmts rest

abbrev pub IsFormedStmt : Stmt → Type 0
IsFormedStmt s = IsFormedAct s.act

-- ---- sources

abbrev pub IsFormedSort : Sort → Type 0
IsFormedSort (sort.Many c length) = IsFormedOption length
IsFormedSort _ = Unit {0}

abbrev pub IsFormedParam : Param → Type 0
IsFormedParam p = IsName p.name.text × IsFormedSort p.sort

pub record IsFormedModule (m : Module) : Type 0 where
  pub name : IsName m.name.text
  pub params : AreFormed IsFormedParam m.params
  pub body : AreFormed IsFormedStmt m.body

abbrev pub IsFormedPart : Part → Type 0
IsFormedPart (part.Module m) = IsFormedModule m
IsFormedPart (part.Words f) = IsFormedWordFn f

abbrev pub IsFormedSource : Source → Type 0
IsFormedSource s = AreFormed IsFormedPart s.parts
