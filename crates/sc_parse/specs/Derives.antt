-- Phrases with their trees.
use Rattle.std.specs.Prelude.{◌≡◌, ◌≢◌, ℤ, pos, true, false, List, [], ◌∷◌, ◌++◌, Option, Some, None}
use Rattle.std.specs.declared.alloc.Global.{Global}
use Rattle.std.specs.declared.boxed.Box.{Box}
use Rattle.std.specs.declared.vec.Vec.{Vec}
use Rattle.sc_base.specs.declared.Class.{Class}
use Rattle.sc_base.specs.declared.Fixed.{Fixed}
use Rattle.sc_base.specs.declared.GateName.{GateName}
use Rattle.sc_base.specs.declared.Place.{Place}
use Rattle.sc_syntax.specs.declared.Mark.{Mark}
use Rattle.sc_syntax.specs.declared.Mark.TheVariants as mark
use Rattle.sc_syntax.specs.declared.Word.{Word}
use Rattle.sc_syntax.specs.declared.Word.TheVariants as reserved
use Rattle.sc_syntax.specs.declared.TokenSort.TheVariants as sort
use Rattle.sc_syntax.specs.declared.NumSort.{NumSort}
use Rattle.sc_syntax.specs.declared.NumSort.TheVariants as number
use Rattle.sc_syntax.specs.declared.UnOp.{UnOp}
use Rattle.sc_syntax.specs.declared.SetOp.{SetOp}
use Rattle.sc_syntax.specs.declared.Name.{Name}
use Rattle.sc_syntax.specs.declared.Expr.{Expr}
use Rattle.sc_syntax.specs.declared.Link.{Link}
use Rattle.sc_syntax.specs.declared.Node.{Node}
use Rattle.sc_syntax.specs.declared.Node as node
use Rattle.sc_syntax.specs.declared.WordExpr.{WordExpr}
use Rattle.sc_syntax.specs.declared.WordLink.{WordLink}
use Rattle.sc_syntax.specs.declared.ShiftLink.{ShiftLink}
use Rattle.sc_syntax.specs.declared.WordNode.{WordNode}
use Rattle.sc_syntax.specs.declared.WordNode as wnode
use Rattle.sc_syntax.specs.declared.Stmt.{Stmt}
use Rattle.sc_syntax.specs.declared.Act.{Act}
use Rattle.sc_syntax.specs.declared.Act as act
use Rattle.sc_syntax.specs.declared.Decl.{Decl}
use Rattle.sc_syntax.specs.declared.Init.{Init}
use Rattle.sc_syntax.specs.declared.Operand.{Operand}
use Rattle.sc_syntax.specs.declared.Callee.TheVariants as callee
use Rattle.sc_syntax.specs.declared.Sort.TheVariants as psort
use Rattle.sc_syntax.specs.declared.Part.TheVariants as part_of
use Rattle.sc_syntax.specs.declared.Module.{Module as ModuleTree}
use Rattle.sc_syntax.specs.declared.WordFn.{WordFn}
use Rattle.sc_syntax.specs.declared.WordParam.{WordParam}
use Rattle.sc_syntax.specs.declared.Width.{Width as WidthTree}
use Rattle.sc_syntax.specs.declared.Bind.{Bind as BindTree}
use Rattle.sc_parse.specs.declared.expr.Level.{Level}
use Rattle.sc_parse.specs.declared.word.WordLevel.{WordLevel}
use Rattle.sc_parse.specs.declared.terminal.Terminal.{Terminal}
use Rattle.sc_parse.specs.declared.terminal.Terminal.TheVariants.{Ext, Low, Measuring}
use Rattle.sc_parse.specs.Terminals.{fits, gate_kind}
use Rattle.sc_parse.specs.Pieces.{Piece, kind, next, ahead}
use Rattle.sc_parse.specs.Form.{Form, empty, one, sub, ◌⨾◌, ◌∣◌, many, nested, unless, Symbol}
use Rattle.sc_parse.specs.Form as symbol
use Rattle.sc_parse.specs.Rules.{rule, chain_of, word_chain_of}
use Rattle.sc_parse.specs.Trees.{Tree, token, name, width, wire, num, expr, decl, init, stmt, meas, param, part, word_expr, word_param, bind, kept, each, if_there, name_of, class_of, number_of, unary_of, binary_of, word_binary_of, level_of, word_level_of, shift_of, set_of, step_of}

-- an expression, a word and a statement, with their places

abbrev pub at : Place → Node → Expr
at p n = record { place = p; node = n }

abbrev pub word_at : Place → WordNode → WordExpr
word_at p n = record { place = p; node = n }

abbrev pub does : Place → Act → Stmt
does p a = record { place = p; act = a }

-- operators and operands, and the links that they make

pub data Linked (lv : Level) : List Tree → List Link → Type 0 where
  no_links : Linked lv [] []
  one_link : {t : Piece} {m : Mark} {l : Link} {vs : List Tree} {ls : List Link} → t.token.sort ≡ sort.Mark m → binary_of m ≡ Some l.op → level_of l.op ≡ lv → l.place ≡ t.token.place → Linked lv vs ls
      → Linked lv (token t ∷ expr l.right ∷ vs) (l ∷ ls)

pub data WordLinked (lv : WordLevel) : List Tree → List WordLink → Type 0 where
  no_links : WordLinked lv [] []
  one_link : {t : Piece} {m : Mark} {l : WordLink} {vs : List Tree} {ls : List WordLink} → t.token.sort ≡ sort.Mark m → word_binary_of m ≡ Some l.op → word_level_of l.op ≡ lv → l.place ≡ t.token.place → WordLinked lv vs ls
      → WordLinked lv (token t ∷ word_expr l.right ∷ vs) (l ∷ ls)

pub data ShiftLinked : List Tree → List ShiftLink → Type 0 where
  no_links : ShiftLinked [] []
  one_link : {t : Piece} {m : Mark} {l : ShiftLink} {vs : List Tree} {ls : List ShiftLink} → t.token.sort ≡ sort.Mark m → shift_of m ≡ Some l.left → ShiftLinked vs ls
      → ShiftLinked (token t ∷ width l.by ∷ vs) (l ∷ ls)

-- `Builds s vs v`: a phrase of the symbol s whose parts are vs stands for v. One case for each alternative.
pub data Builds : Symbol → List Tree → Tree → Type 0 where
  name_is : {t : Piece} → Builds symbol.Name (token t ∷ []) (name (name_of t))
  main_name_is : {t : Piece} → Builds symbol.MainName (token t ∷ []) (name (name_of t))
  width_is : {t : Piece} {n : ℤ} → t.token.sort ≡ sort.Int n → Builds symbol.Width (token t ∷ []) (width (record { value = n; place = t.token.place }))
  wire_is : {t : Piece} {w : Word} {c : Class} → t.token.sort ≡ sort.Word w → class_of w ≡ Some c → Builds symbol.Wire (token t ∷ []) (wire c t.token.place)
  num_is : {t : Piece} {w : Word} {n : NumSort} → t.token.sort ≡ sort.Word w → number_of w ≡ Some n → Builds symbol.Num (token t ∷ []) (num n t.token.place)
  -- expressions
  int_is : {t : Piece} {n : ℤ} → t.token.sort ≡ sort.Int n → Builds symbol.Prim (token t ∷ []) (expr (at t.token.place (node.Int n)))
  decimal_is : {t : Piece} {d : Fixed} → t.token.sort ≡ sort.Decimal d → Builds symbol.Prim (token t ∷ []) (expr (at t.token.place (node.Decimal d)))
  named_is : {vs : List Tree} {n : Name} → kept vs ≡ name n ∷ [] → Builds symbol.Prim vs (expr (at n.place (node.Name n.text)))
  index_is : {vs : List Tree} {n : Name} {i : Box Expr Global} → kept vs ≡ name n ∷ expr i.value ∷ [] → Builds symbol.Prim vs (expr (at n.place (node.Index n.text i)))
  paren_is : {t u : Piece} {e : Box Expr Global} → Builds symbol.Prim (token t ∷ expr e.value ∷ token u ∷ []) (expr (at t.token.place (node.Paren e)))
  unary_is : {t : Piece} {m : Mark} {o : UnOp} {e : Box Expr Global} → t.token.sort ≡ sort.Mark m → unary_of m ≡ Some o → Builds symbol.Unary (token t ∷ expr e.value ∷ []) (expr (at t.token.place (node.Unary o e)))
  prim_is : {e : Expr} → Builds symbol.Unary (expr e ∷ []) (expr e)
  operand_is : (l : Level) {e : Expr} → Builds (chain_of l) (expr e ∷ []) (expr e)
  chain_is : (l : Level) {e : Box Expr Global} {vs : List Tree} (ls : Vec Link Global) → Linked l vs ls.items → ls.items ≢ []
      → Builds (chain_of l) (expr e.value ∷ vs) (expr (at e.value.place (node.Chain e ls)))
  or_is : {e : Expr} → Builds symbol.Expr (expr e ∷ []) (expr e)
  pick_is : {t u : Piece} {c e f : Box Expr Global} → Builds symbol.Expr (expr c.value ∷ token t ∷ expr e.value ∷ token u ∷ expr f.value ∷ []) (expr (at c.value.place (node.Pick c e f)))
  -- statements
  decl_is : {vs : List Tree} {d : Decl} → kept vs ≡ name d.name ∷ if_there expr d.size → Builds symbol.Decl vs (decl d)
  init_is : {vs : List Tree} {i : Init} → kept vs ≡ name i.name ∷ if_there expr i.start → Builds symbol.Init vs (init i)
  meas_is : {vs : List Tree} {t : Piece} {g : GateName} {o : Operand} → t.token.sort ≡ sort.Gate g → gate_kind g ≡ Measuring → kept vs ≡ name o.name ∷ if_there expr o.index
      → Builds symbol.Meas (token t ∷ vs) (meas g o)
  set_is : {n : Name} {t : Piece} {m : Mark} {o : SetOp} {e : Expr} → t.token.sort ≡ sort.Mark m → set_of m ≡ Some o
      → Builds symbol.Set (name n ∷ token t ∷ expr e ∷ []) (stmt (does n.place (act.Set (record { name = n; op = o; place = t.token.place; value = Some e }))))
  stepped_is : {n : Name} {t : Piece} {m : Mark} {o : SetOp} → t.token.sort ≡ sort.Mark m → step_of m ≡ Some o
      → Builds symbol.Set (name n ∷ token t ∷ []) (stmt (does n.place (act.Set (record { name = n; op = o; place = t.token.place; value = None }))))
  step_is : {n : Name} {t : Piece} {m : Mark} {o : SetOp} → t.token.sort ≡ sort.Mark m → step_of m ≡ Some o
      → Builds symbol.Set (token t ∷ name n ∷ []) (stmt (does t.token.place (act.Set (record { name = n; op = o; place = t.token.place; value = None }))))
  measured_is : {vs : List Tree} {n : Name} {i : Option Expr} {g : GateName} {o : Operand} → kept vs ≡ name n ∷ (if_there expr i ++ meas g o ∷ [])
      → Builds symbol.Set vs (stmt (does n.place (act.Measure (record { gate = g; into = record { name = n; index = i }; from = o }))))
  setting_is : {vs : List Tree} {s : Stmt} → Builds symbol.Set vs (stmt s) → Builds symbol.Step vs (stmt s)
  call_is : {n : Name} {t : Piece} {vs : List Tree} {es : List Expr} → t.token.sort ≡ sort.Mark mark.OpenParen → kept vs ≡ each expr es
      → Builds symbol.Step (name n ∷ token t ∷ vs) (stmt (does n.place (act.Call (record { callee = callee.Named n.text; place = n.place; args = es }))))
  gate_is : {t : Piece} {g : GateName} {vs : List Tree} {es : List Expr} → t.token.sort ≡ sort.Gate g → kept vs ≡ each expr es
      → Builds symbol.Step (token t ∷ vs) (stmt (does t.token.place (act.Call (record { callee = callee.Gate g; place = t.token.place; args = es }))))
  start_numbers : {vs : List Tree} {n : NumSort} {p : Place} {is : List Init} → kept vs ≡ num n p ∷ each init is → Builds symbol.Start vs (stmt (does p (act.Numbers n is)))
  start_set : {s : Stmt} → Builds symbol.Start (stmt s ∷ []) (stmt s)
  wires_is : {vs : List Tree} {c : Class} {p : Place} {ds : List Decl} → kept vs ≡ wire c p ∷ each decl ds → Builds symbol.Stmt vs (stmt (does p (act.Wires c ds)))
  numbers_is : {vs : List Tree} {n : NumSort} {p : Place} {is : List Init} → kept vs ≡ num n p ∷ each init is → Builds symbol.Stmt vs (stmt (does p (act.Numbers n is)))
  done_is : {s : Stmt} {u : Piece} → Builds symbol.Stmt (stmt s ∷ token u ∷ []) (stmt s)
  empty_is : {t : Piece} → t.token.sort ≡ sort.Mark mark.Semicolon → Builds symbol.Stmt (token t ∷ []) (stmt (does t.token.place act.Empty))
  block_is : {t : Piece} {vs : List Tree} (ss : Vec Stmt Global) → t.token.sort ≡ sort.Mark mark.OpenBrace → kept vs ≡ each stmt ss.items
      → Builds symbol.Stmt (token t ∷ vs) (stmt (does t.token.place (act.Block ss)))
  if_is : {t : Piece} {vs : List Tree} {e : Expr} {s : Box Stmt Global} → t.token.sort ≡ sort.Word reserved.If → kept vs ≡ expr e ∷ stmt s.value ∷ []
      → Builds symbol.Stmt (token t ∷ vs) (stmt (does t.token.place (act.If e s None)))
  if_else_is : {t : Piece} {vs : List Tree} {e : Expr} {s o : Box Stmt Global} → t.token.sort ≡ sort.Word reserved.If → kept vs ≡ expr e ∷ stmt s.value ∷ stmt o.value ∷ []
      → Builds symbol.Stmt (token t ∷ vs) (stmt (does t.token.place (act.If e s (Some o))))
  while_is : {t : Piece} {vs : List Tree} {e : Expr} {s : Box Stmt Global} → t.token.sort ≡ sort.Word reserved.While → kept vs ≡ expr e ∷ stmt s.value ∷ []
      → Builds symbol.Stmt (token t ∷ vs) (stmt (does t.token.place (act.While e s)))
  for_is : (t u v w x : Piece) (a c : Option (Box Stmt Global)) (b : Option Expr) (s : Box Stmt Global) → t.token.sort ≡ sort.Word reserved.For
      → Builds symbol.Stmt (token t ∷ token u ∷ (if_there (λ y. stmt y.value) a ++ token v ∷ (if_there expr b ++ token w ∷ (if_there (λ y. stmt y.value) c ++ token x ∷ stmt s.value ∷ []))))
      (stmt (does t.token.place (act.For a b c s)))
  -- modules
  one_is : {c : Class} {p : Place} {n : Name} → Builds symbol.Param (wire c p ∷ name n ∷ []) (param (record { name = n; sort = psort.One c }))
  pointer_is : {c : Class} {p : Place} {n : Name} {t : Piece} → Builds symbol.Param (wire c p ∷ token t ∷ name n ∷ []) (param (record { name = n; sort = psort.Many c None }))
  array_is : {c : Class} {p : Place} {n : Name} {t : Piece} {vs : List Tree} {e : Option Expr} → kept vs ≡ if_there expr e
      → Builds symbol.Param (wire c p ∷ name n ∷ token t ∷ vs) (param (record { name = n; sort = psort.Many c e }))
  int_param_is : {p : Place} {n : Name} → Builds symbol.Param (num number.Int p ∷ name n ∷ []) (param (record { name = n; sort = psort.Int }))
  double_param_is : {p : Place} {n : Name} → Builds symbol.Param (num number.Double p ∷ name n ∷ []) (param (record { name = n; sort = psort.Double }))
  module_is : {vs : List Tree} {x : ModuleTree} → kept vs ≡ name x.name ∷ (each param x.params ++ each stmt x.body) → Builds symbol.Module vs (part (part_of.Module x))
  -- classical functions
  word_int_is : {t : Piece} {n : ℤ} → t.token.sort ≡ sort.Int n → Builds symbol.WPrim (token t ∷ []) (word_expr (word_at t.token.place (wnode.Int n)))
  word_name_is : {t : Piece} → t.token.sort ≡ sort.Name → Builds symbol.WPrim (token t ∷ []) (word_expr (word_at t.token.place (wnode.Name t.text)))
  word_paren_is : {t u : Piece} {e : Box WordExpr Global} → Builds symbol.WPrim (token t ∷ word_expr e.value ∷ token u ∷ []) (word_expr (word_at t.token.place (wnode.Paren e)))
  ext_is : {t u v x : Piece} {e : Box WordExpr Global} {n : WidthTree} → kind t ≡ Ext
      → Builds symbol.WPrim (token t ∷ token u ∷ word_expr e.value ∷ token v ∷ width n ∷ token x ∷ []) (word_expr (word_at t.token.place (wnode.Ext e n)))
  low_is : {t u v x : Piece} {e : Box WordExpr Global} {n : WidthTree} → kind t ≡ Low
      → Builds symbol.WPrim (token t ∷ token u ∷ word_expr e.value ∷ token v ∷ width n ∷ token x ∷ []) (word_expr (word_at t.token.place (wnode.Low e n)))
  not_is : {t : Piece} {e : Box WordExpr Global} → Builds symbol.WUnary (token t ∷ word_expr e.value ∷ []) (word_expr (word_at t.token.place (wnode.Not e)))
  word_prim_is : {e : WordExpr} → Builds symbol.WUnary (word_expr e ∷ []) (word_expr e)
  word_operand_is : (l : WordLevel) {e : WordExpr} → Builds (word_chain_of l) (word_expr e ∷ []) (word_expr e)
  word_chain_is : (l : WordLevel) {e : Box WordExpr Global} {vs : List Tree} (ls : Vec WordLink Global) → WordLinked l vs ls.items → ls.items ≢ []
      → Builds (word_chain_of l) (word_expr e.value ∷ vs) (word_expr (word_at e.value.place (wnode.Chain e ls)))
  word_sum_is : {e : WordExpr} → Builds symbol.WShift (word_expr e ∷ []) (word_expr e)
  shift_is : {e : Box WordExpr Global} {vs : List Tree} {ls : List ShiftLink} → ShiftLinked vs ls → ls ≢ []
      → Builds symbol.WShift (word_expr e.value ∷ vs) (word_expr (word_at e.value.place (wnode.Shift e ls)))
  word_or_is : {e : WordExpr} → Builds symbol.WExpr (word_expr e ∷ []) (word_expr e)
  word_pick_is : {t u : Piece} {c e f : Box WordExpr Global}
      → Builds symbol.WExpr (word_expr c.value ∷ token t ∷ word_expr e.value ∷ token u ∷ word_expr f.value ∷ []) (word_expr (word_at c.value.place (wnode.Pick c e f)))
  single_is : {n : Name} → Builds symbol.WParam (name n ∷ []) (word_param (record { name = n; width = record { value = pos 1; place = n.place } }))
  word_param_is : {vs : List Tree} {x : WordParam} → kept vs ≡ name x.name ∷ width x.width ∷ [] → Builds symbol.WParam vs (word_param x)
  bind_is : {vs : List Tree} {x : BindTree} → kept vs ≡ name x.name ∷ word_expr x.value ∷ [] → Builds symbol.Bind vs (bind x)
  words_is : {vs : List Tree} {f : WordFn} → kept vs ≡ name f.name ∷ (each word_param f.params ++ width f.width ∷ (each bind f.binds ++ word_expr f.result ∷ []))
      → Builds symbol.Words vs (part (part_of.Words f))

-- `Derives f ts rest vs`: what stands in ts before rest is a phrase of f, and vs are its parts.
pub data Derives : Form → List Piece → List Piece → List Tree → Type 0 where
  nothing : {ts : List Piece} → Derives empty ts ts []
  one_token : {k : Terminal} {t : Piece} {ts : List Piece} → fits k (kind t) ≡ true → Derives (one k) (t ∷ ts) ts (token t ∷ [])
  both : {f g : Form} {ts mid rest : List Piece} {vs ws : List Tree} → Derives f ts mid vs → Derives g mid rest ws → Derives (f ⨾ g) ts rest (vs ++ ws)
  left : {f g : Form} {ts rest : List Piece} {vs : List Tree} → Derives f ts rest vs → Derives (f ∣ g) ts rest vs
  right : {f g : Form} {ts rest : List Piece} {vs : List Tree} → Derives g ts rest vs → Derives (f ∣ g) ts rest vs
  no_more : {f : Form} {ts : List Piece} → Derives (many f) ts ts []
  more : {f : Form} {ts mid rest : List Piece} {vs ws : List Tree} → Derives f ts mid vs → Derives (many f) mid rest ws → Derives (many f) ts rest (vs ++ ws)
  deeper : {f : Form} {ts rest : List Piece} {vs : List Tree} → Derives f ts rest vs → Derives (nested f) ts rest vs
  not_next : {k : Terminal} {ts : List Piece} → ahead (fits k) (next ts) ≡ false → Derives (unless k) ts ts []
  built : {s : Symbol} {ts rest : List Piece} {vs : List Tree} {v : Tree} → Derives (rule s) ts rest vs → Builds s vs v → Derives (sub s) ts rest (v ∷ [])
