-- What parts of a phrase stand for, read off the parts without their addresses. Where nothing fits it is `junk`.
use Rattle.std.proofs.Common.{pos, Bool, true, false, List, [], ◌∷◌, Option, Some, None}
use Rattle.sc_base.specs.declared.Class.{Class}
use Rattle.sc_base.specs.declared.GateName.{GateName}
use Rattle.sc_base.specs.declared.Place.{Place}
use Rattle.sc_syntax.specs.declared.Mark.{Mark}
use Rattle.sc_syntax.specs.declared.Mark.TheVariants as mark
use Rattle.sc_syntax.specs.declared.Word.{Word}
use Rattle.sc_syntax.specs.declared.Word.TheVariants as reserved
use Rattle.sc_syntax.specs.declared.TokenSort.{TokenSort}
use Rattle.sc_syntax.specs.declared.TokenSort.TheVariants as sort
use Rattle.sc_syntax.specs.declared.NumSort.{NumSort}
use Rattle.sc_syntax.specs.declared.NumSort.TheVariants as number
use Rattle.sc_syntax.specs.declared.UnOp.{UnOp}
use Rattle.sc_syntax.specs.declared.BinOp.{BinOp}
use Rattle.sc_syntax.specs.declared.WordOp.{WordOp}
use Rattle.sc_syntax.specs.declared.SetOp.{SetOp}
use Rattle.sc_syntax.specs.declared.Name.{Name}
use Rattle.sc_syntax.specs.declared.Width.{Width}
use Rattle.sc_syntax.specs.declared.ShiftLink.{ShiftLink}
use Rattle.sc_syntax.specs.declared.WordParam.{WordParam}
use Rattle.sc_syntax.specs.declared.Callee.TheVariants as callee
use Rattle.sc_syntax.specs.Alike.{PureNode, PureLinks, PureExpr, PureNamed, PureAct, PureHeld, PureStmts, PureStmt, PureWord, PureWordLinks, PureWordExpr, PureBind, PureSort, PureParam, PurePart}
use Rattle.sc_parse.specs.declared.terminal.Terminal.{Terminal}
use Rattle.sc_parse.specs.declared.terminal.Terminal.TheVariants.{Ext, Low}
use Rattle.sc_parse.specs.Form.{Symbol}
use Rattle.sc_parse.specs.Form as symbol
use Rattle.sc_parse.specs.Pieces.{Piece, kind}
use Rattle.sc_parse.specs.Trees.{name_of, class_of, number_of, unary_of, binary_of, word_binary_of, shift_of, set_of, step_of}
use Rattle.sc_parse.proofs.PureTrees.{PureTree, junk, token, name, width, wire, num, expr, decl, init, stmt, meas, param, part, word_expr, word_param, bind, keep}

-- ---- tokens

-- what a mark means
abbrev pub of_mark : {X : Type 0} → (Mark → Option X) → TokenSort → Option X
of_mark f (sort.Mark m) = f m
of_mark f _ = None

-- what a word means
abbrev pub of_word : {X : Type 0} → (Word → Option X) → TokenSort → Option X
of_word f (sort.Word w) = f w
of_word f _ = None

-- the gate that a token names
abbrev pub of_gate : TokenSort → Option GateName
of_gate (sort.Gate g) = Some g
of_gate _ = None

-- a mark that opens the arguments of a call
abbrev pub opens_mark : Mark → Bool
opens_mark mark.OpenParen = true
opens_mark _ = false

-- a token that opens the arguments of a call
abbrev pub opens : TokenSort → Bool
opens (sort.Mark m) = opens_mark m
opens _ = false

-- ---- lists of parts

-- one expression alone, if that is all
abbrev pub the_expr : List PureTree → Option PureExpr
the_expr (expr e ∷ []) = Some e
the_expr _ = None

-- the expressions in front
abbrev pub the_exprs : List PureTree → List PureExpr
the_exprs (expr e ∷ vs) = e ∷ the_exprs vs
the_exprs _ = []

-- the declared wires in front
abbrev pub the_decls : List PureTree → List PureNamed
the_decls (decl d ∷ vs) = d ∷ the_decls vs
the_decls _ = []

-- the declared numbers in front
abbrev pub the_inits : List PureTree → List PureNamed
the_inits (init i ∷ vs) = i ∷ the_inits vs
the_inits _ = []

-- the statements in front
abbrev pub the_stmts : List PureTree → PureStmts
the_stmts (stmt s ∷ vs) = PureStmts.stmt s.place s.act (the_stmts vs)
the_stmts _ = PureStmts.no_stmts

-- the parameters in front
abbrev pub the_params : List PureTree → List PureParam
the_params (param p ∷ vs) = p ∷ the_params vs
the_params _ = []

-- the statements behind the parameters
abbrev pub the_body : List PureTree → List PureStmt
the_body (param p ∷ vs) = the_body vs
the_body (stmt s ∷ vs) = s ∷ the_body vs
the_body _ = []

-- the parameters of a classical function in front
abbrev pub the_word_params : List PureTree → List WordParam
the_word_params (word_param p ∷ vs) = p ∷ the_word_params vs
the_word_params _ = []

-- the width behind the parameters
abbrev pub the_width : List PureTree → Option Width
the_width (word_param p ∷ vs) = the_width vs
the_width (width w ∷ vs) = Some w
the_width _ = None

-- the bindings behind the width
abbrev pub the_binds : List PureTree → List PureBind
the_binds (word_param p ∷ vs) = the_binds vs
the_binds (width w ∷ vs) = the_binds vs
the_binds (bind b ∷ vs) = b ∷ the_binds vs
the_binds _ = []

-- the result behind the bindings
abbrev pub the_result : List PureTree → Option PureWordExpr
the_result (word_param p ∷ vs) = the_result vs
the_result (width w ∷ vs) = the_result vs
the_result (bind b ∷ vs) = the_result vs
the_result (word_expr e ∷ vs) = Some e
the_result _ = None

-- the parts of a source
abbrev pub the_parts : List PureTree → List PurePart
the_parts (part p ∷ vs) = p ∷ the_parts vs
the_parts _ = []

-- ---- operators and operands

-- an operator and its operand before further ones
abbrev pub add_link : Option BinOp → Place → PureExpr → PureLinks → PureLinks
add_link (Some o) at e ls = PureLinks.link o at e.place e.node ls
add_link None at e ls = PureLinks.no_links

-- the operators and operands in front
abbrev pub the_links : List PureTree → PureLinks
the_links (token t ∷ expr e ∷ vs) = add_link (of_mark binary_of t.token.sort) t.token.place e (the_links vs)
the_links _ = PureLinks.no_links

-- an operator on words and its operand before further ones
abbrev pub add_word_link : Option WordOp → Place → PureWordExpr → PureWordLinks → PureWordLinks
add_word_link (Some o) at e ls = PureWordLinks.link o at e.place e.node ls
add_word_link None at e ls = PureWordLinks.no_links

-- the operators on words and operands in front
abbrev pub the_word_links : List PureTree → PureWordLinks
the_word_links (token t ∷ word_expr e ∷ vs) = add_word_link (of_mark word_binary_of t.token.sort) t.token.place e (the_word_links vs)
the_word_links _ = PureWordLinks.no_links

-- a shift before further ones
abbrev pub add_shift : Option Bool → Width → List ShiftLink → List ShiftLink
add_shift (Some b) w ls = record { left = b; by = w } ∷ ls
add_shift None w ls = []

-- the shifts in front
abbrev pub the_shifts : List PureTree → List ShiftLink
the_shifts (token t ∷ width w ∷ vs) = add_shift (of_mark shift_of t.token.sort) w (the_shifts vs)
the_shifts _ = []

-- ---- names and numbers

-- a name
abbrev pub build_name : List PureTree → PureTree
build_name (token t ∷ []) = name (name_of t)
build_name _ = junk

-- a width at this place, by its token
abbrev pub width_by : Place → TokenSort → PureTree
width_by p (sort.Int n) = width (record { value = n; place = p })
width_by p _ = junk

-- a width
abbrev pub build_width : List PureTree → PureTree
build_width (token t ∷ []) = width_by t.token.place t.token.sort
build_width _ = junk

-- a class of wires at this place
abbrev pub wire_by : Place → Option Class → PureTree
wire_by p (Some c) = wire c p
wire_by p None = junk

-- a class of wires
abbrev pub build_wire : List PureTree → PureTree
build_wire (token t ∷ []) = wire_by t.token.place (of_word class_of t.token.sort)
build_wire _ = junk

-- a kind of numbers at this place
abbrev pub num_by : Place → Option NumSort → PureTree
num_by p (Some n) = num n p
num_by p None = junk

-- a kind of numbers
abbrev pub build_num : List PureTree → PureTree
build_num (token t ∷ []) = num_by t.token.place (of_word number_of t.token.sort)
build_num _ = junk

-- ---- expressions

-- an expression at this place
abbrev pub at : Place → PureNode → PureTree
at p n = expr (record { place = p; node = n })

-- a number at this place, by its token
abbrev pub number_by : Place → TokenSort → PureTree
number_by p (sort.Int n) = at p (PureNode.int n)
number_by p (sort.Decimal d) = at p (PureNode.decimal d)
number_by p _ = junk

-- a number or brackets, by all parts
abbrev pub prim_all : List PureTree → PureTree
prim_all (token t ∷ []) = number_by t.token.place t.token.sort
prim_all (token t ∷ expr e ∷ vs) = at t.token.place (PureNode.paren e.place e.node)
prim_all _ = junk

-- an operand without operators, by the kept parts and by all parts
abbrev pub prim_by : List PureTree → List PureTree → PureTree
prim_by (name n ∷ []) vs = at n.place (PureNode.name n.text)
prim_by (name n ∷ expr i ∷ ks) vs = at n.place (PureNode.index n.text i.place i.node)
prim_by _ vs = prim_all vs

-- an operand behind an operator
abbrev pub unary_by : Place → Option UnOp → PureExpr → PureTree
unary_by p (Some o) e = at p (PureNode.unary o e.place e.node)
unary_by p None e = junk

-- an operand with the operators before it
abbrev pub build_unary : List PureTree → PureTree
build_unary (token t ∷ expr e ∷ vs) = unary_by t.token.place (of_mark unary_of t.token.sort) e
build_unary (expr e ∷ vs) = expr e
build_unary _ = junk

-- a chain, or its operand alone
abbrev pub build_chain : List PureTree → PureTree
build_chain (expr e ∷ []) = expr e
build_chain (expr e ∷ v ∷ vs) = at e.place (PureNode.chain e.place e.node (the_links (v ∷ vs)))
build_chain _ = junk

-- a choice between two expressions, or an expression alone
abbrev pub build_expr : List PureTree → PureTree
build_expr (expr c ∷ token t ∷ expr e ∷ token u ∷ expr f ∷ vs) = at c.place (PureNode.pick c.place c.node e.place e.node f.place f.node)
build_expr (expr e ∷ vs) = expr e
build_expr _ = junk

-- ---- statements

-- a statement at this place
abbrev pub does : Place → PureAct → PureTree
does p a = stmt (record { place = p; act = a })

-- a declared wire, by the kept parts
abbrev pub decl_by : List PureTree → PureTree
decl_by (name n ∷ ks) = decl (record { name = n; value = the_expr ks })
decl_by _ = junk

-- a declared number, by the kept parts
abbrev pub init_by : List PureTree → PureTree
init_by (name n ∷ ks) = init (record { name = n; value = the_expr ks })
init_by _ = junk

-- a measurement, by its gate and the kept parts behind it
abbrev pub meas_by : Option GateName → List PureTree → PureTree
meas_by (Some g) (name n ∷ ks) = meas g (record { name = n; value = the_expr ks })
meas_by _ _ = junk

-- a measurement
abbrev pub build_meas : List PureTree → PureTree
build_meas (token t ∷ vs) = meas_by (of_gate t.token.sort) (keep vs)
build_meas _ = junk

-- a name is set
abbrev pub setting : Place → Name → Place → Option PureExpr → Option SetOp → PureTree
setting p n at e (Some o) = does p (PureAct.set n o at e)
setting p n at e None = junk

-- a name is set by a number or a step, by all parts
abbrev pub set_all : List PureTree → PureTree
set_all (name n ∷ token t ∷ []) = setting n.place n t.token.place None (of_mark step_of t.token.sort)
set_all (name n ∷ token t ∷ expr e ∷ vs) = setting n.place n t.token.place (Some e) (of_mark set_of t.token.sort)
set_all (token t ∷ name n ∷ vs) = setting t.token.place n t.token.place None (of_mark step_of t.token.sort)
set_all _ = junk

-- a name is set by a measurement
abbrev pub measured : Name → Option PureExpr → GateName → PureNamed → PureTree
measured n i g o = does n.place (PureAct.measure g (record { name = n; value = i }) o)

-- a name is set, by the kept parts and by all parts
abbrev pub set_by : List PureTree → List PureTree → PureTree
set_by (name n ∷ meas g o ∷ ks) vs = measured n None g o
set_by (name n ∷ expr e ∷ meas g o ∷ ks) vs = measured n (Some e) g o
set_by _ vs = set_all vs

-- a step that begins with a name and this token: a call, where the token opens arguments
abbrev pub named_step : Name → Piece → List PureTree → Bool → PureTree
named_step n t vs true = does n.place (PureAct.call (callee.Named n.text) n.place (the_exprs (keep vs)))
named_step n t vs false = set_all (name n ∷ token t ∷ vs)

-- a step that begins with this token: a call, where the token is a gate
abbrev pub token_step : Piece → List PureTree → Option GateName → PureTree
token_step t vs (Some g) = does t.token.place (PureAct.call (callee.Gate g) t.token.place (the_exprs (keep vs)))
token_step t vs None = set_all (token t ∷ vs)

-- a step that measures nothing, by all parts
abbrev pub step_all : List PureTree → PureTree
step_all (name n ∷ token t ∷ vs) = named_step n t vs (opens t.token.sort)
step_all (token t ∷ vs) = token_step t vs (of_gate t.token.sort)
step_all _ = junk

-- a step, by the kept parts and by all parts
abbrev pub step_by : List PureTree → List PureTree → PureTree
step_by (name n ∷ meas g o ∷ ks) vs = measured n None g o
step_by (name n ∷ expr e ∷ meas g o ∷ ks) vs = measured n (Some e) g o
step_by _ vs = step_all vs

-- the start of a `for`, by the kept parts
abbrev pub start_by : List PureTree → PureTree
start_by (num n p ∷ ks) = does p (PureAct.numbers n (the_inits ks))
start_by (stmt s ∷ ks) = stmt s
start_by _ = junk

-- an `if` at this place, by the kept parts behind its word
abbrev pub if_by : Place → List PureTree → PureTree
if_by p (expr e ∷ stmt s ∷ []) = does p (PureAct.if_else e s.place s.act PureHeld.absent)
if_by p (expr e ∷ stmt s ∷ stmt o ∷ ks) = does p (PureAct.if_else e s.place s.act (PureHeld.held o.place o.act))
if_by p _ = junk

-- a `while` at this place, by the kept parts behind its word
abbrev pub while_by : Place → List PureTree → PureTree
while_by p (expr e ∷ stmt s ∷ ks) = does p (PureAct.while_loop e s.place s.act)
while_by p _ = junk

-- the advance and the body of a `for`
abbrev pub for_last : Place → PureHeld → Option PureExpr → List PureTree → PureTree
for_last p a b (stmt c ∷ token x ∷ stmt s ∷ vs) = does p (PureAct.for_loop a b (PureHeld.held c.place c.act) s.place s.act)
for_last p a b (token x ∷ stmt s ∷ vs) = does p (PureAct.for_loop a b PureHeld.absent s.place s.act)
for_last p a b _ = junk

-- what follows the start of a `for`
abbrev pub for_test : Place → PureHeld → List PureTree → PureTree
for_test p a (expr b ∷ token w ∷ vs) = for_last p a (Some b) vs
for_test p a (token w ∷ vs) = for_last p a None vs
for_test p a _ = junk

-- a `for` at this place, by the parts behind its word
abbrev pub for_by : Place → List PureTree → PureTree
for_by p (token u ∷ stmt a ∷ token v ∷ vs) = for_test p (PureHeld.held a.place a.act) vs
for_by p (token u ∷ token v ∷ vs) = for_test p PureHeld.absent vs
for_by p _ = junk

-- a statement at this place that begins with this mark
abbrev pub mark_stmt : Place → List PureTree → Mark → PureTree
mark_stmt p vs mark.Semicolon = does p PureAct.empty
mark_stmt p vs mark.OpenBrace = does p (PureAct.block (the_stmts (keep vs)))
mark_stmt p vs _ = junk

-- a statement at this place that begins with this word
abbrev pub word_stmt : Place → List PureTree → Word → PureTree
word_stmt p vs reserved.If = if_by p (keep vs)
word_stmt p vs reserved.While = while_by p (keep vs)
word_stmt p vs reserved.For = for_by p vs
word_stmt p vs _ = junk

-- a statement at this place that begins with this token
abbrev pub token_stmt : Place → List PureTree → TokenSort → PureTree
token_stmt p vs (sort.Mark m) = mark_stmt p vs m
token_stmt p vs (sort.Word w) = word_stmt p vs w
token_stmt p vs _ = junk

-- a statement that declares nothing, by all parts
abbrev pub stmt_all : List PureTree → PureTree
stmt_all (stmt s ∷ vs) = stmt s
stmt_all (token t ∷ vs) = token_stmt t.token.place vs t.token.sort
stmt_all _ = junk

-- a statement, by the kept parts and by all parts
abbrev pub stmt_by : List PureTree → List PureTree → PureTree
stmt_by (wire c p ∷ ks) vs = does p (PureAct.wires c (the_decls ks))
stmt_by (num n p ∷ ks) vs = does p (PureAct.numbers n (the_inits ks))
stmt_by _ vs = stmt_all vs

-- ---- modules

-- a parameter
abbrev pub param_of : Name → PureSort → PureTree
param_of n s = param (record { name = n; sort = s })

-- what a parameter of numbers takes
abbrev pub number_param : NumSort → PureSort
number_param number.Int = PureSort.int
number_param number.Double = PureSort.double

-- a parameter of a module
abbrev pub build_param : List PureTree → PureTree
build_param (wire c p ∷ name n ∷ []) = param_of n (PureSort.one c)
build_param (wire c p ∷ name n ∷ token t ∷ vs) = param_of n (PureSort.many c (the_expr (keep vs)))
build_param (wire c p ∷ token t ∷ name n ∷ vs) = param_of n (PureSort.many c None)
build_param (num s p ∷ name n ∷ vs) = param_of n (number_param s)
build_param _ = junk

-- a module, by the kept parts
abbrev pub module_by : List PureTree → PureTree
module_by (name n ∷ ks) = part (PurePart.of_module n (the_params ks) (the_body ks))
module_by _ = junk

-- ---- classical functions

-- a word at this place
abbrev pub word_at : Place → PureWord → PureTree
word_at p n = word_expr (record { place = p; node = n })

-- a word that is one token
abbrev pub word_token : Piece → TokenSort → PureTree
word_token t (sort.Int n) = word_at t.token.place (PureWord.int n)
word_token t sort.Name = word_at t.token.place (PureWord.name t.text)
word_token t _ = junk

-- a word that is made longer or shorter, by what its first token is to the grammar
abbrev pub resized : Place → PureWordExpr → Width → Terminal → PureTree
resized p e w Ext = word_at p (PureWord.ext e.place e.node w)
resized p e w Low = word_at p (PureWord.low e.place e.node w)
resized p e w _ = junk

-- a word without operators
abbrev pub build_word_prim : List PureTree → PureTree
build_word_prim (token t ∷ []) = word_token t t.token.sort
build_word_prim (token t ∷ word_expr e ∷ vs) = word_at t.token.place (PureWord.paren e.place e.node)
build_word_prim (token t ∷ token u ∷ word_expr e ∷ token v ∷ width w ∷ vs) = resized t.token.place e w (kind t)
build_word_prim _ = junk

-- a word with the operators before it
abbrev pub build_word_unary : List PureTree → PureTree
build_word_unary (token t ∷ word_expr e ∷ vs) = word_at t.token.place (PureWord.not e.place e.node)
build_word_unary (word_expr e ∷ vs) = word_expr e
build_word_unary _ = junk

-- a chain of words, or its operand alone
abbrev pub build_word_chain : List PureTree → PureTree
build_word_chain (word_expr e ∷ []) = word_expr e
build_word_chain (word_expr e ∷ v ∷ vs) = word_at e.place (PureWord.chain e.place e.node (the_word_links (v ∷ vs)))
build_word_chain _ = junk

-- a word with its shifts
abbrev pub build_shift : List PureTree → PureTree
build_shift (word_expr e ∷ []) = word_expr e
build_shift (word_expr e ∷ v ∷ vs) = word_at e.place (PureWord.shift e.place e.node (the_shifts (v ∷ vs)))
build_shift _ = junk

-- a choice between two words, or a word alone
abbrev pub build_word : List PureTree → PureTree
build_word (word_expr c ∷ token t ∷ word_expr e ∷ token u ∷ word_expr f ∷ vs) = word_at c.place (PureWord.pick c.place c.node e.place e.node f.place f.node)
build_word (word_expr e ∷ vs) = word_expr e
build_word _ = junk

-- a parameter of a classical function, by the kept parts
abbrev pub word_param_by : List PureTree → PureTree
word_param_by (name n ∷ []) = word_param (record { name = n; width = record { value = pos 1; place = n.place } })
word_param_by (name n ∷ width w ∷ ks) = word_param (record { name = n; width = w })
word_param_by _ = junk

-- a binding, by the kept parts
abbrev pub bind_by : List PureTree → PureTree
bind_by (name n ∷ word_expr e ∷ ks) = bind (record { name = n; value = e })
bind_by _ = junk

-- a classical function, where its width and its result are there
abbrev pub words_of : Name → List WordParam → Option Width → List PureBind → Option PureWordExpr → PureTree
words_of n ps (Some w) bs (Some r) = part (PurePart.of_words n ps w bs r)
words_of n ps _ bs _ = junk

-- a classical function, by the kept parts
abbrev pub words_by : List PureTree → PureTree
words_by (name n ∷ ks) = words_of n (the_word_params ks) (the_width ks) (the_binds ks) (the_result ks)
words_by _ = junk

-- ---- symbols

-- what a phrase of the symbol with these parts stands for
abbrev pub build : Symbol → List PureTree → PureTree
build symbol.Module vs = module_by (keep vs)
build symbol.Param vs = build_param vs
build symbol.Wire vs = build_wire vs
build symbol.Num vs = build_num vs
build symbol.Stmt vs = stmt_by (keep vs) vs
build symbol.Decl vs = decl_by (keep vs)
build symbol.Init vs = init_by (keep vs)
build symbol.Start vs = start_by (keep vs)
build symbol.Set vs = set_by (keep vs) vs
build symbol.Step vs = step_by (keep vs) vs
build symbol.Meas vs = build_meas vs
build symbol.Expr vs = build_expr vs
build symbol.Or vs = build_chain vs
build symbol.And vs = build_chain vs
build symbol.Equal vs = build_chain vs
build symbol.Order vs = build_chain vs
build symbol.Shift vs = build_chain vs
build symbol.Sum vs = build_chain vs
build symbol.Prod vs = build_chain vs
build symbol.Unary vs = build_unary vs
build symbol.Prim vs = prim_by (keep vs) vs
build symbol.Words vs = words_by (keep vs)
build symbol.WParam vs = word_param_by (keep vs)
build symbol.Bind vs = bind_by (keep vs)
build symbol.WExpr vs = build_word vs
build symbol.WOr vs = build_word_chain vs
build symbol.WXor vs = build_word_chain vs
build symbol.WAnd vs = build_word_chain vs
build symbol.WEq vs = build_word_chain vs
build symbol.WLess vs = build_word_chain vs
build symbol.WShift vs = build_shift vs
build symbol.WSum vs = build_word_chain vs
build symbol.WProd vs = build_word_chain vs
build symbol.WUnary vs = build_word_unary vs
build symbol.WPrim vs = build_word_prim vs
build symbol.Name vs = build_name vs
build symbol.MainName vs = build_name vs
build symbol.Width vs = build_width vs
