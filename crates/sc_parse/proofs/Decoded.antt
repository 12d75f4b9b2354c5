-- Lists of parts are read off as what they are.
use Rattle.std.proofs.Common.{◌≡◌, refl, sym, ◌∙◌, ap, List, [], ◌∷◌, ◌++◌, map, Option, Some, None}
use Rattle.std.specs.Prelude.{option_map}
use mathlib.Core.Former.{Count}
use Rattle.std.specs.declared.alloc.Global.{Global}
use Rattle.std.specs.declared.boxed.Box.{Box}
use Rattle.std.specs.declared.vec.Vec.{Vec}
use Rattle.sc_base.specs.declared.Place.{Place}
use Rattle.sc_syntax.specs.declared.BinOp.{BinOp}
use Rattle.sc_syntax.specs.declared.WordOp.{WordOp}
use Rattle.sc_syntax.specs.declared.Width.{Width}
use Rattle.sc_syntax.specs.declared.Expr.{Expr}
use Rattle.sc_syntax.specs.declared.Link.{Link}
use Rattle.sc_syntax.specs.declared.tree.Node.{Chain, Row_of-Link, end_of-Link, more_of-Link, items-the_row-Link}
use Rattle.sc_syntax.specs.declared.Stmt.{Stmt}
use Rattle.sc_syntax.specs.declared.tree.Act.{Block, Row_of-Stmt, end_of-Stmt, more_of-Stmt, items-the_row-Stmt}
use Rattle.sc_syntax.specs.declared.Decl.{Decl}
use Rattle.sc_syntax.specs.declared.Init.{Init}
use Rattle.sc_syntax.specs.declared.Param.{Param}
use Rattle.sc_syntax.specs.declared.Part.{Part}
use Rattle.sc_syntax.specs.declared.WordParam.{WordParam}
use Rattle.sc_syntax.specs.declared.Bind.{Bind}
use Rattle.sc_syntax.specs.declared.WordExpr.{WordExpr}
use Rattle.sc_syntax.specs.declared.WordLink.{WordLink}
use Rattle.sc_syntax.specs.declared.ShiftLink.{ShiftLink}
use Rattle.sc_syntax.specs.declared.tree.WordNode as word
use Rattle.sc_syntax.specs.declared.tree.WordNode.{Row_of-WordLink, end_of-WordLink, more_of-WordLink, items-the_row-WordLink}
use Rattle.sc_syntax.specs.Alike.{PureLinks, PureExpr, PureNamed, PureStmts, PureParam, PureStmt, PureWordLinks, PureBind, PurePart, pure_node, pure_links, pure_expr, pure_decl, pure_init, pure_act, pure_row, pure_stmt, pure_param, pure_part, pure_word, pure_word_links, pure_word_expr, pure_bind}
use Rattle.sc_syntax.proofs.Rows.{links_of, stmts_of, word_links_of, over_links, over_stmts, over_word_links}
use Rattle.sc_parse.specs.declared.expr.Level.{Level}
use Rattle.sc_parse.specs.declared.word.WordLevel.{WordLevel}
use Rattle.sc_parse.specs.Trees as tree
use Rattle.sc_parse.specs.Trees.{Tree, each, if_there, binary_of, word_binary_of, shift_of}
use Rattle.sc_parse.specs.Derives.{Linked, WordLinked, ShiftLinked, no_links, one_link}
use Rattle.sc_parse.proofs.PureTrees.{pure}
use Rattle.sc_parse.proofs.Decode.{of_mark, the_expr, the_exprs, the_decls, the_inits, the_stmts, the_params, the_body, the_word_params, the_width, the_binds, the_result, the_parts, add_link, the_links, add_word_link, the_word_links, add_shift, the_shifts}

-- ---- parts that may be absent, and lists

-- an expression that may be absent
pub expr_there : (o : Option Expr) → option_map pure_expr o ≡ the_expr (pure (if_there tree.expr o))
expr_there None = refl
expr_there (Some e) = refl

-- expressions
pub exprs_each : (es : List Expr) → map pure_expr es ≡ the_exprs (pure (each tree.expr es))
exprs_each [] = refl
exprs_each (e ∷ es) = ap (λ (l : List PureExpr). pure_expr e ∷ l) (exprs_each es)

-- declared wires
pub decls_each : (ds : List Decl) → map pure_decl ds ≡ the_decls (pure (each tree.decl ds))
decls_each [] = refl
decls_each (d ∷ ds) = ap (λ (l : List PureNamed). pure_decl d ∷ l) (decls_each ds)

-- declared numbers
pub inits_each : (is : List Init) → map pure_init is ≡ the_inits (pure (each tree.init is))
inits_each [] = refl
inits_each (i ∷ is) = ap (λ (l : List PureNamed). pure_init i ∷ l) (inits_each is)

-- the parts of a source
pub parts_each : (ps : List Part) → map pure_part ps ≡ the_parts (pure (each tree.part ps))
parts_each [] = refl
parts_each (p ∷ ps) = ap (λ (l : List PurePart). pure_part p ∷ l) (parts_each ps)

-- ---- the parts of a module

-- statements are no parameters
params_none : (ss : List Stmt) → [] ≡ the_params (pure (each tree.stmt ss))
params_none [] = refl
params_none (s ∷ ss) = refl

-- the parameters stand before the statements
pub params_each : (ps : List Param) (ss : List Stmt) → map pure_param ps ≡ the_params (pure (each tree.param ps ++ each tree.stmt ss))
params_each [] ss = params_none ss
params_each (p ∷ ps) ss = ap (λ (l : List PureParam). pure_param p ∷ l) (params_each ps ss)

-- statements alone
body_alone : (ss : List Stmt) → map pure_stmt ss ≡ the_body (pure (each tree.stmt ss))
body_alone [] = refl
body_alone (s ∷ ss) = ap (λ (l : List PureStmt). pure_stmt s ∷ l) (body_alone ss)

-- the statements stand behind the parameters
pub body_each : (ps : List Param) (ss : List Stmt) → map pure_stmt ss ≡ the_body (pure (each tree.param ps ++ each tree.stmt ss))
body_each [] ss = body_alone ss
body_each (p ∷ ps) ss = body_each ps ss

-- ---- the parts of a classical function

-- its parts behind the name
abbrev pub words_parts : List WordParam → Width → List Bind → WordExpr → List Tree
words_parts ps w bs r = each tree.word_param ps ++ tree.width w ∷ (each tree.bind bs ++ tree.word_expr r ∷ [])

-- the parameters stand in front
pub word_params_each : (ps : List WordParam) (w : Width) (bs : List Bind) (r : WordExpr) → ps ≡ the_word_params (pure (words_parts ps w bs r))
word_params_each [] w bs r = refl
word_params_each (p ∷ ps) w bs r = ap (λ (l : List WordParam). p ∷ l) (word_params_each ps w bs r)

-- the width stands behind the parameters
pub width_there : (ps : List WordParam) (w : Width) (bs : List Bind) (r : WordExpr) → Some w ≡ the_width (pure (words_parts ps w bs r))
width_there [] w bs r = refl
width_there (p ∷ ps) w bs r = width_there ps w bs r

-- bindings before a result
binds_alone : (bs : List Bind) (r : WordExpr) → map pure_bind bs ≡ the_binds (pure (each tree.bind bs ++ tree.word_expr r ∷ []))
binds_alone [] r = refl
binds_alone (b ∷ bs) r = ap (λ (l : List PureBind). pure_bind b ∷ l) (binds_alone bs r)

-- the bindings stand behind the width
pub binds_each : (ps : List WordParam) (w : Width) (bs : List Bind) (r : WordExpr) → map pure_bind bs ≡ the_binds (pure (words_parts ps w bs r))
binds_each [] w bs r = binds_alone bs r
binds_each (p ∷ ps) w bs r = binds_each ps w bs r

-- a result behind bindings
result_alone : (bs : List Bind) (r : WordExpr) → Some (pure_word_expr r) ≡ the_result (pure (each tree.bind bs ++ tree.word_expr r ∷ []))
result_alone [] r = refl
result_alone (b ∷ bs) r = result_alone bs r

-- the result stands behind the bindings
pub result_there : (ps : List WordParam) (w : Width) (bs : List Bind) (r : WordExpr) → Some (pure_word_expr r) ≡ the_result (pure (words_parts ps w bs r))
result_there [] w bs r = result_alone bs r
result_there (p ∷ ps) w bs r = result_there ps w bs r

-- ---- blocks

-- statements of a list
abbrev stmts_list : List Stmt → PureStmts
stmts_list [] = PureStmts.no_stmts
stmts_list (s ∷ ss) = PureStmts.stmt s.place (pure_act s.act) (stmts_list ss)

-- a row of statements is its list
stmts_row : (m : Count) (row : Row_of-Stmt m) → pure_row row ≡ stmts_list (items-the_row-Stmt m row)
stmts_row m end_of-Stmt = refl
stmts_row m (more_of-Stmt p a rest) = ap (PureStmts.stmt p (pure_act a)) (stmts_row _ rest)

-- statements of a list are read off
stmts_each : (ss : List Stmt) → stmts_list ss ≡ the_stmts (pure (each tree.stmt ss))
stmts_each [] = refl
stmts_each (s ∷ ss) = ap (PureStmts.stmt s.place (pure_act s.act)) (stmts_each ss)

-- the statements of a block are read off
pub block_each : (ss : Vec Stmt Global) → pure_row (stmts_of (Block ss)).1 ≡ the_stmts (pure (each tree.stmt ss.items))
block_each ss = over_stmts (λ m row. pure_row row) stmts_list stmts_row ss ∙ stmts_each ss.items

-- ---- chains

-- operators and operands of a list
abbrev links_list : List Link → PureLinks
links_list [] = PureLinks.no_links
links_list (l ∷ ls) = PureLinks.link l.op l.place l.right.place (pure_node l.right.node) (links_list ls)

-- a row of operators and operands is its list
links_row : (m : Count) (row : Row_of-Link m) → pure_links row ≡ links_list (items-the_row-Link m row)
links_row m end_of-Link = refl
links_row m (more_of-Link o at p n rest) = ap (PureLinks.link o at p (pure_node n)) (links_row _ rest)

-- operators and operands of a list are read off
links_linked : {lv : Level} {vs : List Tree} {ls : List Link} → Linked lv vs ls → links_list ls ≡ the_links (pure vs)
links_linked no_links = refl
links_linked (one_link {t = t} {l = l} {vs = vs} i b v p r) =
    ap (λ (x : PureLinks). PureLinks.link l.op l.place l.right.place (pure_node l.right.node) x) (links_linked r)
    ∙ ap (λ (x : Place). PureLinks.link l.op x l.right.place (pure_node l.right.node) (the_links (pure vs))) p
    ∙ ap (λ (o : Option BinOp). add_link o t.token.place (pure_expr l.right) (the_links (pure vs))) (sym (ap (of_mark binary_of) i ∙ b))

-- the operators and operands of a chain are read off
pub chain_linked : {lv : Level} (e : Box Expr Global) (ls : Vec Link Global) {vs : List Tree} → Linked lv vs ls.items → pure_links (links_of (Chain e ls)).1 ≡ the_links (pure vs)
chain_linked e ls linked = over_links (λ m row. pure_links row) links_list links_row e ls ∙ links_linked linked

-- operators on words and operands of a list
abbrev word_links_list : List WordLink → PureWordLinks
word_links_list [] = PureWordLinks.no_links
word_links_list (l ∷ ls) = PureWordLinks.link l.op l.place l.right.place (pure_word l.right.node) (word_links_list ls)

-- a row of operators on words and operands is its list
word_links_row : (m : Count) (row : Row_of-WordLink m) → pure_word_links row ≡ word_links_list (items-the_row-WordLink m row)
word_links_row m end_of-WordLink = refl
word_links_row m (more_of-WordLink o at p n rest) = ap (PureWordLinks.link o at p (pure_word n)) (word_links_row _ rest)

-- operators on words and operands of a list are read off
word_links_linked : {lv : WordLevel} {vs : List Tree} {ls : List WordLink} → WordLinked lv vs ls → word_links_list ls ≡ the_word_links (pure vs)
word_links_linked no_links = refl
word_links_linked (one_link {t = t} {l = l} {vs = vs} i b v p r) =
    ap (λ (x : PureWordLinks). PureWordLinks.link l.op l.place l.right.place (pure_word l.right.node) x) (word_links_linked r)
    ∙ ap (λ (x : Place). PureWordLinks.link l.op x l.right.place (pure_word l.right.node) (the_word_links (pure vs))) p
    ∙ ap (λ (o : Option WordOp). add_word_link o t.token.place (pure_word_expr l.right) (the_word_links (pure vs))) (sym (ap (of_mark word_binary_of) i ∙ b))

-- the operators and operands of a chain of words are read off
pub word_chain_linked : {lv : WordLevel} (e : Box WordExpr Global) (ls : Vec WordLink Global) {vs : List Tree} → WordLinked lv vs ls.items
    → pure_word_links (word_links_of (word.Chain e ls)).1 ≡ the_word_links (pure vs)
word_chain_linked e ls linked = over_word_links (λ m row. pure_word_links row) word_links_list word_links_row e ls ∙ word_links_linked linked

-- shifts are read off
pub shifts_linked : {vs : List Tree} {ls : List ShiftLink} → ShiftLinked vs ls → ls ≡ the_shifts (pure vs)
shifts_linked no_links = refl
shifts_linked (one_link {t = t} {l = l} {vs = vs} i b r) =
    ap (λ (x : List ShiftLink). l ∷ x) (shifts_linked r)
    ∙ ap (λ o. add_shift o l.by (the_shifts (pure vs))) (sym (ap (of_mark shift_of) i ∙ b))
