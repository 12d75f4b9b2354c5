-- What parts of a phrase stand for is what is read off them.
use Rattle.std.proofs.Common.{◌≡◌, ◌≢◌, refl, sym, ◌∙◌, ap, false, List, [], ◌∷◌, ◌++◌, map, Option, Some, None}
use Rattle.std.specs.Prelude.{option_map}
use Rattle.std.specs.declared.alloc.Global.{Global}
use Rattle.std.specs.declared.boxed.Box.{Box}
use Rattle.sc_base.specs.declared.GateName.{GateName}
use Rattle.sc_base.specs.declared.Place.{Place}
use Rattle.sc_syntax.specs.declared.Mark.{Mark}
use Rattle.sc_syntax.specs.declared.Mark.TheVariants as mark
use Rattle.sc_syntax.specs.declared.SetOp.{SetOp}
use Rattle.sc_syntax.specs.declared.Name.{Name}
use Rattle.sc_syntax.specs.declared.Width.{Width}
use Rattle.sc_syntax.specs.declared.Expr.{Expr}
use Rattle.sc_syntax.specs.declared.Link.{Link}
use Rattle.sc_syntax.specs.declared.Stmt.{Stmt}
use Rattle.sc_syntax.specs.declared.Act as act
use Rattle.sc_syntax.specs.declared.WordFn.{WordFn}
use Rattle.sc_syntax.specs.declared.Operand.{Operand}
use Rattle.sc_syntax.specs.declared.WordLink.{WordLink}
use Rattle.sc_syntax.specs.declared.ShiftLink.{ShiftLink}
use Rattle.sc_syntax.specs.declared.WordParam.{WordParam}
use Rattle.sc_syntax.specs.declared.Callee.TheVariants as callee
use Rattle.sc_syntax.specs.Alike.{PureNode, PureLinks, PureExpr, PureNamed, PureAct, PureStmts, PureStmt, PureWord, PureWordLinks, PureWordExpr, PureBind, PureSort, PureParam, PurePart, pure_node, pure_expr, pure_operand, pure_act, pure_stmt, pure_word, pure_word_expr, pure_bind}
use Rattle.sc_parse.specs.declared.expr.Level.{Level}
use Rattle.sc_parse.specs.declared.expr.Level.TheVariants as level
use Rattle.sc_parse.specs.declared.word.WordLevel.{WordLevel}
use Rattle.sc_parse.specs.declared.word.WordLevel.TheVariants as wlevel
use Rattle.sc_parse.specs.Form.{Symbol}
use Rattle.sc_parse.specs.Form as symbol
use Rattle.sc_parse.specs.Rules.{chain_of, word_chain_of}
use Rattle.sc_parse.specs.Pieces.{Piece}
use Rattle.sc_parse.specs.Trees as tree
use Rattle.sc_parse.specs.Trees.{Tree, each, if_there, class_of, number_of, unary_of, set_of, step_of}
use Rattle.sc_parse.specs.Derives.{Linked, WordLinked, ShiftLinked, no_links, one_link, Builds, name_is, main_name_is, width_is, wire_is, num_is, int_is, decimal_is, named_is, index_is, paren_is, unary_is, prim_is, operand_is, chain_is, or_is, pick_is, decl_is, init_is, meas_is, set_is, stepped_is, step_is, measured_is, setting_is, call_is, gate_is, start_numbers, start_set, wires_is, numbers_is, done_is, empty_is, block_is, if_is, if_else_is, while_is, for_is, one_is, pointer_is, array_is, int_param_is, double_param_is, module_is, word_int_is, word_name_is, word_paren_is, ext_is, low_is, not_is, word_prim_is, word_operand_is, word_chain_is, word_sum_is, shift_is, word_or_is, word_pick_is, single_is, word_param_is, bind_is, words_is}
use Rattle.sc_parse.proofs.PureTrees.{PureTree, pure_tree, pure, keep, by_kept, token, name, expr, decl, init, meas, part, word_expr}
use Rattle.sc_parse.proofs.Decode.{of_mark, of_word, of_gate, opens_mark, opens, the_expr, the_exprs, the_stmts, the_params, the_word_params, the_width, the_binds, the_links, the_word_links, the_shifts, width_by, wire_by, num_by, at, number_by, prim_by, unary_by, build_chain, does, decl_by, init_by, meas_by, setting, set_by, named_step, token_step, step_all, step_by, start_by, if_by, while_by, for_by, token_stmt, stmt_all, stmt_by, param_of, module_by, word_at, word_token, resized, build_word_chain, build_shift, word_param_by, bind_by, words_of, words_by, build}
use Rattle.sc_parse.proofs.Decoded.{words_parts, expr_there, exprs_each, decls_each, inits_each, params_each, body_each, word_params_each, width_there, binds_each, result_there, block_each, chain_linked, word_chain_linked, shifts_linked}

-- ---- chains

-- each level of operators is read off alike
chain_build : (l : Level) (vs : List PureTree) → build_chain vs ≡ build (chain_of l) vs
chain_build level.Or vs = refl
chain_build level.And vs = refl
chain_build level.Equal vs = refl
chain_build level.Order vs = refl
chain_build level.Shift vs = refl
chain_build level.Sum vs = refl
chain_build level.Product vs = refl

-- each level of operators on words is read off alike
word_chain_build : (l : WordLevel) (vs : List PureTree) → build_word_chain vs ≡ build (word_chain_of l) vs
word_chain_build wlevel.Or vs = refl
word_chain_build wlevel.Xor vs = refl
word_chain_build wlevel.And vs = refl
word_chain_build wlevel.Equal vs = refl
word_chain_build wlevel.Less vs = refl
word_chain_build wlevel.Sum vs = refl
word_chain_build wlevel.Product vs = refl

-- a chain with a link is read off as one
some_links : {l : Level} {vs : List Tree} {ls : List Link} (x : PureExpr) → Linked l vs ls → ls ≢ []
    → at x.place (PureNode.chain x.place x.node (the_links (pure vs))) ≡ build_chain (expr x ∷ pure vs)
some_links x no_links some = absurd (some refl)
some_links x (one_link i b v p r) some = refl

-- a chain of words with a link is read off as one
some_word_links : {l : WordLevel} {vs : List Tree} {ls : List WordLink} (x : PureWordExpr) → WordLinked l vs ls → ls ≢ []
    → word_at x.place (PureWord.chain x.place x.node (the_word_links (pure vs))) ≡ build_word_chain (word_expr x ∷ pure vs)
some_word_links x no_links some = absurd (some refl)
some_word_links x (one_link i b v p r) some = refl

-- a word with a shift is read off as one
some_shifts : {vs : List Tree} {ls : List ShiftLink} (x : PureWordExpr) → ShiftLinked vs ls → ls ≢ []
    → word_at x.place (PureWord.shift x.place x.node (the_shifts (pure vs))) ≡ build_shift (word_expr x ∷ pure vs)
some_shifts x no_links some = absurd (some refl)
some_shifts x (one_link i b r) some = refl

-- ---- statements that set

-- a mark that sets opens no arguments
set_closed : (m : Mark) (o : SetOp) → set_of m ≡ Some o → opens_mark m ≡ false
set_closed mark.OpenParen o e = cc
set_closed _ o e = refl

-- a mark that sets without a value opens no arguments
step_closed : (m : Mark) (o : SetOp) → step_of m ≡ Some o → opens_mark m ≡ false
step_closed mark.OpenParen o e = cc
step_closed _ o e = refl

-- what a measurement keeps is read off alike
measured_by : (n : Name) (i : Option Expr) (g : GateName) (o : Operand) (vs : List PureTree)
    → set_by (pure (tree.name n ∷ (if_there tree.expr i ++ tree.meas g o ∷ []))) vs ≡ step_by (pure (tree.name n ∷ (if_there tree.expr i ++ tree.meas g o ∷ []))) vs
measured_by n None g o vs = refl
measured_by n (Some e) g o vs = refl

-- a measurement is read off the kept parts
measured_there : (n : Name) (i : Option Expr) (g : GateName) (o : Operand) (vs : List PureTree)
    → does n.place (PureAct.measure g (record { name = n; value = option_map pure_expr i }) (pure_operand o)) ≡ set_by (pure (tree.name n ∷ (if_there tree.expr i ++ tree.meas g o ∷ []))) vs
measured_there n None g o vs = refl
measured_there n (Some e) g o vs = refl

-- a level of operators is no `Set`
chain_no_set : (l : Level) → chain_of l ≡ symbol.Set → ⊥
chain_no_set level.Or e = cc
chain_no_set level.And e = cc
chain_no_set level.Equal e = cc
chain_no_set level.Order e = cc
chain_no_set level.Shift e = cc
chain_no_set level.Sum e = cc
chain_no_set level.Product e = cc

-- a level of operators on words is no `Set`
word_chain_no_set : (l : WordLevel) → word_chain_of l ≡ symbol.Set → ⊥
word_chain_no_set wlevel.Or e = cc
word_chain_no_set wlevel.Xor e = cc
word_chain_no_set wlevel.And e = cc
word_chain_no_set wlevel.Equal e = cc
word_chain_no_set wlevel.Less e = cc
word_chain_no_set wlevel.Sum e = cc
word_chain_no_set wlevel.Product e = cc

-- what sets is a step
set_step : {s : Symbol} {vs : List Tree} {v : Tree} → Builds s vs v → s ≡ symbol.Set → build symbol.Set (pure vs) ≡ build symbol.Step (pure vs)
set_step (operand_is l) e = absurd (chain_no_set l e)
set_step (chain_is l ls linked some) e = absurd (chain_no_set l e)
set_step (word_operand_is l) e = absurd (word_chain_no_set l e)
set_step (word_chain_is l ls linked some) e = absurd (word_chain_no_set l e)
set_step (set_is {n = n} {t = t} {m = m} {o = o} {e = x} i b) e =
    sym (ap (named_step n t (expr (pure_expr x) ∷ [])) (ap opens i ∙ set_closed m o b))
set_step (stepped_is {n = n} {t = t} {m = m} {o = o} i b) e = sym (ap (named_step n t []) (ap opens i ∙ step_closed m o b))
set_step (step_is {n = n} {t = t} i b) e = sym (ap (token_step t (name n ∷ [])) (ap of_gate i))
set_step (measured_is {vs = vs} {n = n} {i = i} {g = g} {o = o} k) e =
    sym (by_kept (λ ks. set_by ks (pure vs)) vs k) ∙ measured_by n i g o (pure vs) ∙ by_kept (λ ks. step_by ks (pure vs)) vs k
set_step _ e = cc

-- ---- calls

-- a call keeps no measurement
named_call : (n : Name) (es : List Expr) (vs : List PureTree) → step_all vs ≡ step_by (name n ∷ pure (each tree.expr es)) vs
named_call n [] vs = refl
named_call n (e ∷ []) vs = refl
named_call n (e ∷ d ∷ es) vs = refl

-- a call of a gate keeps no measurement
gate_call : (es : List Expr) (vs : List PureTree) → step_all vs ≡ step_by (pure (each tree.expr es)) vs
gate_call [] vs = refl
gate_call (e ∷ es) vs = refl

-- ---- statements that begin with a token

-- a block keeps no declared wires or numbers
block_first : (ss : List Stmt) (vs : List PureTree) → stmt_all vs ≡ stmt_by (pure (each tree.stmt ss)) vs
block_first [] vs = refl
block_first (s ∷ ss) vs = refl

-- the parts of a `for` behind its word
abbrev for_parts : Piece → Piece → Piece → Piece → Option (Box Stmt Global) → Option (Box Stmt Global) → Option Expr → Box Stmt Global → List Tree
for_parts u v w x a c b s =
    tree.token u ∷ (if_there (λ y. tree.stmt y.value) a ++ tree.token v ∷ (if_there tree.expr b ++ tree.token w ∷ (if_there (λ y. tree.stmt y.value) c ++ tree.token x ∷ tree.stmt s.value ∷ [])))

-- a `for` is read off the parts behind its word
for_there : (p : Place) (u v w x : Piece) (a c : Option (Box Stmt Global)) (b : Option Expr) (s : Box Stmt Global)
    → does p (pure_act (act.For a b c s)) ≡ for_by p (pure (for_parts u v w x a c b s))
for_there p u v w x None None None s = refl
for_there p u v w x None None (Some b) s = refl
for_there p u v w x None (Some c) None s = refl
for_there p u v w x None (Some c) (Some b) s = refl
for_there p u v w x (Some a) None None s = refl
for_there p u v w x (Some a) None (Some b) s = refl
for_there p u v w x (Some a) (Some c) None s = refl
for_there p u v w x (Some a) (Some c) (Some b) s = refl

-- a `for` keeps no declared wires or numbers
for_first : (u v w x : Piece) (a c : Option (Box Stmt Global)) (b : Option Expr) (s : Box Stmt Global) (vs : List PureTree)
    → stmt_all vs ≡ stmt_by (keep (pure (for_parts u v w x a c b s))) vs
for_first u v w x None None None s vs = refl
for_first u v w x None None (Some b) s vs = refl
for_first u v w x None (Some c) None s vs = refl
for_first u v w x None (Some c) (Some b) s vs = refl
for_first u v w x (Some a) None None s vs = refl
for_first u v w x (Some a) None (Some b) s vs = refl
for_first u v w x (Some a) (Some c) None s vs = refl
for_first u v w x (Some a) (Some c) (Some b) s vs = refl

-- ---- each symbol

-- the parts of a classical function behind its name
abbrev function_parts : WordFn → List PureTree
function_parts f = pure (words_parts f.params f.width f.binds f.result)

-- what parts of a phrase stand for is what is read off them
pub built_as : {s : Symbol} {vs : List Tree} {v : Tree} → Builds s vs v → pure_tree v ≡ build s (pure vs)
built_as name_is = refl
built_as main_name_is = refl
built_as (width_is {t = t} i) = sym (ap (width_by t.token.place) i)
built_as (wire_is {t = t} i c) = sym (ap (wire_by t.token.place) (ap (of_word class_of) i ∙ c))
built_as (num_is {t = t} i n) = sym (ap (num_by t.token.place) (ap (of_word number_of) i ∙ n))
built_as (int_is {t = t} i) = sym (ap (number_by t.token.place) i)
built_as (decimal_is {t = t} i) = sym (ap (number_by t.token.place) i)
built_as (named_is {vs = vs} k) = by_kept (λ ks. prim_by ks (pure vs)) vs k
built_as (index_is {vs = vs} k) = by_kept (λ ks. prim_by ks (pure vs)) vs k
built_as paren_is = refl
built_as (unary_is {t = t} {e = e} i u) = sym (ap (λ o. unary_by t.token.place o (pure_expr e.value)) (ap (of_mark unary_of) i ∙ u))
built_as prim_is = refl
built_as (operand_is l {e = e}) = chain_build l (expr (pure_expr e) ∷ [])
built_as (chain_is l {e = e} {vs = vs} ls linked some) =
    ap (λ (x : PureLinks). at e.value.place (PureNode.chain e.value.place (pure_node e.value.node) x)) (chain_linked e ls linked)
    ∙ some_links (pure_expr e.value) linked some
    ∙ chain_build l (expr (pure_expr e.value) ∷ pure vs)
built_as or_is = refl
built_as pick_is = refl
built_as (decl_is {vs = vs} {d = d} k) = ap (λ (o : Option PureExpr). decl (record { name = d.name; value = o })) (expr_there d.size) ∙ by_kept decl_by vs k
built_as (init_is {vs = vs} {i = x} k) = ap (λ (o : Option PureExpr). init (record { name = x.name; value = o })) (expr_there x.start) ∙ by_kept init_by vs k
built_as (meas_is {vs = vs} {g = g} {o = o} i m k) =
    ap (λ (x : Option PureExpr). meas g (record { name = o.name; value = x })) (expr_there o.index)
    ∙ by_kept (meas_by (Some g)) vs k
    ∙ sym (ap (λ (x : Option GateName). meas_by x (keep (pure vs))) (ap of_gate i))
built_as (set_is {n = n} {t = t} {e = e} i b) = sym (ap (setting n.place n t.token.place (Some (pure_expr e))) (ap (of_mark set_of) i ∙ b))
built_as (stepped_is {n = n} {t = t} i b) = sym (ap (setting n.place n t.token.place None) (ap (of_mark step_of) i ∙ b))
built_as (step_is {n = n} {t = t} i b) = sym (ap (setting t.token.place n t.token.place None) (ap (of_mark step_of) i ∙ b))
built_as (measured_is {vs = vs} {n = n} {i = i} {g = g} {o = o} k) = measured_there n i g o (pure vs) ∙ by_kept (λ ks. set_by ks (pure vs)) vs k
built_as (setting_is b) = built_as b ∙ set_step b refl
built_as (call_is {n = n} {t = t} {vs = vs} {es = es} i k) =
    ap (λ (l : List PureExpr). does n.place (PureAct.call (callee.Named n.text) n.place l)) (exprs_each es ∙ by_kept the_exprs vs k)
    ∙ sym (ap (named_step n t (pure vs)) (ap opens i))
    ∙ named_call n es (name n ∷ token t ∷ pure vs)
    ∙ by_kept (λ ks. step_by (name n ∷ ks) (name n ∷ token t ∷ pure vs)) vs k
built_as (gate_is {t = t} {g = g} {vs = vs} {es = es} i k) =
    ap (λ (l : List PureExpr). does t.token.place (PureAct.call (callee.Gate g) t.token.place l)) (exprs_each es ∙ by_kept the_exprs vs k)
    ∙ sym (ap (token_step t (pure vs)) (ap of_gate i))
    ∙ gate_call es (token t ∷ pure vs)
    ∙ by_kept (λ ks. step_by ks (token t ∷ pure vs)) vs k
built_as (start_numbers {vs = vs} {n = n} {p = p} {is = is} k) = ap (λ (l : List PureNamed). does p (PureAct.numbers n l)) (inits_each is) ∙ by_kept start_by vs k
built_as start_set = refl
built_as (wires_is {vs = vs} {c = c} {p = p} {ds = ds} k) =
    ap (λ (l : List PureNamed). does p (PureAct.wires c l)) (decls_each ds) ∙ by_kept (λ ks. stmt_by ks (pure vs)) vs k
built_as (numbers_is {vs = vs} {n = n} {p = p} {is = is} k) =
    ap (λ (l : List PureNamed). does p (PureAct.numbers n l)) (inits_each is) ∙ by_kept (λ ks. stmt_by ks (pure vs)) vs k
built_as done_is = refl
built_as (empty_is {t = t} i) = sym (ap (token_stmt t.token.place []) i)
built_as (block_is {t = t} {vs = vs} ss i k) =
    ap (λ (x : PureStmts). does t.token.place (PureAct.block x)) (block_each ss ∙ by_kept the_stmts vs k)
    ∙ sym (ap (token_stmt t.token.place (pure vs)) i)
    ∙ block_first ss.items (token t ∷ pure vs)
    ∙ by_kept (λ ks. stmt_by ks (token t ∷ pure vs)) vs k
built_as (if_is {t = t} {vs = vs} i k) =
    by_kept (if_by t.token.place) vs k ∙ sym (ap (token_stmt t.token.place (pure vs)) i) ∙ by_kept (λ ks. stmt_by ks (token t ∷ pure vs)) vs k
built_as (if_else_is {t = t} {vs = vs} i k) =
    by_kept (if_by t.token.place) vs k ∙ sym (ap (token_stmt t.token.place (pure vs)) i) ∙ by_kept (λ ks. stmt_by ks (token t ∷ pure vs)) vs k
built_as (while_is {t = t} {vs = vs} i k) =
    by_kept (while_by t.token.place) vs k ∙ sym (ap (token_stmt t.token.place (pure vs)) i) ∙ by_kept (λ ks. stmt_by ks (token t ∷ pure vs)) vs k
built_as (for_is t u v w x a c b s i) =
    for_there t.token.place u v w x a c b s
    ∙ sym (ap (token_stmt t.token.place (pure (for_parts u v w x a c b s))) i)
    ∙ for_first u v w x a c b s (token t ∷ pure (for_parts u v w x a c b s))
built_as one_is = refl
built_as pointer_is = refl
built_as (array_is {c = c} {n = n} {vs = vs} {e = e} k) = ap (λ (o : Option PureExpr). param_of n (PureSort.many c o)) (expr_there e ∙ by_kept the_expr vs k)
built_as int_param_is = refl
built_as double_param_is = refl
built_as (module_is {vs = vs} {x = x} k) =
    ap (λ (l : List PureParam). part (PurePart.of_module x.name l (map pure_stmt x.body))) (params_each x.params x.body)
    ∙ ap (λ (l : List PureStmt). part (PurePart.of_module x.name (the_params (pure (each tree.param x.params ++ each tree.stmt x.body))) l)) (body_each x.params x.body)
    ∙ by_kept module_by vs k
built_as (word_int_is {t = t} i) = sym (ap (word_token t) i)
built_as (word_name_is {t = t} i) = sym (ap (word_token t) i)
built_as word_paren_is = refl
built_as (ext_is {t = t} {e = e} {n = n} i) = sym (ap (resized t.token.place (pure_word_expr e.value) n) i)
built_as (low_is {t = t} {e = e} {n = n} i) = sym (ap (resized t.token.place (pure_word_expr e.value) n) i)
built_as not_is = refl
built_as word_prim_is = refl
built_as (word_operand_is l {e = e}) = word_chain_build l (word_expr (pure_word_expr e) ∷ [])
built_as (word_chain_is l {e = e} {vs = vs} ls linked some) =
    ap (λ (x : PureWordLinks). word_at e.value.place (PureWord.chain e.value.place (pure_word e.value.node) x)) (word_chain_linked e ls linked)
    ∙ some_word_links (pure_word_expr e.value) linked some
    ∙ word_chain_build l (word_expr (pure_word_expr e.value) ∷ pure vs)
built_as word_sum_is = refl
built_as (shift_is {e = e} linked some) =
    ap (λ (x : List ShiftLink). word_at e.value.place (PureWord.shift e.value.place (pure_word e.value.node) x)) (shifts_linked linked)
    ∙ some_shifts (pure_word_expr e.value) linked some
built_as word_or_is = refl
built_as word_pick_is = refl
built_as single_is = refl
built_as (word_param_is {vs = vs} k) = by_kept word_param_by vs k
built_as (bind_is {vs = vs} k) = by_kept bind_by vs k
built_as (words_is {vs = vs} {f = f} k) =
    ap (λ (l : List WordParam). words_of f.name l (Some f.width) (map pure_bind f.binds) (Some (pure_word_expr f.result))) (word_params_each f.params f.width f.binds f.result)
    ∙ ap (λ (w : Option Width). words_of f.name (the_word_params (function_parts f)) w (map pure_bind f.binds) (Some (pure_word_expr f.result))) (width_there f.params f.width f.binds f.result)
    ∙ ap (λ (l : List PureBind). words_of f.name (the_word_params (function_parts f)) (the_width (function_parts f)) l (Some (pure_word_expr f.result))) (binds_each f.params f.width f.binds f.result)
    ∙ ap (λ (r : Option PureWordExpr). words_of f.name (the_word_params (function_parts f)) (the_width (function_parts f)) (the_binds (function_parts f)) r) (result_there f.params f.width f.binds f.result)
    ∙ by_kept words_by vs k
