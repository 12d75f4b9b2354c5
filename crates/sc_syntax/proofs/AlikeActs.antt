-- Trees of statements by the tree without addresses that they are of.
use Rattle.std.proofs.Common.{◌≡◌, List, Option, refl}
use Rattle.std.specs.Prelude.{map, option_map}
use mathlib.Core.Former.{Count, none_left}
use Rattle.sc_base.specs.declared.Class.{Class}
use Rattle.sc_base.specs.declared.GateName.{GateName}
use Rattle.sc_base.specs.declared.Place.{Place}
use Rattle.sc_syntax.specs.declared.tree.NumSort.{NumSort}
use Rattle.sc_syntax.specs.declared.tree.SetOp.{SetOp}
use Rattle.sc_syntax.specs.declared.tree.Name.{Name}
use Rattle.sc_syntax.specs.declared.tree.Expr.{Expr}
use Rattle.sc_syntax.specs.declared.tree.Decl.{Decl}
use Rattle.sc_syntax.specs.declared.tree.Init.{Init}
use Rattle.sc_syntax.specs.declared.tree.Operand.{Operand}
use Rattle.sc_syntax.specs.declared.tree.Callee.{Callee}
use Rattle.sc_syntax.specs.declared.tree.Act as act
use Rattle.sc_syntax.specs.declared.tree.Act.{Act, If', While', For', Block', Held-Act-If-2, None', Some', Row_of-Stmt, end_of-Stmt, more_of-Stmt}
use Rattle.sc_syntax.specs.Alike.{PureExpr, pure_expr, PureNamed, pure_decl, pure_init, pure_operand, PureAct, PureHeld, PureStmts, wires, numbers, set, measure, call, if_else, while_loop, for_loop, block, empty, absent, held, no_stmts, stmt, pure_act, pure_held, pure_row}

-- a statement is one of a pure one
mutual
  pub data IsAct : PureAct → Act → Type 0 where
    wires_is : {c : Class} {xs : List PureNamed} {ds : List Decl} → map pure_decl ds ≡ xs → IsAct (wires c xs) (act.Wires c ds)
    numbers_is : {s : NumSort} {xs : List PureNamed} {ds : List Init} → map pure_init ds ≡ xs → IsAct (numbers s xs) (act.Numbers s ds)
    set_is : {name : Name} {op : SetOp} {at : Place} {x : Option PureExpr} {value : Option Expr} → option_map pure_expr value ≡ x
        → IsAct (set name op at x) (act.Set (record { name = name; op = op; place = at; value = value }))
    measure_is : {g : GateName} {x y : PureNamed} {into from : Operand} → pure_operand into ≡ x → pure_operand from ≡ y
        → IsAct (measure g x y) (act.Measure (record { gate = g; into = into; from = from }))
    call_is : {callee : Callee} {at : Place} {xs : List PureExpr} {args : List Expr} → map pure_expr args ≡ xs
        → IsAct (call callee at xs) (act.Call (record { callee = callee; place = at; args = args }))
    if_is : {x : PureExpr} {e : Expr} {b : _} {p : Place} {y : PureAct} {a : Act} {z : PureHeld} {other : Held-Act-If-2}
        → pure_expr e ≡ x → IsAct y a → IsHeld z other → IsAct (if_else x p y z) (If' e b p a other)
    while_is : {x : PureExpr} {e : Expr} {b : _} {p : Place} {y : PureAct} {a : Act} → pure_expr e ≡ x → IsAct y a → IsAct (while_loop x p y) (While' e b p a)
    for_is : {s t : PureHeld} {start advance : Held-Act-If-2} {x : Option PureExpr} {test : Option Expr} {b : _} {p : Place} {y : PureAct} {a : Act}
        → IsHeld s start → option_map pure_expr test ≡ x → IsHeld t advance → IsAct y a → IsAct (for_loop s x t p y) (For' start test advance b p a)
    block_is : {xs : PureStmts} {shape : _} {row : _} → AreStmts xs _ row → IsAct (block xs) (Block' shape row)
    empty_is : IsAct empty act.Empty

  -- the same of a statement that may be absent
  pub data IsHeld : PureHeld → Held-Act-If-2 → Type 0 where
    absent_is : IsHeld absent None'
    held_is : {b : _} {p : Place} {x : PureAct} {a : Act} → IsAct x a → IsHeld (held p x) (Some' b p a)

  -- the same of the statements of a block
  pub data AreStmts : PureStmts → (m : Count) → Row_of-Stmt m → Type 0 where
    no_stmts_are : AreStmts no_stmts none_left end_of-Stmt
    stmt_are : {p : Place} {x : PureAct} {a : Act} {xs : PureStmts} {m : Count} {rest : Row_of-Stmt m}
        → IsAct x a → AreStmts xs m rest → AreStmts (stmt p x xs) _ (more_of-Stmt p a rest)

-- a statement is one of its pure statement
mutual
  pub act_is : (a : Act) → IsAct (pure_act a) a
  act_is (act.Wires c ds) = wires_is refl
  act_is (act.Numbers s ds) = numbers_is refl
  act_is (act.Set s) = set_is refl
  act_is (act.Measure m) = measure_is refl refl
  act_is (act.Call c) = call_is refl
  act_is (If' e b p a other) = if_is refl (act_is a) (maybe_is other)
  act_is (While' e b p a) = while_is refl (act_is a)
  act_is (For' start test advance b p a) = for_is (maybe_is start) refl (maybe_is advance) (act_is a)
  act_is (Block' shape row) = block_is (stmts_are row)
  act_is act.Empty = empty_is

  pub maybe_is : (a : Held-Act-If-2) → IsHeld (pure_held a) a
  maybe_is None' = absent_is
  maybe_is (Some' b p a) = held_is (act_is a)

  pub stmts_are : {m : Count} (row : Row_of-Stmt m) → AreStmts (pure_row row) m row
  stmts_are end_of-Stmt = no_stmts_are
  stmts_are (more_of-Stmt p a rest) = stmt_are (act_is a) (stmts_are rest)
