-- What is still to do in a body, and what one part of it promises.
use Rattle.std.specs.Prelude.{ℕ, suc, Option, Some, None, option_map, List, [], ◌∷◌, ◌++◌}
use Rattle.std.specs.Borrow.{Bor}
use Rattle.std.specs.Option.{option_copied}
use Rattle.sc_syntax.specs.declared.Expr.{Expr}
use Rattle.sc_syntax.specs.declared.Stmt.{Stmt}
use Rattle.sc_syntax.specs.Alike.{PureAct, PureHeld, pure_expr, pure_act, pure_stmt_list}
use Rattle.sc_elab.specs.declared.todo.Todo.{Todo}
use Rattle.sc_elab.specs.declared.todo.Todo.TheVariants.{Do, Loop, Rest, Leave}
use Rattle.sc_elab.specs.declared.todo.Rounds.{Rounds}
use Rattle.sc_elab.specs.declared.todo.Request.{Request}
use Rattle.sc_meaning.specs.Outcomes.{Outcome, Done, then_do, leaving}
use Rattle.sc_meaning.specs.Definitions.{Program}
use Rattle.sc_meaning.specs.Run.{Callee, step, act, acts, maybe, otherwise, choose, loop, back_in}
use Rattle.sc_meaning.specs.States.{State, inside, without_scope}

abbrev pub held_by : Option Stmt → PureHeld
held_by None = PureHeld.absent
held_by (Some s) = PureHeld.held s.place (pure_act s.act)

-- ---- statements of the tree, with their parts as the code holds them

abbrev pub if_act : Expr → Stmt → Option Stmt → PureAct
if_act test body other = PureAct.if_else (pure_expr test) body.place (pure_act body.act) (held_by other)

abbrev pub for_act : Option Stmt → Rounds → PureAct
for_act start r =
    PureAct.for_loop (held_by start) (option_map pure_expr (option_copied r.test)) (held_by (option_copied r.advance)) r.body.now.place (pure_act r.body.now.act)

abbrev pub block_act : List Stmt → PureAct
block_act stmts = PureAct.block (pure_stmt_list stmts)

-- ---- what they do

-- a round of a loop without its test: the body in a scope of its own, and then the advance
abbrev pub round_of : Program → Callee → Stmt → PureHeld → State → Outcome State
round_of program call body advance s =
    then_do (inside (step body.place (act program call body.place (pure_act body.act))) s) (maybe program call advance)

-- the rounds that are still to come
abbrev pub looped : Program → Callee → Rounds → State → Outcome State
looped program call r s =
    loop r.at (option_map pure_expr (option_copied r.test)) r.body.now.place (round_of program call r.body.now (held_by (option_copied r.advance))) s

-- an `if` with its body and its `else`
abbrev pub if_on : Program → Callee → Expr → Stmt → Option Stmt → State → Outcome State
if_on program call test body other s =
    choose (pure_expr test) (inside (step body.place (act program call body.place (pure_act body.act)))) (otherwise program call (held_by other)) s

-- a `for`: its start, and then its rounds
abbrev pub for_on : Program → Callee → Option Stmt → Rounds → State → Outcome State
for_on program call start r s = inside (λ s. then_do (maybe program call (held_by start) s) (looped program call r)) s

-- statements in a scope of their own
abbrev pub block_on : Program → Callee → List Stmt → State → Outcome State
block_on program call stmts s = inside (acts program call (pure_stmt_list stmts)) s

-- what a part does
abbrev pub doing : Program → Callee → Todo → State → Outcome State
doing program call (Do p) s = step p.now.place (act program call p.now.place (pure_act p.now.act)) s
doing program call (Loop r) s = looped program call r s
doing program call (Rest xs) s = acts program call (pure_stmt_list xs.now) s
doing program call Leave s = Done [] (without_scope s)

-- what the whole list does, its last part first, and then what follows
abbrev pub pending : Program → Callee → List Todo → (State → Outcome State) → State → Outcome State
pending program call [] go = go
pending program call (t ∷ above) go = pending program call above (λ s. then_do (doing program call t s) go)

-- what a call that a body has come to does
abbrev pub asked : Callee → Request → State → Outcome State
asked call r s = leaving (back_in s) (call r.key r.wires.items s.next)

-- the call, where there is one, and then what follows
abbrev pub after_asked : Callee → Option Request → (State → Outcome State) → State → Outcome State
after_asked call None go s = go s
after_asked call (Some r) go s = then_do (asked call r s) go

-- how many scopes are still to be left
abbrev pub leaves : List Todo → ℕ
leaves [] = 0
leaves (Do p ∷ todo) = leaves todo
leaves (Loop r ∷ todo) = leaves todo
leaves (Rest xs ∷ todo) = leaves todo
leaves (Leave ∷ todo) = suc (leaves todo)

-- ---- what goes on the list

-- a statement, where there is one
abbrev pub to_do : Option (Bor Stmt) → List Todo
to_do None = []
to_do (Some p) = Do p ∷ []

-- what follows the body of a round: its scope is left, then comes the advance, and then the loop again
abbrev pub after_round : Rounds → List Todo
after_round r = Loop r ∷ (to_do r.advance ++ Leave ∷ [])
