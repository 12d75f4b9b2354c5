-- The walk over the open scopes: the scopes that it leaves, or the first fault. This is what the functions of this crate promise one another.
use Rattle.std.specs.Prelude.{Option, Some, None, option_map, Result, Ok, Err, List, [], ◌∷◌, map}
use Rattle.std.specs.declared.alloc.Global.{Global}
use Rattle.std.specs.declared.boxed.Box.{Box}
use Rattle.sc_base.specs.declared.Class.{Class}
use Rattle.sc_syntax.specs.declared.NameKind.TheVariants as kind
use Rattle.sc_syntax.specs.declared.NumSort.{NumSort}
use Rattle.sc_syntax.specs.declared.Decl.{Decl}
use Rattle.sc_syntax.specs.declared.Init.{Init}
use Rattle.sc_syntax.specs.declared.Stmt.{Stmt}
use Rattle.sc_syntax.specs.declared.Act.{Act, Wires, Numbers, Set, Measure, Call, If', While', For', Block', Empty, Held-Act-If-2, None', Some', Row_of-Stmt, end_of-Stmt, more_of-Stmt}
use Rattle.sc_syntax.specs.Alike.{PurePart, pure_expr, pure_operand}
use Rattle.sc_types.specs.declared.fault.TypeFault.{TypeFault}
use Rattle.sc_types.specs.Checks.{first_fault}
use Rattle.sc_types.specs.Numbers.{number_checks, int_checks}
use Rattle.sc_types.specs.Scopes.{Stack, kind_in, kinds_in, declared, left}
use Rattle.sc_types.specs.Sorts.{◌>>=◌}
use Rattle.sc_types.specs.Statements.{optional, wire_kind, start_checks, set_checks, measure_checks, call_checks}

-- the fault of the checks, or else the rest
abbrev pub unless : Option TypeFault → Result Stack TypeFault → Result Stack TypeFault
unless None rest = rest
unless (Some f) rest = Err f

abbrev pub wire_on : Class → Stack → Decl → Result Stack TypeFault
wire_on c stack d = unless (first_fault (optional (int_checks (kinds_in stack)) (option_map pure_expr d.size))) (declared stack d.name (wire_kind c (option_map pure_expr d.size)))

abbrev pub wires_on : Class → Stack → List Decl → Result Stack TypeFault
wires_on c stack [] = Ok stack
wires_on c stack (d ∷ ds) = wire_on c stack d >>= λ after. wires_on c after ds

abbrev pub init_on : NumSort → Stack → Init → Result Stack TypeFault
init_on s stack d = unless (first_fault (optional (start_checks (kinds_in stack) s) (option_map pure_expr d.start))) (declared stack d.name (kind.Number s))

abbrev pub inits_on : NumSort → Stack → List Init → Result Stack TypeFault
inits_on s stack [] = Ok stack
inits_on s stack (d ∷ ds) = init_on s stack d >>= λ after. inits_on s after ds

-- in a scope of its own, which is left at the end
abbrev pub inside : (Stack → Result Stack TypeFault) → Stack → Result Stack TypeFault
inside walk stack = walk ([] ∷ stack) >>= λ after. Ok (left after)

abbrev mutual
  pub act_on : List PurePart → Stack → Act → Result Stack TypeFault
  act_on parts stack (Wires c ds) = wires_on c stack ds
  act_on parts stack (Numbers s ds) = inits_on s stack ds
  act_on parts stack (Set s) = unless (first_fault (set_checks (kind_in stack) s.name s.op s.place (option_map pure_expr s.value))) (Ok stack)
  act_on parts stack (Measure m) = unless (first_fault (measure_checks (kinds_in stack) (pure_operand m.into) (pure_operand m.from))) (Ok stack)
  act_on parts stack (Call c) = unless (first_fault (call_checks parts (kinds_in stack) c.callee c.place (map pure_expr c.args))) (Ok stack)
  act_on parts stack (If' e b p act other) =
      unless (first_fault (number_checks (kinds_in stack) (pure_expr e))) (inside (λ inner. act_on parts inner act) stack >>= λ after. else_on parts after other)
  act_on parts stack (While' e b p act) = unless (first_fault (number_checks (kinds_in stack) (pure_expr e))) (inside (λ inner. act_on parts inner act) stack)
  act_on parts stack (For' start test advance b p act) =
      inside (λ begun. held_on parts begun start >>= λ begun. unless (first_fault (optional (number_checks (kinds_in begun)) (option_map pure_expr test)))
      (held_on parts begun advance >>= λ begun. inside (λ inner. act_on parts inner act) begun)) stack
  act_on parts stack (Block' shape row) = inside (λ inner. row_on parts inner row) stack
  act_on parts stack Empty = Ok stack

  -- a start or an advance
  pub held_on : List PurePart → Stack → Held-Act-If-2 → Result Stack TypeFault
  held_on parts stack None' = Ok stack
  held_on parts stack (Some' b p act) = act_on parts stack act

  pub else_on : List PurePart → Stack → Held-Act-If-2 → Result Stack TypeFault
  else_on parts stack None' = Ok stack
  else_on parts stack (Some' b p act) = inside (λ inner. act_on parts inner act) stack

  pub row_on : {m : _} → List PurePart → Stack → Row_of-Stmt m → Result Stack TypeFault
  row_on parts stack end_of-Stmt = Ok stack
  row_on parts stack (more_of-Stmt place act rest) = act_on parts stack act >>= λ after. row_on parts after rest

-- the same of a start or an advance as it is in the code
abbrev pub stmt_on : List PurePart → Stack → Option (Box Stmt Global) → Result Stack TypeFault
stmt_on parts stack None = Ok stack
stmt_on parts stack (Some stmt) = act_on parts stack stmt.value.act

abbrev pub stmts_on : List PurePart → Stack → List Stmt → Result Stack TypeFault
stmts_on parts stack [] = Ok stack
stmts_on parts stack (s ∷ ss) = act_on parts stack s.act >>= λ after. stmts_on parts after ss
